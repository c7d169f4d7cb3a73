-- The equation sets (IEEE 1076.1 names them; their discrete forms are own), and what a break replaces.
use Rattle.std.specs.Prelude.{ℕ, zero, suc, ◌+◌, ◌*◌, nat_eq, Bool, true, false, ℤ, pos, ◌+ℤ◌, ◌*ℤ◌, neg_ℤ, if◌then◌else◌, List, [], ◌∷◌, ◌++◌, map, Option, Some, None, Result, Ok}
use Rattle.std.specs.List.{enumerate_from}
use Rattle.fix_core.specs.Passes.{◌>>=◌}
use Rattle.fix_core.specs.Rounding.{rnd}
use Rattle.fix_core.specs.Units.{one, units_per_one}
use Rattle.flat_expr.specs.declared.expr.Unknown.{Unknown}
use Rattle.flat_expr.specs.declared.expr.Unknown.TheVariants.{Quantity, Reference, Dot}
use Rattle.flat_design.specs.declared.objects.Terminal.{Terminal}
use Rattle.flat_design.specs.declared.objects.Terminal.TheVariants as terminal
use Rattle.flat_design.specs.declared.objects.Quantity.{Quantity as QuantityObject}
use Rattle.flat_design.specs.declared.objects.QuantityKind.{QuantityKind}
use Rattle.flat_design.specs.declared.objects.QuantityKind.TheVariants as kind
use Rattle.flat_design.specs.declared.objects.Pair.{Pair}
use Rattle.flat_design.specs.declared.objects.IfArm.{IfArm}
use Rattle.flat_design.specs.declared.objects.CaseArm.{CaseArm}
use Rattle.flat_design.specs.declared.objects.Selection.{Selection}
use Rattle.flat_design.specs.declared.objects.Selection.TheVariants as selection
use Rattle.flat_design.specs.declared.objects.Equation.{Equation}
use Rattle.flat_design.specs.declared.objects.Equation.TheVariants as equation
use Rattle.flat_design.specs.declared.objects.Objects.{Objects}
use Rattle.step_data.specs.declared.breaks.Element.{Element}
use Rattle.design_meaning.specs.declared.fault.EvalFault.{EvalFault}
use Rattle.design_meaning.specs.Readings.{Readings, unknown_of}
use Rattle.design_meaning.specs.Value.{Meaning, meaning_of, number_of, plus, minus, times, same_unknown}

-- an end of a branch at a node: the through quantity, and whether it is the minus end
pub record BranchEnd : Type 0 where
  pub quantity : ℕ
  pub minus_end : Bool

-- an equation of a set, each a pair of sides
pub data Row : Type 0 where
  -- the two sides of a simple simultaneous statement
  written : Meaning → Meaning → Row
  -- the conservation sum of a node, and 0
  balance : List BranchEnd → Row
  -- an across quantity, and the difference of its terminals' references
  difference : ℕ → Terminal → Terminal → Row
  -- an unknown, and a value
  given : Unknown → ℤ → Row
  -- by backward Euler: a quantity, and its value at the tip plus the step times the dot
  euler : ℕ → ℕ → ℤ → ℕ → Row
  -- by the trapezoidal rule: a quantity, and its value at the tip plus half the step times the sum of the dot and its value at the tip
  trapezoid : ℕ → ℕ → ℤ → ℤ → ℕ → Row

-- ---- residuals: left minus right

abbrev pub reference_of : Readings → Terminal → ℤ
reference_of r (terminal.Node i) = unknown_of r (Reference i)
reference_of r terminal.Reference = pos 0

-- a total with a further branch end, plus at the plus end and minus at the minus end
abbrev pub ended : BranchEnd → ℤ → ℤ → Result ℤ EvalFault
ended e total v = if e.minus_end then minus total v else plus total v

unfoldable pub balance_from : Readings → ℤ → List BranchEnd → Result ℤ EvalFault
balance_from r total [] = Ok total
balance_from r total (e ∷ more) = do
  next ← ended e total (unknown_of r (Quantity e.quantity))
  balance_from r next more

abbrev pub residual_of : Row → Readings → Result ℤ EvalFault
residual_of (written a b) r = do
  left ← number_of (a.value r)
  right ← number_of (b.value r)
  minus left right
residual_of (balance ends) r = balance_from r (pos 0) ends
residual_of (difference q plus_end minus_end) r = do
  between ← minus (reference_of r plus_end) (reference_of r minus_end)
  minus (unknown_of r (Quantity q)) between
residual_of (given u v) r = minus (unknown_of r u) v
residual_of (euler q d start s) r = do
  gain ← times (pos s) (unknown_of r (Dot d))
  right ← plus start gain
  minus (unknown_of r (Quantity q)) right
residual_of (trapezoid q d start rate s) r = do
  right ← plus start (rnd (pos s *ℤ (unknown_of r (Dot d) +ℤ rate)) (pos (2 * units_per_one)))
  minus (unknown_of r (Quantity q)) right

-- ---- slopes

abbrev pub at_unknown : Unknown → Unknown → ℤ → ℤ
at_unknown u v slope = if same_unknown u v then slope else pos 0

abbrev pub end_slope : Unknown → BranchEnd → ℤ
end_slope u e = at_unknown (Quantity e.quantity) u (if e.minus_end then neg_ℤ one else one)

abbrev pub ends_slope : Unknown → List BranchEnd → ℤ
ends_slope u [] = pos 0
ends_slope u (e ∷ more) = end_slope u e +ℤ ends_slope u more

abbrev pub reference_slope : Unknown → Terminal → ℤ → ℤ
reference_slope u (terminal.Node i) slope = at_unknown (Reference i) u slope
reference_slope u terminal.Reference slope = pos 0

abbrev pub row_slope : Row → Readings → Unknown → Result ℤ EvalFault
row_slope (written a b) r u = do
  left ← a.slope u r
  right ← b.slope u r
  minus left right
row_slope (balance ends) r u = Ok (ends_slope u ends)
row_slope (difference q plus_end minus_end) r u =
    Ok (at_unknown (Quantity q) u one +ℤ reference_slope u plus_end (neg_ℤ one) +ℤ reference_slope u minus_end one)
row_slope (given v x) r u = Ok (at_unknown v u one)
row_slope (euler q d start s) r u = Ok (at_unknown (Quantity q) u one +ℤ at_unknown (Dot d) u (neg_ℤ (pos s)))
row_slope (trapezoid q d start rate s) r u =
    Ok (at_unknown (Quantity q) u one +ℤ at_unknown (Dot d) u (neg_ℤ (rnd (pos s) (pos 2))))

-- ---- the explicit equations

-- the equations of a numbered branch of a choice: the arms in order, and the last branch of an if
abbrev pub if_branch : List IfArm → List Pair → ℕ → List Pair
if_branch [] last b = last
if_branch (arm ∷ more) last zero = arm.pairs
if_branch (arm ∷ more) last (suc b) = if_branch more last b

abbrev pub case_branch : List CaseArm → ℕ → List Pair
case_branch [] b = []
case_branch (arm ∷ more) zero = arm.pairs
case_branch (arm ∷ more) (suc b) = case_branch more b

abbrev pub branch_of : Selection → ℕ → List Pair
branch_of (selection.If arms last) b = if_branch arms last b
branch_of (selection.Case expression arms) b = case_branch arms b

-- in walk order, a choice giving the equations of its chosen branch; the choices take their branches from the list in order
abbrev pub chosen_pairs : List Equation → List ℕ → List Pair
chosen_pairs [] branches = []
chosen_pairs (equation.Pair p ∷ more) branches = p ∷ chosen_pairs more branches
chosen_pairs (equation.Choice c ∷ more) (b ∷ branches) = branch_of c.selection b ++ chosen_pairs more branches
chosen_pairs (equation.Choice c ∷ more) [] = chosen_pairs more []

-- ---- nodes and across quantities

abbrev pub is_node : ℕ → Terminal → Bool
is_node i (terminal.Node j) = nat_eq i j
is_node i terminal.Reference = false

abbrev pub end_at : Bool → BranchEnd → List BranchEnd
end_at true e = e ∷ []
end_at false e = []

-- the ends of a quantity's branch at a node, the plus end first
abbrev pub ends_by : ℕ → ℕ → QuantityKind → List BranchEnd
ends_by node q (kind.Through plus_end minus_end) =
    end_at (is_node node plus_end) (record { quantity = q; minus_end = false })
    ++ end_at (is_node node minus_end) (record { quantity = q; minus_end = true })
ends_by node q _ = []

-- the branch ends at a node, over the through quantities in order
abbrev pub ends_from : ℕ → ℕ → List QuantityObject → List BranchEnd
ends_from node q [] = []
ends_from node q (x ∷ more) = ends_by node q x.kind ++ ends_from node (q + 1) more

abbrev pub ends_at : Objects → ℕ → List BranchEnd
ends_at objects node = ends_from node 0 objects.quantities

abbrev pub sums_of : Objects → List Row
sums_of objects = map (λ (p : ℕ × _). balance (ends_at objects p.0)) (enumerate_from 0 objects.nodes)

abbrev pub difference_by : ℕ → QuantityKind → List Row
difference_by q (kind.Across plus_end minus_end) = difference q plus_end minus_end ∷ []
difference_by q _ = []

abbrev pub differences_from : ℕ → List QuantityObject → List Row
differences_from q [] = []
differences_from q (x ∷ more) = difference_by q x.kind ++ differences_from (q + 1) more

-- ---- augmentation

-- which set: quiescent; discontinuity, with the values just before; or time domain, with a step from a tip of these values
pub data Augmentation : Type 0 where
  quiescent : Augmentation
  discontinuity : Readings → Augmentation
  time_domain : Readings → Bool → ℕ → Augmentation

-- the augmentation equation of a dot and its quantity
abbrev pub augmentation : Augmentation → ℕ → ℕ → Row
augmentation quiescent d q = given (Dot d) (pos 0)
augmentation (discontinuity x) d q = given (Quantity q) (unknown_of x (Quantity q))
augmentation (time_domain x true s) d q = euler q d (unknown_of x (Quantity q)) s
augmentation (time_domain x false s) d q = trapezoid q d (unknown_of x (Quantity q)) (unknown_of x (Dot d)) s

-- the last element with this selector
abbrev pub element_of : ℕ → List Element → Option Element
element_of p [] = None
element_of p (e ∷ more) = later (element_of p more) (if nat_eq e.selector p then Some e else None)
  where
    later : Option Element → Option Element → Option Element
    later (Some x) found = Some x
    later None found = found

-- a break element in place of the augmentation equation
abbrev pub replaced_by_break : Option Element → Row → Row
replaced_by_break (Some e) row = given (Quantity e.quantity) e.value
replaced_by_break None row = row

abbrev pub augmentations_from : Augmentation → List Element → ℕ → List ℕ → List Row
augmentations_from set elements d [] = []
augmentations_from set elements d (q ∷ more) =
    replaced_by_break (element_of q elements) (augmentation set d q) ∷ augmentations_from set elements (d + 1) more

abbrev pub row_of : Pair → Row
row_of p = written (meaning_of p.left) (meaning_of p.right)

-- the equations that every set has: the explicit ones, the sum of each node, and each across quantity
abbrev pub common_rows : Objects → List ℕ → List Row
common_rows objects branches =
    map row_of (chosen_pairs objects.equations branches) ++ sums_of objects ++ differences_from 0 objects.quantities

-- those, and then the augmentation equation of each dot
unfoldable pub rows_of : Objects → List ℕ → Augmentation → List Element → List Row
rows_of objects branches set elements = common_rows objects branches ++ augmentations_from set elements 0 objects.dots
