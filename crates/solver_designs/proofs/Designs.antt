-- The designs of the cases are well formed.
use Rattle.std.proofs.Common.{◌≡◌, ◌<◌, ◌≤◌, refl, ap, sym, ◌∙◌, subst, ℕ, ℤ, pos, Bool, true, false, List, [], ◌∷◌, ◌++◌, length, Option, Some, arith}
use Rattle.std.specs.Prelude.{codes, if◌then◌else◌}
use Rattle.std.specs.List.{All}
use Rattle.std.proofs.lemmas.List.Elements.{All-nil, All-from_recursion}
use Rattle.ams_value.specs.declared.op.BinaryOperator.{BinaryOperator}
use Rattle.ams_value.specs.declared.op.BinaryOperator.TheVariants.{Multiply, Subtract, Equal}
use Rattle.ams_value.specs.declared.val.Val.{Val}
use Rattle.ams_value.specs.declared.val.Val.TheVariants as val
use Rattle.ams_value.specs.declared.value_type.ValueType.{ValueType}
use Rattle.ams_value.specs.declared.value_type.ValueType.TheVariants.{Boolean, Bit, Real}
use Rattle.flat_expr.specs.declared.expr.SignalName.{SignalName}
use Rattle.flat_expr.specs.declared.expr.SignalName.TheVariants.{Signal}
use Rattle.flat_expr.specs.declared.expr.Unknown.{Unknown}
use Rattle.flat_expr.specs.declared.expr.Unknown.TheVariants as unknown
use Rattle.flat_expr.specs.declared.expr.FlatExpr.{FlatExpr}
use Rattle.flat_expr.specs.declared.expr.FlatExpr.TheOpen.{FlatExpr-F}
use Rattle.flat_expr.specs.declared.expr.FlatExpr.TheVariants as e
use Rattle.flat_expr.specs.declared.expr.FlatExpr.TheVariants.{rolls-Literal, rolls-Signal, rolls-Unknown, rolls-NowReal, rolls-Binary}
use Rattle.flat_expr.specs.declared.expr.FlatExpr.TheFolds.{fold-roll-FlatExpr}
use Rattle.flat_design.specs.declared.objects.Objects.{Objects}
use Rattle.flat_design.specs.declared.objects.Equation.TheVariants.{Choice}
use Rattle.flat_design.specs.Flat.{HasNumbers}
use Rattle.flat_design.specs.Limits.{frame_limit}
use Rattle.flat_design.specs.Reads.{is_read}
use Rattle.design_meaning.specs.Typed.{Scope, typed, type_at, agreed, binary_result, HasType}
use Rattle.design_rules.specs.Types.{equation_scope}
use Rattle.design_rules.specs.Branches.{HasFewBranches}
use Rattle.design_rules.specs.Equations.{IsPair, IsIfArm, IsEquation}
use Rattle.design_rules.specs.Design.{IsEnumeration, IsSignal, IsQuantity, IsThreshold, IsRamp, IsProcess, IsSolvable, KeepsLimits, IsDesign, literal_limit, domain_type}
use Rattle.solver_designs.specs.Designs.{number, times, less, instance, branches, charging, charged_capacitor, nanoseconds, polynomial, polynomial_slope, chooser, is_high, has_level, high_arm, choice, chosen_level}

-- ---- types of expressions

typed_literal : (scope : Scope) (v : Val) → typed scope (e.Literal v) ≡ type_at scope (FlatExpr-F.Literal v)
typed_literal scope v = ap (typed scope) (sym (rolls-Literal v)) ∙ fold-roll-FlatExpr (Option ValueType) (type_at scope) (FlatExpr-F.Literal v)

typed_unknown : (scope : Scope) (u : Unknown) → typed scope (e.Unknown u) ≡ type_at scope (FlatExpr-F.Unknown u)
typed_unknown scope u = ap (typed scope) (sym (rolls-Unknown u)) ∙ fold-roll-FlatExpr (Option ValueType) (type_at scope) (FlatExpr-F.Unknown u)

typed_now : (scope : Scope) → typed scope e.NowReal ≡ Some Real
typed_now scope = ap (typed scope) (sym rolls-NowReal) ∙ fold-roll-FlatExpr (Option ValueType) (type_at scope) FlatExpr-F.NowReal

typed_signal : (scope : Scope) (s : SignalName) (k : ValueType) → typed scope (e.Signal s k) ≡ type_at scope (FlatExpr-F.Signal s k)
typed_signal scope s k = ap (typed scope) (sym (rolls-Signal s k)) ∙ fold-roll-FlatExpr (Option ValueType) (type_at scope) (FlatExpr-F.Signal s k)

typed_binary : (scope : Scope) (o : BinaryOperator) (k : ValueType) (a b : FlatExpr) → typed scope (e.Binary o k a b) ≡ agreed k (binary_result o (typed scope a) (typed scope b))
typed_binary scope o k a b = ap (typed scope) (sym (rolls-Binary o k a b)) ∙ fold-roll-FlatExpr (Option ValueType) (type_at scope) (FlatExpr-F.Binary o k a b)

number_is : (scope : Scope) (units : ℤ) → type_at scope (FlatExpr-F.Literal (val.Real units)) ≡ Some Real → HasType scope (number units) Real
number_is scope units h = typed_literal scope (val.Real units) ∙ h

unknown_is : (scope : Scope) (u : Unknown) → type_at scope (FlatExpr-F.Unknown u) ≡ Some Real → HasType scope (e.Unknown u) Real
unknown_is scope u h = typed_unknown scope u ∙ h

times_is : (scope : Scope) (a b : FlatExpr) → HasType scope a Real → HasType scope b Real → HasType scope (times a b) Real
times_is scope a b left right = typed_binary scope Multiply Real a b ∙ rw (left, right) refl

less_is : (scope : Scope) (a b : FlatExpr) → HasType scope a Real → HasType scope b Real → HasType scope (less a b) Real
less_is scope a b left right = typed_binary scope Subtract Real a b ∙ rw (left, right) refl

-- ---- what each design has

abbrev HasRoom : List ℕ → Type 0
HasRoom name = length name ≤ literal_limit

domain_kept : IsEnumeration domain_type
domain_kept =
    record {
      count = omega arith;
      literals = All-from_recursion HasRoom domain_type.literals (omega arith, (omega arith, (omega arith, tt)));
    }

abbrev IsDot : Objects → ℕ → Type 0
IsDot objects q = q < length objects.quantities

-- ---- the charged capacitor

abbrev rc : Scope
rc = equation_scope charged_capacitor

source_kept : IsPair charged_capacitor (record { left = e.Unknown (unknown.Quantity 0); right = number (pos 5000000000000) })
source_kept = record { left = unknown_is rc (unknown.Quantity 0) refl; right = number_is rc (pos 5000000000000) refl }

resistor_kept : IsPair charged_capacitor (record { left = e.Unknown (unknown.Quantity 2); right = times (number (pos 1000000000000000)) (e.Unknown (unknown.Quantity 3)) })
resistor_kept =
    record {
      left = unknown_is rc (unknown.Quantity 2) refl;
      right =
          times_is rc (number (pos 1000000000000000)) (e.Unknown (unknown.Quantity 3)) (number_is rc (pos 1000000000000000) refl) (unknown_is rc (unknown.Quantity 3) refl);
    }

capacitor_kept : IsPair charged_capacitor (record { left = e.Unknown (unknown.Quantity 5); right = times (number (pos 1000)) (e.Unknown (unknown.Dot 0)) })
capacitor_kept =
    record {
      left = unknown_is rc (unknown.Quantity 5) refl;
      right = times_is rc (number (pos 1000)) (e.Unknown (unknown.Dot 0)) (number_is rc (pos 1000) refl) (unknown_is rc (unknown.Dot 0) refl);
    }

charging_kept : All (IsEquation charged_capacitor) charging
charging_kept =
    All-from_recursion (IsEquation charged_capacitor) charging (source_kept, (resistor_kept, (capacitor_kept, tt)))

branches_kept : All (IsQuantity charged_capacitor) branches
branches_kept =
    All-from_recursion (IsQuantity charged_capacitor) branches (
      record { terminals = (omega arith, tt); initial = omega arith },
      (
        record { terminals = (omega arith, tt); initial = omega arith },
        (
          record { terminals = (omega arith, omega arith); initial = omega arith },
          (
            record { terminals = (omega arith, omega arith); initial = omega arith },
            (record { terminals = (omega arith, tt); initial = omega arith }, (record { terminals = (omega arith, tt); initial = omega arith }, tt)),
          ),
        ),
      ),
    )

capacitor_numbers : HasNumbers charged_capacitor
capacitor_numbers =
    record {
      signals = omega arith;
      quantities = omega arith;
      nodes = omega arith;
      equations = omega arith;
      dots = omega arith;
      thresholds = omega arith;
    }

capacitor_limits : KeepsLimits charged_capacitor
capacitor_limits =
    record {
      unknowns = omega arith;
      frame = omega arith;
      signals = omega arith;
      processes = omega arith;
      thresholds = omega arith;
      instances = omega arith;
      branches = All-from_recursion HasFewBranches charging (tt, (tt, (tt, tt)));
    }

pub capacitor_is_design : IsDesign charged_capacitor
capacitor_is_design =
    record {
      numbers = capacitor_numbers;
      limits = capacitor_limits;
      domain = refl;
      enumeration_count = omega arith;
      enumerations = All-from_recursion IsEnumeration (domain_type ∷ []) (domain_kept, tt);
      signals = All-nil (IsSignal charged_capacitor);
      quantities = branches_kept;
      dots = All-from_recursion (IsDot charged_capacitor) (4 ∷ []) (omega arith, tt);
      dots_once = λ i j d lt le. absurd (omega arith);
      thresholds = All-nil (IsThreshold charged_capacitor);
      thresholds_once = λ i j d lt le. absurd (omega arith);
      equations = charging_kept;
      count = refl;
      instances = All-from_recursion IsSolvable (instance (codes "rc") 3 ∷ []) (refl, tt);
      processes = All-nil (IsProcess charged_capacitor);
      drivers_once = λ i j d lt le. absurd (omega arith);
      ramps = All-nil (IsRamp charged_capacitor);
    }

pub capacitor_has_numbers : (objects : Objects) → objects ≡ charged_capacitor → HasNumbers objects
capacitor_has_numbers objects is = subst HasNumbers (sym is) capacitor_numbers

-- ---- the polynomial slope

abbrev one : Scope
one = equation_scope polynomial_slope

nanoseconds_is : HasType one nanoseconds Real
nanoseconds_is = times_is one (number (pos 1000000000000000000000)) e.NowReal (number_is one (pos 1000000000000000000000) refl) (typed_now one)

polynomial_is : HasType one polynomial Real
polynomial_is =
    let first : HasType one (times (number (pos 1000000000000000000)) nanoseconds) Real =
    times_is one (number (pos 1000000000000000000)) nanoseconds (number_is one (pos 1000000000000000000) refl) nanoseconds_is in
    let second : HasType one (less nanoseconds (number (pos 5000000000000))) Real =
    less_is one nanoseconds (number (pos 5000000000000)) nanoseconds_is (number_is one (pos 5000000000000) refl) in
    let third : HasType one (less (number (pos 10000000000000)) nanoseconds) Real =
    less_is one (number (pos 10000000000000)) nanoseconds (number_is one (pos 10000000000000) refl) nanoseconds_is in
    times_is one (times (times (number (pos 1000000000000000000)) nanoseconds) (less nanoseconds (number (pos 5000000000000)))) (less (number (pos 10000000000000)) nanoseconds)
    (times_is one (times (number (pos 1000000000000000000)) nanoseconds) (less nanoseconds (number (pos 5000000000000))) first second)
    third

slope_numbers : HasNumbers polynomial_slope
slope_numbers =
    record {
      signals = omega arith;
      quantities = omega arith;
      nodes = omega arith;
      equations = omega arith;
      dots = omega arith;
      thresholds = omega arith;
    }

slope_limits : KeepsLimits polynomial_slope
slope_limits =
    record {
      unknowns = omega arith;
      frame = omega arith;
      signals = omega arith;
      processes = omega arith;
      thresholds = omega arith;
      instances = omega arith;
      branches = All-from_recursion HasFewBranches polynomial_slope.equations (tt, tt);
    }

pub slope_is_design : IsDesign polynomial_slope
slope_is_design =
    record {
      numbers = slope_numbers;
      limits = slope_limits;
      domain = refl;
      enumeration_count = omega arith;
      enumerations = All-from_recursion IsEnumeration (domain_type ∷ []) (domain_kept, tt);
      signals = All-nil (IsSignal polynomial_slope);
      quantities = All-from_recursion (IsQuantity polynomial_slope) polynomial_slope.quantities (record { terminals = tt; initial = omega arith }, tt);
      dots = All-from_recursion (IsDot polynomial_slope) (0 ∷ []) (omega arith, tt);
      dots_once = λ i j d lt le. absurd (omega arith);
      thresholds = All-nil (IsThreshold polynomial_slope);
      thresholds_once = λ i j d lt le. absurd (omega arith);
      equations = All-from_recursion (IsEquation polynomial_slope) polynomial_slope.equations (record { left = unknown_is one (unknown.Dot 0) refl; right = polynomial_is }, tt);
      count = refl;
      instances = All-from_recursion IsSolvable (instance (codes "e") 1 ∷ []) (refl, tt);
      processes = All-nil (IsProcess polynomial_slope);
      drivers_once = λ i j d lt le. absurd (omega arith);
      ramps = All-nil (IsRamp polynomial_slope);
    }

pub slope_has_numbers : (objects : Objects) → objects ≡ polynomial_slope → HasNumbers objects
slope_has_numbers objects is = subst HasNumbers (sym is) slope_numbers

pub capacitor_is_kept : (objects : Objects) → objects ≡ charged_capacitor → IsDesign objects
capacitor_is_kept objects is = subst IsDesign (sym is) capacitor_is_design

pub slope_is_kept : (objects : Objects) → objects ≡ polynomial_slope → IsDesign objects
slope_is_kept objects is = subst IsDesign (sym is) slope_is_design

-- ---- the chosen level

abbrev levels : Scope
levels = equation_scope chosen_level

is_high_is : HasType levels is_high Boolean
is_high_is = typed_binary levels Equal Boolean (e.Signal (Signal 0) Bit) (e.Literal (val.Bit true)) ∙ rw (typed_signal levels (Signal 0) Bit, typed_literal levels (val.Bit true)) refl

high_kept : IsPair chosen_level (has_level (pos 2000000000000))
high_kept = record { left = unknown_is levels (unknown.Quantity 0) refl; right = number_is levels (pos 2000000000000) refl }

low_kept : IsPair chosen_level (has_level (pos 1000000000000))
low_kept = record { left = unknown_is levels (unknown.Quantity 0) refl; right = number_is levels (pos 1000000000000) refl }

arm_kept : IsIfArm chosen_level 1 high_arm
arm_kept =
    record {
      condition = is_high_is;
      body = record { count = refl; typed = All-from_recursion (IsPair chosen_level) high_arm.pairs (high_kept, tt) };
    }

choice_kept : IsEquation chosen_level (Choice choice)
choice_kept = (
  All-from_recursion (IsIfArm chosen_level 1) (high_arm ∷ []) (arm_kept, tt),
  record { count = refl; typed = All-from_recursion (IsPair chosen_level) (has_level (pos 1000000000000) ∷ []) (low_kept, tt) },
)

level_numbers : HasNumbers chosen_level
level_numbers =
    record {
      signals = omega arith;
      quantities = omega arith;
      nodes = omega arith;
      equations = omega arith;
      dots = omega arith;
      thresholds = omega arith;
    }

few : (b : Bool) → length ((if b then Signal 0 ∷ [] else []) ++ []) ≤ frame_limit
few true = omega arith
few false = omega arith

level_limits : KeepsLimits chosen_level
level_limits =
    record {
      unknowns = omega arith;
      frame = few (is_read chosen_level (Signal 0));
      signals = omega arith;
      processes = omega arith;
      thresholds = omega arith;
      instances = omega arith;
      branches = All-from_recursion HasFewBranches chosen_level.equations (omega arith, tt);
    }

chooser_kept : IsSignal chosen_level chooser
chooser_kept = record { subtype = tt; initial_is = record { kind_is = refl; range = refl }; lies = refl }

pub level_is_design : IsDesign chosen_level
level_is_design =
    record {
      numbers = level_numbers;
      limits = level_limits;
      domain = refl;
      enumeration_count = omega arith;
      enumerations = All-from_recursion IsEnumeration (domain_type ∷ []) (domain_kept, tt);
      signals = All-from_recursion (IsSignal chosen_level) (chooser ∷ []) (chooser_kept, tt);
      quantities = All-from_recursion (IsQuantity chosen_level) chosen_level.quantities (record { terminals = tt; initial = omega arith }, tt);
      dots = All-nil (IsDot chosen_level);
      dots_once = λ i j d lt le. absurd (omega arith);
      thresholds = All-nil (IsThreshold chosen_level);
      thresholds_once = λ i j d lt le. absurd (omega arith);
      equations = All-from_recursion (IsEquation chosen_level) chosen_level.equations (choice_kept, tt);
      count = refl;
      instances = All-from_recursion IsSolvable (instance (codes "e") 1 ∷ []) (refl, tt);
      processes = All-nil (IsProcess chosen_level);
      drivers_once = λ i j d lt le. absurd (omega arith);
      ramps = All-nil (IsRamp chosen_level);
    }

pub level_has_numbers : (objects : Objects) → objects ≡ chosen_level → HasNumbers objects
level_has_numbers objects is = subst HasNumbers (sym is) level_numbers

pub level_is_kept : (objects : Objects) → objects ≡ chosen_level → IsDesign objects
level_is_kept objects is = subst IsDesign (sym is) level_is_design
