-- The numbers of rows.
use Rattle.std.proofs.Common.{◌≡◌, refl, ap, ◌∙◌, ℕ, zero, suc, ◌+◌, ◌<◌, ◌≤◌, List, [], ◌∷◌, ◌++◌, length, map, arith, length-append, subst, Bool, true, false, IfOk, IfSome}
use Rattle.std.proofs.lemmas.List.{length-map}
use Rattle.std.proofs.lemmas.List.Elements.{All-head}
use Rattle.std.proofs.lemmas.List.FromFn.{length-map-range_with_len, length-enumerate_from}
use Rattle.std.specs.Prelude.{Option, Some, None, Result, Ok, Err, if◌then◌else◌}
use Rattle.std.specs.List.{list_any, range_with_len, enumerate_from, All}
use Rattle.fix_core.specs.Passes.{and_then, each}
use Rattle.ams_value.specs.declared.val.Val.{Val}
use Rattle.ams_value.specs.Values.{equals, is_true}
use Rattle.flat_design.specs.declared.objects.Pair.{Pair}
use Rattle.flat_design.specs.declared.objects.IfArm.{IfArm}
use Rattle.flat_design.specs.declared.objects.CaseArm.{CaseArm}
use Rattle.flat_design.specs.declared.objects.Selection.{Selection}
use Rattle.flat_design.specs.declared.objects.Selection.TheVariants as selection
use Rattle.flat_design.specs.declared.objects.Equation.{Equation}
use Rattle.flat_design.specs.declared.objects.Equation.TheVariants as equation
use Rattle.flat_design.specs.declared.objects.Quantity.{Quantity}
use Rattle.flat_design.specs.declared.objects.QuantityKind.{QuantityKind}
use Rattle.flat_design.specs.declared.objects.QuantityKind.TheVariants as quantity
use Rattle.flat_design.specs.declared.objects.Node.{Node}
use Rattle.flat_design.specs.declared.objects.Objects.{Objects}
use Rattle.flat_design.specs.declared.names.EquationName.TheVariants.{Explicit, Sum, Augmentation as Augmented}
use Rattle.flat_expr.specs.declared.expr.Unknown.TheVariants.{Quantity as UQuantity, Reference, Dot}
use Rattle.flat_design.specs.Order.{size_of, explicit_of, explicit_from, across_of, across_from, equation_names, unknowns, unknown_count}
use Rattle.step_data.specs.declared.breaks.Element.{Element}
use Rattle.design_meaning.specs.declared.fault.EvalFault.{EvalFault}
use Rattle.design_meaning.specs.Readings.{Readings}
use Rattle.design_meaning.specs.Value.{value_of}
use Rattle.design_meaning.specs.Equations.{if_branch, case_branch, branch_of, chosen_pairs, sums_of, difference_by, differences_from, augmentations_from, row_of, common_rows, rows_of, Augmentation, balance, ends_at}
use Rattle.design_meaning.specs.Newton.{of_evaluation}
use Rattle.design_meaning.specs.Reading.{readings_of}
use Rattle.design_meaning.specs.Steps.{taken, if_chosen, first_place, or_else, case_chosen, branch_chosen, selections_of, choose}
use Rattle.design_rules.specs.Equations.{IsBody, IsIfArm, IsSelection, IsEquation}
use Rattle.design_rules.specs.Branches.{branch_count}
use Rattle.design_rules.specs.Rows.{AreBranches, RowsAreCounted, ChosenAreBranches}

pub All-tail : {X : Type 0} (P : X → Type 0) → (x : X) (xs : List X) → All P (x ∷ xs) → All P xs
All-tail P x xs h k d lt = h (suc k) d (omega arith)

-- ---- the equations of a branch

length-if_branch : (objects : Objects) (size : ℕ) (arms : List IfArm) (last : List Pair) (b : ℕ)
    → All (IsIfArm objects size) arms → IsBody objects size last → b < suc (length arms) → length (if_branch arms last b) ≡ size
length-if_branch objects size [] last b hs h lt = h.count
length-if_branch objects size (arm ∷ more) last zero hs h lt =
    let here : IsIfArm objects size arm = All-head (IsIfArm objects size) arm more hs in
    here.body.count
length-if_branch objects size (arm ∷ more) last (suc b) hs h lt =
    length-if_branch objects size more last b (All-tail (IsIfArm objects size) arm more hs) h (omega arith)

abbrev HasBody : Objects → ℕ → CaseArm → Type 0
HasBody objects size arm = IsBody objects size arm.pairs

length-case_branch : (objects : Objects) (size : ℕ) (arms : List CaseArm) (b : ℕ) → All (HasBody objects size) arms → b < length arms → length (case_branch arms b) ≡ size
length-case_branch objects size [] b hs lt = absurd (omega arith)
length-case_branch objects size (arm ∷ more) zero hs lt =
    let here : HasBody objects size arm = All-head (HasBody objects size) arm more hs in
    here.count
length-case_branch objects size (arm ∷ more) (suc b) hs lt = length-case_branch objects size more b (All-tail (HasBody objects size) arm more hs) (omega arith)

length-branch_of : (objects : Objects) (size : ℕ) (s : Selection) (b : ℕ) → IsSelection objects size s → b < branch_count s → length (branch_of s b) ≡ size
length-branch_of objects size (selection.If arms last) b h lt = length-if_branch objects size arms last b h.0 h.1 lt
length-branch_of objects size (selection.Case e arms) b h lt = length-case_branch objects size arms b h.bodies lt

-- ---- the parts of a set

length-explicit_from : (k : ℕ) (x : Equation) (xs : List Equation) → length (explicit_from k (x ∷ xs)) ≡ size_of x + length (explicit_from (k + 1) xs)
length-explicit_from k x xs =
    length-append (explicit_of k x) (explicit_from (k + 1) xs) ∙ ap (λ n. n + length (explicit_from (k + 1) xs)) (length-map-range_with_len (Explicit k) 0 (size_of x))

length-chosen_pairs : (objects : Objects) (k : ℕ) (xs : List Equation) (branches : List ℕ) → All (IsEquation objects) xs → AreBranches xs branches
    → length (chosen_pairs xs branches) ≡ length (explicit_from k xs)
length-chosen_pairs objects k [] branches hs are = refl
length-chosen_pairs objects k (equation.Pair p ∷ xs) branches hs are =
    omega (
      arith,
      length-explicit_from k (equation.Pair p) xs,
      length-chosen_pairs objects (k + 1) xs branches (All-tail (IsEquation objects) (equation.Pair p) xs hs) are,
    )
length-chosen_pairs objects k (equation.Choice c ∷ xs) [] hs are = absurd are
length-chosen_pairs objects k (equation.Choice c ∷ xs) (b ∷ branches) hs are =
    let here : IsSelection objects c.size c.selection = All-head (IsEquation objects) (equation.Choice c) xs hs in
    omega (
      arith,
      length-explicit_from k (equation.Choice c) xs,
      length-append (branch_of c.selection b) (chosen_pairs xs branches),
      length-branch_of objects c.size c.selection b here are.0,
      length-chosen_pairs objects (k + 1) xs branches (All-tail (IsEquation objects) (equation.Choice c) xs hs) are.1,
    )

length-difference_by : (q : ℕ) (k : QuantityKind) → length (difference_by q k) ≡ length (across_of q k)
length-difference_by q quantity.Free = refl
length-difference_by q (quantity.Across a b) = refl
length-difference_by q (quantity.Through a b) = refl

length-differences_from : (q : ℕ) (xs : List Quantity) → length (differences_from q xs) ≡ length (across_from q xs)
length-differences_from q [] = refl
length-differences_from q (x ∷ xs) =
    omega (
      arith,
      length-append (difference_by q x.kind) (differences_from (q + 1) xs),
      length-append (across_of q x.kind) (across_from (q + 1) xs),
      length-difference_by q x.kind,
      length-differences_from (q + 1) xs,
    )

length-augmentations : (set : Augmentation) (elements : List Element) (d : ℕ) (qs : List ℕ) → length (augmentations_from set elements d qs) ≡ length qs
length-augmentations set elements d [] = refl
length-augmentations set elements d (q ∷ qs) = ap suc (length-augmentations set elements (d + 1) qs)

length-sums_of : (objects : Objects) → length (sums_of objects) ≡ length objects.nodes
length-sums_of objects = length-map (enumerate_from 0 objects.nodes) (λ (p : ℕ × Node). balance (ends_at objects p.0)) ∙ length-enumerate_from 0 objects.nodes

length-append3 : {X : Type 0} (xs ys zs : List X) → length (xs ++ ys ++ zs) ≡ length xs + length ys + length zs
length-append3 xs ys zs = omega (arith, length-append (xs ++ ys) zs, length-append xs ys)

length-names : (objects : Objects)
    → length (equation_names objects) ≡ length (explicit_from 0 objects.equations) + (length objects.nodes + (length (across_from 0 objects.quantities) + length objects.dots))
length-names objects =
    omega (
      arith,
      length-append3 (explicit_from 0 objects.equations) (map Sum (range_with_len 0 (length objects.nodes))) (across_from 0 objects.quantities),
      length-append (explicit_from 0 objects.equations ++ map Sum (range_with_len 0 (length objects.nodes)) ++ across_from 0 objects.quantities) (map Augmented (range_with_len 0 (length objects.dots))),
      length-map-range_with_len Sum 0 (length objects.nodes),
      length-map-range_with_len Augmented 0 (length objects.dots),
    )

length-unknowns : (objects : Objects) → length (unknowns objects) ≡ unknown_count objects
length-unknowns objects =
    omega (
      arith,
      length-append3 (map UQuantity (range_with_len 0 (length objects.quantities))) (map Reference (range_with_len 0 (length objects.nodes)))
          (map Dot (range_with_len 0 (length objects.dots))),
      length-map-range_with_len UQuantity 0 (length objects.quantities),
      length-map-range_with_len Reference 0 (length objects.nodes),
      length-map-range_with_len Dot 0 (length objects.dots),
    )

pub rows_are_counted : RowsAreCounted
unfolding rows_of
rows_are_counted objects d branches are set elements =
    omega (
      arith,
      d.count,
      length-names objects,
      length-unknowns objects,
      length-append (common_rows objects branches) (augmentations_from set elements 0 objects.dots),
      length-append3 (map row_of (chosen_pairs objects.equations branches)) (sums_of objects) (differences_from 0 objects.quantities),
      length-map (chosen_pairs objects.equations branches) row_of,
      length-sums_of objects,
      length-differences_from 0 objects.quantities,
      length-augmentations set elements 0 objects.dots,
      length-chosen_pairs objects 0 objects.equations branches d.equations are,
    )

-- ---- the branches that are chosen

ok_then : {A B E : Type 0} (P : A → Type 0) (Q : B → Type 0) (f : A → Result B E) (m : Result A E) → IfOk m P → ((a : A) → P a → IfOk (f a) Q) → IfOk (and_then f m) Q
ok_then P Q f (Ok a) h more = more a h
ok_then P Q f (Err e) h more = tt

ok_after : {A B E : Type 0} (Q : B → Type 0) (f : A → Result B E) (m : Result A E) → ((a : A) → IfOk (f a) Q) → IfOk (and_then f m) Q
ok_after Q f (Ok a) more = more a
ok_after Q f (Err e) more = tt

abbrev Below : ℕ → ℕ → Type 0
Below n b = b < n

by_test : (t : Bool) (b n : ℕ) (next : Result ℕ EvalFault) → b < n → IfOk next (Below n) → IfOk (taken t b next) (Below n)
by_test true b n next lt h = lt
by_test false b n next lt h = h

if_within : (b : ℕ) (arms : List IfArm) (r : Readings) (n : ℕ) → b + length arms < n → IfOk (if_chosen b arms r) (Below n)
unfolding if_chosen
if_within b [] r n lt = omega arith
if_within b (arm ∷ more) r n lt =
    ok_after (Below n) (λ (v : Val). taken (is_true v) b (if_chosen (b + 1) more r)) (value_of arm.condition r)
    (λ v. by_test (is_true v) b n (if_chosen (b + 1) more r) (omega arith) (if_within (b + 1) more r n (omega arith)))

place_within : {A : Type 0} (test : A → Bool) (b : ℕ) (xs : List A) (n : ℕ) → b + length xs ≤ n → IfSome (first_place test b xs) (Below n)
place_within test b [] n le = tt
place_within test b (x ∷ xs) n le = by_place (test x) (first_place test (b + 1) xs) (omega arith) (place_within test (b + 1) xs n (omega arith))
  where
    by_place : (t : Bool) (next : Option ℕ) → b < n → IfSome next (Below n) → IfSome (if t then Some b else next) (Below n)
    by_place true next lt h = lt
    by_place false next lt h = h

or_else_within : (n : ℕ) (o p : Option ℕ) → 0 < n → IfSome o (Below n) → IfSome p (Below n) → or_else o p < n
or_else_within n (Some b) p lt h k = h
or_else_within n None (Some b) lt h k = k
or_else_within n None None lt h k = lt

chosen_within : (objects : Objects) (size : ℕ) (r : Readings) (s : Selection) → IsSelection objects size s → IfOk (branch_chosen r s) (Below (branch_count s))
chosen_within objects size r (selection.If arms last) h = if_within 0 arms r (suc (length arms)) (omega arith)
chosen_within objects size r (selection.Case e arms) h =
    ok_after (Below (length arms)) (λ (v : Val). Ok (case_chosen arms v)) (value_of e r)
    (λ v. or_else_within (length arms) (first_place (λ (arm : CaseArm). list_any (equals v) arm.choices) 0 arms) (first_place (λ (arm : CaseArm). arm.others) 0 arms) h.some
    (place_within (λ (arm : CaseArm). list_any (equals v) arm.choices) 0 arms (length arms) (omega arith))
    (place_within (λ (arm : CaseArm). arm.others) 0 arms (length arms) (omega arith)))

each_chosen : (objects : Objects) (r : Readings) (xs : List Equation) → All (IsEquation objects) xs → IfOk (each (branch_chosen r) (selections_of xs)) (AreBranches xs)
unfolding each
each_chosen objects r [] hs = refl
each_chosen objects r (equation.Pair p ∷ xs) hs = each_chosen objects r xs (All-tail (IsEquation objects) (equation.Pair p) xs hs)
each_chosen objects r (equation.Choice c ∷ xs) hs =
    let here : IsSelection objects c.size c.selection = All-head (IsEquation objects) (equation.Choice c) xs hs in
    ok_then (Below (branch_count c.selection)) (AreBranches (equation.Choice c ∷ xs)) (λ b. and_then (λ bs. Ok (b ∷ bs)) (each (branch_chosen r) (selections_of xs)))
    (branch_chosen r c.selection) (chosen_within objects c.size r c.selection here)
    (λ b lt. ok_then (AreBranches xs) (AreBranches (equation.Choice c ∷ xs)) (λ bs. Ok (b ∷ bs)) (each (branch_chosen r) (selections_of xs))
    (each_chosen objects r xs (All-tail (IsEquation objects) (equation.Choice c) xs hs)) (λ bs are. (lt, are)))

evaluation_keeps : {A : Type 0} (P : A → Type 0) (m : Result A EvalFault) → IfOk m P → IfOk (of_evaluation m) P
evaluation_keeps P (Ok a) h = h
evaluation_keeps P (Err e) h = tt

pub chosen_are_branches : ChosenAreBranches
unfolding choose
chosen_are_branches objects d frame t kind x branches is =
    let found : IfOk (choose objects frame t kind x) (AreBranches objects.equations) =
    evaluation_keeps (AreBranches objects.equations) (each (branch_chosen (readings_of objects frame kind t x)) (selections_of objects.equations))
    (each_chosen objects (readings_of objects frame kind t x) objects.equations d.equations) in
    subst (λ m. IfOk m (AreBranches objects.equations)) is found
