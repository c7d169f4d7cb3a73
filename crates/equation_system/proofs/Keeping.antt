-- What a set keeps, by the tests.
use Rattle.std.proofs.Common.{◌≡◌, ◌≤◌, ℕ, Bool, true, false, List, [], ◌∷◌, IsTrue, refl, arith}
use Rattle.std.specs.Prelude.{nat_lt, nat_le, ◌&&◌}
use Rattle.std.specs.List.{All, list_all}
use Rattle.std.proofs.lemmas.Bool.{and_parts, ltb-true, lt-ltb}
use Rattle.std.proofs.lemmas.Bool.Decides.{nat_tests}
use Rattle.std.proofs.lemmas.List.Elements.{All-cons, All-nil, All-head}
use Rattle.flat_design.specs.declared.objects.Equation.{Equation}
use Rattle.flat_design.specs.declared.objects.Equation.TheVariants as equation
use Rattle.design_rules.specs.Branches.{branch_count}
use Rattle.design_rules.specs.Rows.{AreBranches}
use Rattle.design_rules.proofs.Counts.{All-tail}
use Rattle.augmentation_rows.specs.declared.set.Augmentation.{Augmentation}
use Rattle.augmentation_rows.specs.declared.set.Augmentation.TheVariants as set
use Rattle.augmentation_rows.specs.Sets.{HasStep}
use Rattle.equation_system.specs.Tests.{are_branches, has_step}

both : (a b : Bool) → IsTrue a → IsTrue b → IsTrue (a && b)
both true true h k = h
both true false h k = k
both false b h k = h

pub branches_kept : (xs : List Equation) (bs : List ℕ) → IsTrue (are_branches xs bs) → AreBranches xs bs
branches_kept [] [] h = refl
branches_kept [] (b ∷ bs) h = absurd (cc)
branches_kept (equation.Pair p ∷ more) bs h = branches_kept more bs h
branches_kept (equation.Choice c ∷ more) [] h = absurd (cc)
branches_kept (equation.Choice c ∷ more) (b ∷ bs) h =
    let parts = and_parts (nat_lt b (branch_count c.selection)) (are_branches more bs) h in
    (ltb-true b (branch_count c.selection) parts.0, branches_kept more bs parts.1)

pub branches_pass : (xs : List Equation) (bs : List ℕ) → AreBranches xs bs → IsTrue (are_branches xs bs)
branches_pass [] [] h = refl
branches_pass [] (b ∷ bs) h = absurd (cc)
branches_pass (equation.Pair p ∷ more) bs h = branches_pass more bs h
branches_pass (equation.Choice c ∷ more) [] h = absurd h
branches_pass (equation.Choice c ∷ more) (b ∷ bs) h =
    both (nat_lt b (branch_count c.selection)) (are_branches more bs) (lt-ltb b (branch_count c.selection) h.0) (branches_pass more bs h.1)

pub all_kept : {X : Type 0} (p : X → Bool) (xs : List X) → IsTrue (list_all p xs) → All (λ x. IsTrue (p x)) xs
all_kept p [] h = All-nil (λ x. IsTrue (p x))
all_kept p (x ∷ xs) h = let parts = and_parts (p x) (list_all p xs) h in All-cons (λ x. IsTrue (p x)) x xs parts.0 (all_kept p xs parts.1)

pub all_pass : {X : Type 0} (p : X → Bool) (xs : List X) → All (λ x. IsTrue (p x)) xs → IsTrue (list_all p xs)
all_pass p [] h = refl
all_pass p (x ∷ xs) h = both (p x) (list_all p xs) (All-head (λ x. IsTrue (p x)) x xs h) (all_pass p xs (All-tail (λ x. IsTrue (p x)) x xs h))

at_most : (m n : ℕ) → nat_le m n ≡ true → m ≤ n
at_most m n h = grind (arith, nat_tests)

at_most_passes : (m n : ℕ) → m ≤ n → nat_le m n ≡ true
at_most_passes m n h = grind (arith, nat_tests)

pub step_kept : (s : Augmentation) → IsTrue (has_step s) → HasStep s
step_kept set.Quiescent h = tt
step_kept (set.Discontinuity before) h = tt
step_kept (set.TimeDomain tip fresh step) h = at_most step 1000000000000 h

pub step_passes : (s : Augmentation) → HasStep s → IsTrue (has_step s)
step_passes set.Quiescent h = refl
step_passes (set.Discontinuity before) h = refl
step_passes (set.TimeDomain tip fresh step) h = at_most_passes step 1000000000000 h
