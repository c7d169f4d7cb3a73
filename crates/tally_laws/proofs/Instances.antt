-- Instances and their two numbers.
use Rattle.std.proofs.Common.{◌≡◌, ◌≤◌, ◌<◌, ℕ, zero, suc, ◌+◌, ◌-◌, List, [], ◌∷◌, ◌++◌, length, refl, sym, ap, ◌∙◌, subst, arith}
use Rattle.std.specs.Prelude.{◌≢◌}
use Rattle.std.proofs.lemmas.List.Sums.{sum_by-cons}
use Rattle.flat_design.specs.declared.objects.Instance.{Instance}
use Rattle.unit_meaning.specs.Walk.{lessened}
use Rattle.tally_laws.specs.Tally.{equation_sum, unknown_sum}

-- the unknowns of an instance, and 0 where there is none
abbrev pub unknowns_at : ℕ → List Instance → ℕ
unknowns_at i [] = 0
unknowns_at zero (x ∷ more) = x.unknowns
unknowns_at (suc i) (x ∷ more) = unknowns_at i more

abbrev of_equations : Instance → ℕ
of_equations x = x.equations

abbrev of_unknowns : Instance → ℕ
of_unknowns x = x.unknowns

-- ---- sums

pub lessened_unknowns : (i k : ℕ) (xs : List Instance) → k ≤ unknowns_at i xs → unknown_sum (lessened i k xs) + k ≡ unknown_sum xs
lessened_unknowns i k [] h = omega arith
lessened_unknowns zero k (x ∷ more) h =
    omega (arith, sum_by-cons of_unknowns (record x { unknowns = x.unknowns - k }) more, sum_by-cons of_unknowns x more)
lessened_unknowns (suc i) k (x ∷ more) h =
    omega (arith, lessened_unknowns i k more h, sum_by-cons of_unknowns x (lessened i k more), sum_by-cons of_unknowns x more)

pub lessened_equations : (i k : ℕ) (xs : List Instance) → equation_sum (lessened i k xs) ≡ equation_sum xs
lessened_equations i k [] = refl
lessened_equations zero k (x ∷ more) =
    sum_by-cons of_equations (record x { unknowns = x.unknowns - k }) more ∙ sym (sum_by-cons of_equations x more)
lessened_equations (suc i) k (x ∷ more) =
    omega (arith, lessened_equations i k more, sum_by-cons of_equations x (lessened i k more), sum_by-cons of_equations x more)

pub still_long : (i k : ℕ) (xs : List Instance) → length (lessened i k xs) ≡ length xs
still_long i k [] = refl
still_long zero k (x ∷ more) = refl
still_long (suc i) k (x ∷ more) = ap suc (still_long i k more)

-- ---- single instances

pub at_front : (n : ℕ) (xs : List Instance) (z : Instance) → n < length xs → unknowns_at n (xs ++ z ∷ []) ≡ unknowns_at n xs
at_front n [] z lt = absurd (omega arith)
at_front zero (x ∷ xs) z lt = refl
at_front (suc n) (x ∷ xs) z lt = at_front n xs z (omega arith)

pub at_end : (xs : List Instance) (z : Instance) → unknowns_at (length xs) (xs ++ z ∷ []) ≡ z.unknowns
at_end [] z = refl
at_end (x ∷ xs) z = at_end xs z

pub past_end : (n : ℕ) (xs : List Instance) → length xs ≤ n → unknowns_at n xs ≡ 0
past_end n [] le = refl
past_end zero (x ∷ xs) le = absurd (omega arith)
past_end (suc n) (x ∷ xs) le = past_end n xs (omega arith)

pub lessened_own : (i k : ℕ) (xs : List Instance) → unknowns_at i (lessened i k xs) ≡ unknowns_at i xs - k
lessened_own i k [] = omega arith
lessened_own zero k (x ∷ more) = refl
lessened_own (suc i) k (x ∷ more) = lessened_own i k more

pub lessened_other : (n i k : ℕ) (xs : List Instance) → n ≢ i → unknowns_at n (lessened i k xs) ≡ unknowns_at n xs
lessened_other n i k [] d = refl
lessened_other zero zero k (x ∷ more) d = absurd (d refl)
lessened_other (suc n) zero k (x ∷ more) d = refl
lessened_other zero (suc i) k (x ∷ more) d = refl
lessened_other (suc n) (suc i) k (x ∷ more) d = lessened_other n i k more (λ e. d (ap suc e))
