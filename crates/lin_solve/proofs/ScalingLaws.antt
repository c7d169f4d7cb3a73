-- Twelve times are enough.
use Rattle.std.proofs.Common.{◌≡◌, ℕ, zero, suc, ◌-◌, ◌*◌, ◌^◌, ◌<◌, ◌≤◌, ℤ, pos, List, [], ◌∷◌, length, take, Result, Ok, Err, inl, inr, refl, sym, ap, subst, ◌∙◌, arith}
use Rattle.std.specs.Prelude.{unsigned_abs, ◌*ℤ◌}
use Rattle.std.proofs.lemmas.Int.{ints}
use Rattle.std.proofs.lemmas.Bool.{cases_lt}
use Rattle.std.proofs.Math.Nat.{eq-zero-or-pos, pow-suc, mul_assoc}
use Rattle.fix_core.specs.Units.{units_per_one}
use Rattle.fix_core.specs.declared.NumFault.{NumFault}
use Rattle.fix_core.specs.Passes.{and_then, each}
use Rattle.fix_core.specs.Fixed.{tenfold_of}
use Rattle.lin_solve.specs.Elimination.{largest, coefficients, tenfold, scaled}
use Rattle.lin_solve.specs.Laws.{IsScaled, TwelveTurnsAreEnough, ZeroFactorKeepsTheRow}
use Rattle.lin_solve.proofs.Steps.{scaled_none, scaled_kept, scaled_more, minus_row-zero, ranged_is}

parts : {A B : Type 0} (r : Result A NumFault) (f : A → Result B NumFault) (b : B) → and_then f r ≡ Ok b → (a : A) × (r ≡ Ok a) × (f a ≡ Ok b)
parts (Ok a) f b e = (a, refl, e)
parts (Err x) f b e = cc

tenfold_size : (a b : ℤ) → tenfold_of a ≡ Ok b → unsigned_abs b ≡ 10 * unsigned_abs a
unfolding tenfold_of
tenfold_size a b e = let p : a *ℤ pos 10 ≡ b = ranged_is (a *ℤ pos 10) b e in omega (arith, ints, p)

tenfold_length : (xs ys : List ℤ) → tenfold xs ≡ Ok ys → length ys ≡ length xs
unfolding each
tenfold_length [] ys e = let p : [] ≡ ys = cc in ap length (sym p)
tenfold_length (x ∷ xs) ys e =
    let head = parts (tenfold_of x) (λ b. and_then (λ bs. Ok (b ∷ bs)) (tenfold xs)) ys e in
    let tail = parts (tenfold xs) (λ bs. Ok (head.0 ∷ bs)) ys head.2 in
    let is : head.0 ∷ tail.0 ≡ ys = cc in
    ap length (sym is) ∙ ap suc (tenfold_length xs tail.0 tail.1)

tenfold_largest : (k : ℕ) (xs ys : List ℤ) → tenfold xs ≡ Ok ys → largest (take k ys) ≡ 10 * largest (take k xs)
unfolding each largest
tenfold_largest zero xs ys e = refl
tenfold_largest (suc k) [] ys e = let p : [] ≡ ys = cc in rw (← p) refl
tenfold_largest (suc k) (x ∷ xs) ys e =
    let head = parts (tenfold_of x) (λ b. and_then (λ bs. Ok (b ∷ bs)) (tenfold xs)) ys e in
    let tail = parts (tenfold xs) (λ bs. Ok (head.0 ∷ bs)) ys head.2 in
    let is : head.0 ∷ tail.0 ≡ ys = cc in
    let size = tenfold_size x head.0 head.1 in
    let more = tenfold_largest k xs tail.0 tail.1 in
    rw (← is) (omega (arith, size, more))

tenfold_coefficients : (row done : List ℤ) → tenfold row ≡ Ok done → largest (coefficients done) ≡ 10 * largest (coefficients row)
tenfold_coefficients row done e = rw (tenfold_length row done e) (tenfold_largest (length row - 1) row done e)

-- so many times are enough where the largest coefficient times this power of ten is at least 1
kept : (turns : ℕ) (row done : List ℤ) → IsScaled row → scaled (suc turns) row ≡ Ok done → IsScaled done
kept turns row done h e =
    let same : Ok row ≡ Ok done = sym (scaled_kept (suc turns) row (omega arith) h) ∙ e in
    let p : row ≡ done = cc in
    subst IsScaled p h

power : (turns l m : ℕ) → m ≡ 10 * l → units_per_one ≤ 10 ^ suc turns * l → units_per_one ≤ 10 ^ turns * m
power turns l m e h = rw (e, ← mul_assoc (10 ^ turns) 10 l, ← pow-suc 10 turns) h

again : (turns : ℕ) (row done : List ℤ) → 0 < largest (coefficients row) → largest (coefficients row) < units_per_one → scaled (suc turns) row ≡ Ok done → and_then (scaled turns) (tenfold row) ≡ Ok done
again turns row done some small e =
    let less : suc turns - 1 ≡ turns = omega arith in
    ap (λ (t : ℕ). and_then (scaled t) (tenfold row)) (sym less) ∙ sym (scaled_more (suc turns) row (omega arith) some small) ∙ e

enough : (turns : ℕ) (row done : List ℤ) → units_per_one ≤ 10 ^ turns * largest (coefficients row) → scaled turns row ≡ Ok done → IsScaled done
enough zero row done h e =
    let same : Ok row ≡ Ok done = sym (scaled_none row) ∙ e in
    let p : row ≡ done = cc in
    subst IsScaled p (inr (omega arith))
enough (suc turns) row done h e =
    elim (cases_lt (largest (coefficients row)) units_per_one) [
      | inl small ↦ elim (eq-zero-or-pos (largest (coefficients row))) [
        | inl none ↦ kept turns row done (inl none) e
        | inr some ↦
            let once : and_then (scaled turns) (tenfold row) ≡ Ok done = again turns row done some small e in
            let p = parts (tenfold row) (scaled turns) done once in
            enough turns p.0 done (power turns (largest (coefficients row)) (largest (coefficients p.0)) (tenfold_coefficients row p.0 p.1) h) p.2
      ]
      | inr large ↦ kept turns row done (inr large) e
    ]

pub twelve : TwelveTurnsAreEnough
twelve row done e =
    elim (eq-zero-or-pos (largest (coefficients row))) [ inl none ↦ kept 11 row done (inl none) e | inr some ↦ enough 12 row done (omega arith) e ]

pub zero_factor : ZeroFactorKeepsTheRow
zero_factor pivot row e all = minus_row-zero pivot row e all

pub ruleset laws = (twelve, zero_factor)
