-- How large the numbers on the way are.
use Rattle.std.proofs.Common.{◌≡◌, ℕ, zero, suc, ◌+◌, ◌-◌, ◌*◌, ◌<◌, ◌≤◌, ℤ, pos, ◌+ℤ◌, ◌-ℤ◌, ◌*ℤ◌, ◌^◌, List, [], ◌∷◌, ◌++◌, Ok, Err, refl, sym, arith, add-one}
use Rattle.std.proofs.lemmas.Int.{ints, unsigned_abs-mul, fits_signed_from_abs}
use Rattle.std.proofs.lemmas.Nat.{mul-le}
use Rattle.std.proofs.Math.Nat.{pow-suc, pow-le-pow_right, le_refl}
use Rattle.std.specs.Prelude.{unsigned_abs, FitsSigned}
use Rattle.std.specs.Int.{w128}
use Rattle.fix_core.specs.Units.{units_per_one, most_units}
use Rattle.fix_core.specs.declared.NumFault.{NumFault}
use Rattle.fix_core.specs.Rounding.{rnd}
use Rattle.fix_core.specs.Fixed.{one, product_of}
use Rattle.fix_core.specs.Laws.{rnd-IsNearest, rnd-le}
use Rattle.math_fix.specs.Functions.{total, first_terms, series, exp_term, sin_term, cos_term, next_term, multiplied_by}

pub turns_near : (x q : ℤ) → q ≡ rnd x (pos 6283185307180) → 2 * unsigned_abs (x -ℤ q *ℤ pos 6283185307180) ≤ 6283185307180
turns_near x q e = rw e (rnd-IsNearest x (pos 6283185307180) (omega arith)).near

-- |t| and |f| are at most 1: so is the next term of exp
pub exp_step-le : (t f : ℤ) (k : ℕ) → unsigned_abs t ≤ units_per_one → unsigned_abs f ≤ units_per_one → unsigned_abs (rnd (t *ℤ f) (pos (suc k * units_per_one))) ≤ units_per_one
exp_step-le t f k ht hf =
    let product : unsigned_abs t * unsigned_abs f ≤ units_per_one * units_per_one = mul-le _ _ _ _ ht hf in
    rnd-le (t *ℤ f) (pos (suc k * units_per_one)) units_per_one (omega arith) (rw (unsigned_abs-mul t f) (omega (arith, product)))

pub exp_term-le : (f : ℤ) (k : ℕ) → unsigned_abs f ≤ units_per_one → unsigned_abs (exp_term f k) ≤ units_per_one
unfolding exp_term
exp_term-le f zero h = omega arith
exp_term-le f (suc k) h = exp_step-le (exp_term f k) f k (exp_term-le f k h) h

total_push : (xs : List ℤ) (y : ℤ) → total (xs ++ y ∷ []) ≡ total xs +ℤ y
unfolding total
total_push [] y = omega (arith, ints)
total_push (x ∷ xs) y = let e : total (xs ++ y ∷ []) ≡ total xs +ℤ y = total_push xs y in omega (arith, ints, e)

pub series_none : (term : ℕ → ℤ) → series term 0 ≡ pos 0
unfolding series first_terms total
series_none term = refl

series_suc : (term : ℕ → ℤ) (k : ℕ) → series term (suc k) ≡ series term k +ℤ term k
unfolding series first_terms
series_suc term k = total_push (first_terms term k) (term k)

pub series_first : (term : ℕ → ℤ) → series term 1 ≡ term 0
series_first term = let n = series_none term in let s : series term 1 ≡ series term 0 +ℤ term 0 = series_suc term 0 in omega (arith, ints, n, s)

pub series_more : (term : ℕ → ℤ) (k : ℕ) → series term k +ℤ term k ≡ series term (k + 1)
series_more term k = rw (add-one k) (sym (series_suc term k))

-- a sum of n terms of at most b
pub series-le : (term : ℕ → ℤ) (b n : ℕ) → ((k : ℕ) → k < n → unsigned_abs (term k) ≤ b) → unsigned_abs (series term n) ≤ n * b
series-le term b zero h = rw (series_none term) (omega arith)
series-le term b (suc n) h =
    let before : unsigned_abs (series term n) ≤ n * b = series-le term b n (λ k lt. h k (omega arith)) in
    let last : unsigned_abs (term n) ≤ b = h n (omega arith) in
    rw (series_suc term n) (omega (arith, ints, before, last))

-- ---- sin and cos: an angle r is at most 3.14159265359, and each term at most five times the one before

next_term-le : (t r : ℤ) (m d : ℕ) → unsigned_abs t ≤ m * 3141592653590 → unsigned_abs r ≤ 3141592653590 → 2 ≤ d → unsigned_abs (next_term r d t) ≤ 5 * m * 3141592653590
next_term-le t r m d ht hr hd =
    let first : unsigned_abs t * unsigned_abs r ≤ m * 3141592653590 * 3141592653590 = mul-le _ _ _ _ ht hr in
    let u : ℤ = rnd (t *ℤ r) one in
    let hu : unsigned_abs u ≤ m * 10000000000000 = rnd-le (t *ℤ r) one (m * 10000000000000) (omega arith) (rw (unsigned_abs-mul t r) (omega (arith, first))) in
    let second : unsigned_abs u * unsigned_abs r ≤ m * 10000000000000 * 3141592653590 = mul-le _ _ _ _ hu hr in
    let twice : m * 2 ≤ m * d = mul-le _ _ _ _ (le_refl m) hd in
    let hv : unsigned_abs (rnd (u *ℤ r) (pos (d * units_per_one))) ≤ 5 * m * 3141592653590 =
    rnd-le (u *ℤ r) (pos (d * units_per_one)) (5 * m * 3141592653590) (omega arith) (rw (unsigned_abs-mul u r) (omega (arith, second, twice))) in
    omega (arith, ints, hv)

-- what stands between
pub between-le : (t r : ℤ) → unsigned_abs t ≤ 1000000000000000000000 → unsigned_abs r ≤ 3141592653590 → unsigned_abs (rnd (t *ℤ r) (pos units_per_one)) ≤ 10000000000000000000000
between-le t r ht hr =
    let product : unsigned_abs t * unsigned_abs r ≤ 1000000000000000000000 * 3141592653590 = mul-le _ _ _ _ ht hr in
    rnd-le (t *ℤ r) (pos units_per_one) 10000000000000000000000 (omega arith) (rw (unsigned_abs-mul t r) (omega (arith, product)))

pub between-product : (u r : ℤ) → unsigned_abs u ≤ 10000000000000000000000 → unsigned_abs r ≤ 3141592653590 → unsigned_abs u * unsigned_abs r ≤ 1000000000000000000000000000000000000
between-product u r hu hr =
    let product : unsigned_abs u * unsigned_abs r ≤ 10000000000000000000000 * 3141592653590 = mul-le _ _ _ _ hu hr in
    omega (arith, product)

pow_five : (k : ℕ) → 5 ^ suc k ≡ 5 * 5 ^ k
pow_five k = omega (arith, pow-suc 5 k)

sin_term_grows : (r : ℤ) (k : ℕ) → unsigned_abs r ≤ 3141592653590 → unsigned_abs (sin_term r k) ≤ 5 ^ k * 3141592653590
unfolding sin_term
sin_term_grows r zero h = omega arith
sin_term_grows r (suc k) h =
    rw (pow_five k) (next_term-le (sin_term r k) r (5 ^ k) (2 * suc k * (2 * suc k + 1)) (sin_term_grows r k h) h (omega arith))

cos_term_grows : (r : ℤ) (k : ℕ) → unsigned_abs r ≤ 3141592653590 → unsigned_abs (cos_term r k) ≤ 5 ^ k * 3141592653590
unfolding cos_term
cos_term_grows r zero h = omega arith
cos_term_grows r (suc k) h =
    let two : 1 * 2 ≤ (2 * suc k - 1) * (2 * suc k) = mul-le 1 2 (2 * suc k - 1) (2 * suc k) (omega arith) (omega arith) in
    rw (pow_five k) (next_term-le (cos_term r k) r (5 ^ k) ((2 * suc k - 1) * (2 * suc k)) (cos_term_grows r k h) h (omega arith))

five_le : (k : ℕ) → k ≤ 12 → 5 ^ k ≤ 244140625
five_le k h = let five : 0 < 5 = omega arith in pow-le-pow_right five {i = k} {j = 12} h

-- 5 ^ 12 times half a turn
pub sin_term-le : (r : ℤ) (k : ℕ) → unsigned_abs r ≤ 3141592653590 → k ≤ 12 → unsigned_abs (sin_term r k) ≤ 1000000000000000000000
sin_term-le r k h le = omega (arith, sin_term_grows r k h, five_le k le)

pub cos_term-le : (r : ℤ) (k : ℕ) → unsigned_abs r ≤ 3141592653590 → k ≤ 12 → unsigned_abs (cos_term r k) ≤ 1000000000000000000000
cos_term-le r k h le = omega (arith, cos_term_grows r k h, five_le k le)

pub sin_series-le : (r : ℤ) (k : ℕ) → unsigned_abs r ≤ 3141592653590 → k ≤ 13 → unsigned_abs (series (sin_term r) k) ≤ 13000000000000000000000
sin_series-le r k h le = omega (arith, series-le (sin_term r) 1000000000000000000000 k (λ i il. sin_term-le r i h (omega arith)))

pub cos_series-le : (r : ℤ) (k : ℕ) → unsigned_abs r ≤ 3141592653590 → k ≤ 13 → unsigned_abs (series (cos_term r) k) ≤ 13000000000000000000000
cos_series-le r k h le = omega (arith, series-le (cos_term r) 1000000000000000000000 k (λ i il. cos_term-le r i h (omega arith)))

pub exp_series-le : (f : ℤ) (k : ℕ) → unsigned_abs f ≤ units_per_one → k ≤ 17 → unsigned_abs (series (exp_term f) k) ≤ 17000000000000
exp_series-le f k h le = omega (arith, series-le (exp_term f) units_per_one k (λ i il. exp_term-le f i h))

-- ---- a loop's step

pub exp_term_more : (f : ℤ) (k : ℕ) → rnd (exp_term f k *ℤ f) (pos ((k + 1) * units_per_one)) ≡ exp_term f (k + 1)
unfolding exp_term
exp_term_more f k = rw (add-one k) refl

pub sin_term_more : (r : ℤ) (k : ℕ) → next_term r (2 * (k + 1) * (2 * (k + 1) + 1)) (sin_term r k) ≡ sin_term r (k + 1)
unfolding sin_term
sin_term_more r k = rw (add-one k) refl

pub cos_term_more : (r : ℤ) (k : ℕ) → next_term r ((2 * (k + 1) - 1) * (2 * (k + 1))) (cos_term r k) ≡ cos_term r (k + 1)
unfolding cos_term
cos_term_more r k = rw (add-one k) refl

pub exp_term_first : (f : ℤ) → exp_term f 0 ≡ one
unfolding exp_term
exp_term_first f = refl

pub sin_term_first : (r : ℤ) → sin_term r 0 ≡ r
unfolding sin_term
sin_term_first r = refl

pub cos_term_first : (r : ℤ) → cos_term r 0 ≡ one
unfolding cos_term
cos_term_first r = refl

-- ---- powers

pub multiplied_none : (factor s : ℤ) → multiplied_by 0 factor s ≡ Ok s
unfolding multiplied_by
multiplied_none factor s = refl

pub multiplied_more : (n : ℕ) (factor s t : ℤ) → 0 < n → product_of s factor ≡ Ok t → multiplied_by n factor s ≡ multiplied_by (n - 1) factor t
unfolding multiplied_by
multiplied_more zero factor s t h e = absurd (omega arith)
multiplied_more (suc n) factor s t h e = let p : suc n - 1 ≡ n = omega arith in rw (p, e) refl

pub multiplied_fails : (n : ℕ) (factor s : ℤ) (f : NumFault) → 0 < n → product_of s factor ≡ Err f → multiplied_by n factor s ≡ Err f
unfolding multiplied_by
multiplied_fails zero factor s f h e = absurd (omega arith)
multiplied_fails (suc n) factor s f h e = rw e refl

pub ruleset powers = (multiplied_none, multiplied_more, multiplied_fails)

pub ruleset exp_steps = (series_first, series_more, exp_term_more, exp_term_first, exp_term-le, exp_series-le, mul-le)

pub ruleset sin_steps = (series_first, series_more, sin_term_more, sin_term_first, sin_term-le, sin_series-le)

pub ruleset cos_steps = (series_first, series_more, cos_term_more, cos_term_first, cos_term-le, cos_series-le)

pub ruleset next_steps = (between-le, between-product, mul-le)

-- the units of a number fit the type that holds them
pub units_fit : (z : ℤ) → unsigned_abs z ≤ most_units → FitsSigned w128 z
units_fit z h = fits_signed_from_abs w128 z (omega arith)
