-- Laws of the definitions, which proofs of this crate and of others cite.
use Rattle.std.proofs.Common.{◌≡◌, ℕ, zero, suc, ◌+◌, ◌*◌, ◌/◌, ◌<◌, ◌≤◌, Bool, true, false, ℤ, pos, negsuc, ◌+ℤ◌, ◌-ℤ◌, ◌*ℤ◌, neg_ℤ, List, [], ◌∷◌, ◌++◌, length, take, drop, set, get_or, Result, Ok, Err, inl, inr, refl, sym, ap, subst, ◌∙◌, arith, append_assoc}
use Rattle.std.proofs.Math.Nat.{lt-div-mul-add, div-mul-le_self, div-eq_of_lt, div-eq_of_lt-le, lt_of_mul-lt-mul_right}
use Rattle.std.proofs.Math.IntN.{pos-*ℤ-negsuc, negsuc-*ℤ-pos, negsuc-*ℤ-negsuc}
use Rattle.std.proofs.lemmas.Bool.{cases_eq, cases_lt}
use Rattle.std.proofs.lemmas.Int.{ints, unsigned_abs-mul}
use Rattle.std.proofs.lemmas.List.{drop_more, take_more_set, drop-set-lt, append-nil, take_all, drop_all}
use Rattle.std.specs.Prelude.{unsigned_abs}
use Rattle.fix_core.specs.declared.NumFault.TheVariants.{Overflow, DivideByZero}
use Rattle.fix_core.specs.Rounding.{nearest, rnd, signed, signs_differ, IsNearest}
use Rattle.fix_core.specs.Passes.{and_then, each, joined}
use Rattle.fix_core.specs.Units.{most_units}
use Rattle.fix_core.specs.Fixed.{one, IsInRange, ranged, sum_of, difference_of, product_of, quotient_of}

-- ---- rounding

-- twice the magnitude lies between two multiples of the divisor
pub nearest_low : (m d : ℕ) → 2 * (nearest m d * d) ≤ 2 * m + d
unfolding nearest
nearest_low m d = omega (arith, div-mul-le_self (2 * m + d) (2 * d))

pub nearest_high : (m d : ℕ) → 0 < d → 2 * m < 2 * (nearest m d * d) + d
unfolding nearest
nearest_high m d h =
    let two : 0 < 2 * d = omega arith in
    let high : 2 * m + d < (2 * m + d) / (2 * d) * (2 * d) + 2 * d = lt-div-mul-add two in
    omega (arith, high)

-- and no other number's multiples do
pub nearest_alone : (m d q : ℕ) → 2 * (q * d) ≤ 2 * m + d → 2 * m < 2 * (q * d) + d → q ≡ nearest m d
unfolding nearest
nearest_alone m d q low high =
    let l : q * (2 * d) ≤ 2 * m + d = omega (arith, low) in
    sym (div-eq_of_lt-le (2 * d) l (omega (arith, high)))

nearest-zero : (d : ℕ) → nearest 0 d ≡ 0
unfolding nearest
nearest-zero zero = refl
nearest-zero (suc d) =
    let lt : 2 * 0 + suc d < 2 * suc d = omega arith in
    div-eq_of_lt lt

rnd-neg : (n d : ℕ) → rnd (neg_ℤ (pos n)) (pos d) ≡ neg_ℤ (pos (nearest n d))
unfolding rnd
rnd-neg zero d = rw (nearest-zero d) refl
rnd-neg (suc n) d = refl

-- the sign of a rounded product, and its magnitude
pub rnd-product : (a b : ℤ) (d : ℕ) → rnd (a *ℤ b) (pos d) ≡ signed (signs_differ a b) (nearest (unsigned_abs a * unsigned_abs b) d)
unfolding rnd
rnd-product (pos m) (pos n) d = refl
rnd-product (pos m) (negsuc n) d = ap (λ z. rnd z (pos d)) (pos-*ℤ-negsuc m n) ∙ rnd-neg (m * suc n) d
rnd-product (negsuc m) (pos n) d = ap (λ z. rnd z (pos d)) (negsuc-*ℤ-pos m n) ∙ rnd-neg (suc m * n) d
rnd-product (negsuc m) (negsuc n) d = ap (λ z. rnd z (pos d)) (negsuc-*ℤ-negsuc m n)

-- the sign of a rounded quotient, and its magnitude
pub rnd_is : (n d : ℤ) → rnd n d ≡ signed (signs_differ n d) (nearest (unsigned_abs n) (unsigned_abs d))
unfolding rnd
rnd_is (pos m) (pos n) = refl
rnd_is (pos m) (negsuc n) = refl
rnd_is (negsuc m) (pos n) = refl
rnd_is (negsuc m) (negsuc n) = refl

pub unsigned_abs-signed : (s : Bool) (n : ℕ) → unsigned_abs (signed s n) ≡ n
unsigned_abs-signed false n = refl
unsigned_abs-signed true zero = refl
unsigned_abs-signed true (suc n) = refl

-- a quotient of magnitudes with its sign
near_signed : (n d : ℤ) (q : ℕ) → 2 * (q * unsigned_abs d) ≤ 2 * unsigned_abs n + unsigned_abs d → 2 * unsigned_abs n < 2 * (q * unsigned_abs d) + unsigned_abs d → IsNearest n d (signed (signs_differ n d) q)
near_signed (pos n) (pos d) q l u = record { near = omega (arith, ints); away = λ e. omega (arith, ints) }
near_signed (pos n) (negsuc d) zero l u = record { near = omega (arith, ints); away = λ e. omega (arith, ints) }
near_signed (pos n) (negsuc d) (suc q) l u = record { near = omega (arith, ints); away = λ e. omega (arith, ints) }
near_signed (negsuc n) (pos d) zero l u = record { near = omega (arith, ints); away = λ e. omega (arith, ints) }
near_signed (negsuc n) (pos d) (suc q) l u = record { near = omega (arith, ints); away = λ e. omega (arith, ints) }
near_signed (negsuc n) (negsuc d) q l u = record { near = omega (arith, ints); away = λ e. omega (arith, ints) }

pub rnd-IsNearest : (n d : ℤ) → 0 < unsigned_abs d → IsNearest n d (rnd n d)
rnd-IsNearest n d h =
    rw (rnd_is n d) (near_signed n d (nearest (unsigned_abs n) (unsigned_abs d)) (nearest_low (unsigned_abs n) (unsigned_abs d)) (nearest_high (unsigned_abs n) (unsigned_abs d) h))

-- a whole number at most half of d away from n, and nearer to 0 than n only if it is less far
magnitudes_near : (n p : ℤ) (d : ℕ) → 0 < d → 2 * unsigned_abs (n -ℤ p) ≤ d → (2 * unsigned_abs (n -ℤ p) ≡ d → unsigned_abs n ≤ unsigned_abs p) → (2 * unsigned_abs p ≤ 2 * unsigned_abs n + d) × (2 * unsigned_abs n < 2 * unsigned_abs p + d)
magnitudes_near n p d h near away =
    elim (cases_eq (2 * unsigned_abs (n -ℤ p)) d) [
      | inl tie ↦ let far : unsigned_abs n ≤ unsigned_abs p = away tie in (omega (arith, ints), omega (arith, ints))
      | inr less ↦ (omega (arith, ints), omega (arith, ints))
    ]

-- it has the sign of the quotient
sign_near : (n d q : ℤ) → 0 < unsigned_abs d → 2 * unsigned_abs (n -ℤ q *ℤ d) ≤ unsigned_abs d → q ≡ signed (signs_differ n d) (unsigned_abs q)
sign_near (pos n) (pos d) (pos q) h near = refl
sign_near (pos n) (pos d) (negsuc q) h near = absurd (omega (arith, ints))
sign_near (pos n) (negsuc d) (pos zero) h near = refl
sign_near (pos n) (negsuc d) (pos (suc q)) h near = absurd (omega (arith, ints))
sign_near (pos n) (negsuc d) (negsuc q) h near = refl
sign_near (negsuc n) (pos d) (pos zero) h near = refl
sign_near (negsuc n) (pos d) (pos (suc q)) h near = absurd (omega (arith, ints))
sign_near (negsuc n) (pos d) (negsuc q) h near = refl
sign_near (negsuc n) (negsuc d) (pos q) h near = refl
sign_near (negsuc n) (negsuc d) (negsuc q) h near = absurd (omega (arith, ints))

-- no other number is nearest
pub rnd_alone : (n d q : ℤ) → 0 < unsigned_abs d → IsNearest n d q → q ≡ rnd n d
rnd_alone n d q h i =
    let bounds = magnitudes_near n (q *ℤ d) (unsigned_abs d) h i.near i.away in
    let size : unsigned_abs (q *ℤ d) ≡ unsigned_abs q * unsigned_abs d = unsigned_abs-mul q d in
    let same : unsigned_abs q ≡ nearest (unsigned_abs n) (unsigned_abs d) = nearest_alone (unsigned_abs n) (unsigned_abs d) (unsigned_abs q) (omega (arith, bounds.0, size)) (omega (arith, bounds.1, size)) in
    sign_near n d q h i.near ∙ ap (λ m. signed (signs_differ n d) m) same ∙ sym (rnd_is n d)

-- n / d is at most b in magnitude, and so is what it rounds to
pub rnd-le : (n d : ℤ) (b : ℕ) → 0 < unsigned_abs d → unsigned_abs n ≤ b * unsigned_abs d → unsigned_abs (rnd n d) ≤ b
rnd-le n d b h le =
    let q : ℕ = nearest (unsigned_abs n) (unsigned_abs d) in
    let low : 2 * (q * unsigned_abs d) ≤ 2 * unsigned_abs n + unsigned_abs d = nearest_low (unsigned_abs n) (unsigned_abs d) in
    let small : q * unsigned_abs d < (b + 1) * unsigned_abs d = omega arith in
    let fewer : q < b + 1 = lt_of_mul-lt-mul_right (unsigned_abs d) small in
    rw (rnd_is n d, unsigned_abs-signed (signs_differ n d) q) (omega arith)

-- ---- ranges

pub ranged-fits : (z : ℤ) → unsigned_abs z ≤ most_units → ranged z ≡ Ok z
unfolding ranged
ranged-fits z h = grind arith

pub ranged-overflows : (z : ℤ) → most_units < unsigned_abs z → ranged z ≡ Err Overflow
unfolding ranged
ranged-overflows z h = grind arith

-- what is answered is a number
pub ranged_in_range : (z y : ℤ) → ranged z ≡ Ok y → IsInRange y
ranged_in_range z y e =
    elim (cases_lt most_units (unsigned_abs z)) [
      | inl past ↦ let f : ranged z ≡ Err Overflow = ranged-overflows z past in cc
      | inr fits ↦
          let f : ranged z ≡ Ok z = ranged-fits z fits in
          let same : z ≡ y = cc in
          subst IsInRange same fits
    ]

pub sum_in_range : (a b y : ℤ) → sum_of a b ≡ Ok y → IsInRange y
unfolding sum_of
sum_in_range a b y e = ranged_in_range (a +ℤ b) y e

pub difference_in_range : (a b y : ℤ) → difference_of a b ≡ Ok y → IsInRange y
unfolding difference_of
difference_in_range a b y e = ranged_in_range (a -ℤ b) y e

pub product_in_range : (a b y : ℤ) → product_of a b ≡ Ok y → IsInRange y
unfolding product_of
product_in_range a b y e = ranged_in_range (rnd (a *ℤ b) one) y e

pub quotient_by_zero : (a b : ℤ) → unsigned_abs b ≡ 0 → quotient_of a b ≡ Err DivideByZero
unfolding quotient_of
quotient_by_zero a b h = grind arith

pub quotient_ranged : (a b : ℤ) → 0 < unsigned_abs b → quotient_of a b ≡ ranged (rnd (a *ℤ one) b)
unfolding quotient_of
quotient_ranged a b h = grind arith

pub quotient_in_range : (a b y : ℤ) → quotient_of a b ≡ Ok y → IsInRange y
quotient_in_range a b y e =
    elim (cases_eq (unsigned_abs b) 0) [
      | inl none ↦ let f : quotient_of a b ≡ Err DivideByZero = quotient_by_zero a b none in cc
      | inr some ↦ ranged_in_range (rnd (a *ℤ one) b) y (sym (quotient_ranged a b (omega arith)) ∙ e)
    ]

-- ---- passes over a list: what is done up to a place, and what is left from it on

pub joined-joined : {A E : Type 0} (xs : List A) (y : A) (r : Result (List A) E) → joined xs (and_then (λ ys. Ok (y ∷ ys)) r) ≡ joined (xs ++ y ∷ []) r
joined-joined xs y (Ok ys) = ap Ok (sym (append_assoc xs (y ∷ []) ys))
joined-joined xs y (Err e) = refl

pub joined_none : {A E : Type 0} (r : Result (List A) E) → joined [] r ≡ r
joined_none (Ok ys) = refl
joined_none (Err e) = refl

-- what is left of a list from a place on, by the element that was read there
pub at_place : {A : Type 0} (xs : List A) (i : ℕ) (x : A) → i < length xs → x ≡ get_or xs i x → drop i xs ≡ x ∷ drop (i + 1) xs
at_place xs i x h e = drop_more xs i x h ∙ ap (λ y. y ∷ drop (i + 1) xs) (sym e)

pub each_start : {A E : Type 0} (f : A → Result A E) (xs : List A) → joined (take 0 xs) (each f (drop 0 xs)) ≡ each f xs
each_start f xs = joined_none (each f xs)

pub each_more : {A E : Type 0} (f : A → Result A E) (xs : List A) (i : ℕ) (x y : A) → i < length xs → x ≡ get_or xs i x → f x ≡ Ok y → joined (take i xs) (each f (drop i xs)) ≡ joined (take (i + 1) (set xs i y)) (each f (drop (i + 1) (set xs i y)))
unfolding each
each_more f xs i x y h r e =
    rw (at_place xs i x h r, e, take_more_set xs i y h, drop-set-lt (i + 1) xs i y (omega arith)) (joined-joined (take i xs) y (each f (drop (i + 1) xs)))

pub each_fails : {A E : Type 0} (f : A → Result A E) (xs : List A) (i : ℕ) (x : A) (e : E) → i < length xs → x ≡ get_or xs i x → f x ≡ Err e → joined (take i xs) (each f (drop i xs)) ≡ Err e
unfolding each
each_fails f xs i x e h r q = rw (at_place xs i x h r, q) refl

pub each_end : {A E : Type 0} (f : A → Result A E) (xs : List A) (i : ℕ) → length xs ≤ i → joined (take i xs) (each f (drop i xs)) ≡ Ok xs
unfolding each
each_end f xs i h = rw (drop_all i xs h, take_all i xs h, append-nil xs) refl
