-- A rounded ratio with its sign is the product or the quotient.
use Rattle.std.proofs.Common.{◌≡◌, ℕ, zero, suc, ◌*◌, ◌<◌, ◌≤◌, ◌^◌, ℤ, pos, negsuc, ◌*ℤ◌, neg_ℤ, Bool, true, false, Ok, refl, sym, ap, subst, arith}
use Rattle.std.proofs.lemmas.Int.{unsigned_abs-mul}
use Rattle.std.specs.Prelude.{unsigned_abs}
use Rattle.fix_core.specs.Rounding.{nearest, signed, signs_differ}
use Rattle.fix_core.specs.Fixed.{one, ranged, product_of, quotient_of}
use Rattle.fix_core.specs.Laws.{rnd-product, rnd_is, unsigned_abs-signed, ranged-fits}
use Rattle.number_ratio.specs.Kept.{kept, answer_of, numerator_of, denominator_of}
use Rattle.number_ratio.proofs.Naturals.{nearest_same}

signs_turned : (a b : ℤ) → signs_differ a b ≡ signs_differ b a
signs_turned (pos a) (pos b) = refl
signs_turned (pos a) (negsuc b) = refl
signs_turned (negsuc a) (pos b) = refl
signs_turned (negsuc a) (negsuc b) = refl

signs_neg : (n : ℕ) (b : ℤ) → 0 < n → signs_differ (neg_ℤ (pos n)) b ≡ signs_differ (negsuc 0) b
signs_neg zero b h = absurd (omega arith)
signs_neg (suc n) (pos b) h = refl
signs_neg (suc n) (negsuc b) h = refl

signs_scaled : (a b : ℤ) → signs_differ (a *ℤ pos 1000000000000) b ≡ signs_differ a b
signs_scaled (pos a) (pos b) = refl
signs_scaled (pos a) (negsuc b) = refl
signs_scaled (negsuc a) (pos b) = signs_neg (suc a * 1000000000000) (pos b) (omega arith)
signs_scaled (negsuc a) (negsuc b) = signs_neg (suc a * 1000000000000) (negsuc b) (omega arith)

fits_signed : (s : Bool) (n : ℕ) → n < 2 ^ 64 → unsigned_abs (signed s n) ≤ 1000000000000000000000000
fits_signed s n h = rw unsigned_abs-signed (omega arith)

-- the ratio a / m is that of |f| to one
pub product_is : (f p : ℤ) (a m : ℕ) → 0 < m → a * 1000000000000 ≡ unsigned_abs f * m → nearest (unsigned_abs p * a) m < 2 ^ 64 → product_of f p ≡ Ok (signed (signs_differ p f) (nearest (unsigned_abs p * a) m))
unfolding product_of
product_is f p a m some same fits =
    let scaled : unsigned_abs p * (a * 1000000000000) ≡ unsigned_abs p * (unsigned_abs f * m) = ap (λ x. unsigned_abs p * x) same in
    let e : nearest (unsigned_abs p * a) m ≡ nearest (unsigned_abs f * unsigned_abs p) 1000000000000 = nearest_same (unsigned_abs p * a) m (unsigned_abs f * unsigned_abs p) 1000000000000 some (omega arith) (omega (arith, scaled)) in
    rw (rnd-product f p 1000000000000, signs_turned f p, ← e) (ranged-fits _ (fits_signed (signs_differ p f) _ fits))

-- a divisor of 0 has no ratio
some_divisor : (a m d : ℕ) → 0 < m → a * d ≡ 1000000000000 * m → 0 < d
some_divisor a m zero some same = absurd (omega arith)
some_divisor a m (suc d) some same = omega arith

quotient_signed : (d p : ℤ) → 0 < unsigned_abs d → quotient_of p d ≡ ranged (signed (signs_differ p d) (nearest (unsigned_abs p * 1000000000000) (unsigned_abs d)))
unfolding quotient_of
quotient_signed d p some = rw (rnd_is (p *ℤ one) d, signs_scaled p d, unsigned_abs-mul p one) (grind arith)

pub quotient_is : (d p : ℤ) (a m : ℕ) → 0 < m → a * unsigned_abs d ≡ 1000000000000 * m → nearest (unsigned_abs p * a) m < 2 ^ 64 → quotient_of p d ≡ Ok (signed (signs_differ p d) (nearest (unsigned_abs p * a) m))
quotient_is d p a m some same fits =
    let scaled : unsigned_abs p * (a * unsigned_abs d) ≡ unsigned_abs p * (1000000000000 * m) = ap (λ x. unsigned_abs p * x) same in
    let divides : 0 < unsigned_abs d = some_divisor a m (unsigned_abs d) some same in
    let e : nearest (unsigned_abs p * a) m ≡ nearest (unsigned_abs p * 1000000000000) (unsigned_abs d) = nearest_same (unsigned_abs p * a) m (unsigned_abs p * 1000000000000) (unsigned_abs d) some divides (omega (arith, scaled)) in
    rw (quotient_signed d p divides, ← e) (ranged-fits _ (fits_signed (signs_differ p d) _ fits))

-- the answer that the code has
pub answer_is : (divides : Bool) (value p : ℤ) (a m q : ℕ) (s : Bool) → 0 < m → a * denominator_of divides value ≡ numerator_of divides value * m → s ≡ signs_differ p value → q ≡ nearest (unsigned_abs p * a) m → q < 2 ^ 64 → Ok (signed s q) ≡ answer_of (kept divides value) p
answer_is false f p a m q s some same sign value fits =
    let e : product_of f p ≡ Ok (signed (signs_differ p f) (nearest (unsigned_abs p * a) m)) = product_is f p a m some same (subst (λ x. x < 2 ^ 64) value fits) in
    rw (sign, value) (sym e)
answer_is true d p a m q s some same sign value fits =
    let e : quotient_of p d ≡ Ok (signed (signs_differ p d) (nearest (unsigned_abs p * a) m)) = quotient_is d p a m some same (subst (λ x. x < 2 ^ 64) value fits) in
    rw (sign, value) (sym e)
