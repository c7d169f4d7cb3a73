-- Results in the ranges of INTEGER and TIME.
use Rattle.std.proofs.Common.{◌≡◌, ℕ, zero, suc, ◌+◌, ◌*◌, ◌<◌, ◌≤◌, ℤ, pos, negsuc, ◌*ℤ◌, neg_ℤ, ◌<ℤ◌, Ok, Err, refl, sym, ap, ◌∙◌, arith}
use Rattle.std.proofs.Math.Nat.{div-le_self}
use Rattle.std.proofs.lemmas.Int.{ints, fits_signed_from_abs, unsigned_abs-mul}
use Rattle.std.proofs.lemmas.Nat.{mul-le}
use Rattle.std.specs.Prelude.{unsigned_abs, int_div, int_rem, FitsSigned, Result}
use Rattle.std.specs.Int.{w64, w128}
use Rattle.std.specs.Int.{int_rem_euclid}
use Rattle.fix_core.specs.Rounding.{rnd, nearest, signs_differ}
use Rattle.fix_core.specs.Fixed.{one}
use Rattle.fix_core.specs.Laws.{rnd_is, nearest_high, unsigned_abs-signed}
use Rattle.fix_core.specs.Units.{units_per_one, most_ticks}
use Rattle.ams_value.specs.Ranges.{most_integer}
use Rattle.ams_value.specs.declared.fault.ValFault.{ValFault}
use Rattle.ams_value.specs.declared.fault.ValFault.TheVariants.{Range, Overflow, DivideByZero}
use Rattle.ams_value.specs.declared.val.Val.{Val}
use Rattle.ams_value.specs.Values.{integer_ranged, time_ranged, divided_by, time_by_real, time_over_real, integer_quotient, time_quotient, integer_modulus, integer_remainder, modulus, integer_of}

pub time_overflows : (z : ℤ) → most_ticks < unsigned_abs z → time_ranged z ≡ Err Overflow
unfolding time_ranged
time_overflows z h = grind arith

-- a product so large rounds to more than 10 ^ 18 ticks
pub product_past : (t r : ℤ) → 2000000000000000000000000000000 < unsigned_abs (t *ℤ r) → time_by_real t r ≡ Err Overflow
unfolding time_by_real
product_past t r h =
    let q : ℕ = nearest (unsigned_abs (t *ℤ r)) units_per_one in
    let high : 2 * unsigned_abs (t *ℤ r) < 2 * (q * units_per_one) + units_per_one = nearest_high (unsigned_abs (t *ℤ r)) units_per_one (omega arith) in
    let size : unsigned_abs (rnd (t *ℤ r) one) ≡ q = rw (rnd_is (t *ℤ r) one) (unsigned_abs-signed (signs_differ (t *ℤ r) one) q) in
    time_overflows (rnd (t *ℤ r) one) (omega (arith, high, size))

pub product_is : (t r : ℤ) → time_ranged (rnd (t *ℤ r) one) ≡ time_by_real t r
unfolding time_by_real
product_is t r = refl

pub ruleset products = (product_past, product_is)

pub by_zero : (d : ℤ) (r : Result Val ValFault) → unsigned_abs d ≡ 0 → divided_by d r ≡ Err DivideByZero
unfolding divided_by
by_zero d r h = grind arith

pub by_some : (d : ℤ) (r : Result Val ValFault) → 0 < unsigned_abs d → divided_by d r ≡ r
unfolding divided_by
by_some d r h = grind arith

pub over_none : (t r : ℤ) → r ≡ pos 0 → time_over_real t r ≡ Err DivideByZero
unfolding time_over_real
over_none t r e = by_zero r (time_ranged (rnd (t *ℤ one) r)) (rw e refl)

pub over_some : (t r : ℤ) → 0 < unsigned_abs r → time_ranged (rnd (t *ℤ one) r) ≡ time_over_real t r
unfolding time_over_real
over_some t r h = sym (by_some r (time_ranged (rnd (t *ℤ one) r)) h)

pub ruleset quotients = (over_none, over_some)

pub quotient_none : (a b : ℤ) → b ≡ pos 0 → integer_quotient a b ≡ Err DivideByZero
unfolding integer_quotient
quotient_none a b e = by_zero b (integer_ranged (int_div a b)) (rw e refl)

pub quotient_some : (a b : ℤ) → 0 < unsigned_abs b → integer_ranged (int_div a b) ≡ integer_quotient a b
unfolding integer_quotient
quotient_some a b h = sym (by_some b (integer_ranged (int_div a b)) h)

pub remainder_none : (a b : ℤ) → b ≡ pos 0 → integer_remainder a b ≡ Err DivideByZero
unfolding integer_remainder
remainder_none a b e = by_zero b (integer_ranged (int_rem a b)) (rw e refl)

pub remainder_some : (a b : ℤ) → 0 < unsigned_abs b → integer_ranged (int_rem a b) ≡ integer_remainder a b
unfolding integer_remainder
remainder_some a b h = sym (by_some b (integer_ranged (int_rem a b)) h)

pub modulus_none : (a b : ℤ) → b ≡ pos 0 → integer_modulus a b ≡ Err DivideByZero
unfolding integer_modulus
modulus_none a b e = by_zero b (integer_ranged (modulus a b)) (rw e refl)

pub modulus_up : (a b : ℤ) → pos 0 <ℤ b → integer_ranged (int_rem_euclid a b) ≡ integer_modulus a b
unfolding integer_modulus
modulus_up a (pos zero) h = absurd (omega (arith, ints))
modulus_up a (pos (suc b)) h = sym (by_some (pos (suc b)) (integer_ranged (int_rem_euclid a (pos (suc b)))) (omega arith))
modulus_up a (negsuc b) h = absurd (omega (arith, ints))

pub modulus_down : (a b : ℤ) → b <ℤ pos 0 → integer_ranged (neg_ℤ (int_rem_euclid (neg_ℤ a) b)) ≡ integer_modulus a b
unfolding integer_modulus
modulus_down a (pos b) h = absurd (omega (arith, ints))
modulus_down a (negsuc b) h = sym (by_some (negsuc b) (integer_ranged (neg_ℤ (int_rem_euclid (neg_ℤ a) (negsuc b)))) (omega (arith, ints)))

-- numbers that fit the types that hold them
pub fits_wide : (z : ℤ) → unsigned_abs z ≤ 10000000000000000000000000000000000000 → FitsSigned w128 z
fits_wide z h = fits_signed_from_abs w128 z (omega arith)

pub fits_long : (z : ℤ) → unsigned_abs z < 9223372036854775808 → FitsSigned w64 z
fits_long z h = fits_signed_from_abs w64 z (omega arith)

-- a result by way of the numbers that it is computed from
pub scaled_by : (t r p q : ℤ) → p ≡ t *ℤ r → q ≡ rnd p one → time_ranged q ≡ time_by_real t r
scaled_by t r p q e f = ap time_ranged (f ∙ ap (λ z. rnd z one) e) ∙ product_is t r

pub divided_over : (t r p q : ℤ) → p ≡ t *ℤ one → q ≡ rnd p r → 0 < unsigned_abs r → time_ranged q ≡ time_over_real t r
divided_over t r p q e f h = ap time_ranged (f ∙ ap (λ z. rnd z r) e) ∙ over_some t r h

pub quotient_by : (a b q : ℤ) → q ≡ int_div a b → 0 < unsigned_abs b → integer_ranged q ≡ integer_quotient a b
quotient_by a b q e h = ap integer_ranged e ∙ quotient_some a b h

pub remainder_by : (a b q : ℤ) → q ≡ int_rem a b → 0 < unsigned_abs b → integer_ranged q ≡ integer_remainder a b
remainder_by a b q e h = ap integer_ranged e ∙ remainder_some a b h

pub modulus_by : (a b q : ℤ) → q ≡ int_rem_euclid a b → pos 0 <ℤ b → integer_ranged q ≡ integer_modulus a b
modulus_by a b q e h = ap integer_ranged e ∙ modulus_up a b h

pub modulus_back : (a b q : ℤ) → q ≡ neg_ℤ (int_rem_euclid (neg_ℤ a) b) → b <ℤ pos 0 → integer_ranged q ≡ integer_modulus a b
modulus_back a b q e h = ap integer_ranged e ∙ modulus_down a b h

quotient-le : (a b : ℤ) → unsigned_abs (int_div a b) ≤ unsigned_abs a
quotient-le (pos a) (pos b) = div-le_self a b
quotient-le (pos a) (negsuc b) = omega (arith, ints, div-le_self a (suc b))
quotient-le (negsuc a) (pos b) = omega (arith, ints, div-le_self (suc a) b)
quotient-le (negsuc a) (negsuc b) = omega (arith, ints, div-le_self (suc a) (suc b))

pub quotient_fits : (a b : ℤ) → unsigned_abs a < 9223372036854775808 → FitsSigned w64 (int_div a b)
quotient_fits a b h = fits_long (int_div a b) (omega (arith, quotient-le a b))

pub parts_none : (t i : ℤ) → i ≡ pos 0 → time_quotient t i ≡ Err DivideByZero
unfolding time_quotient
parts_none t i e = by_zero i (time_ranged (int_div t i)) (rw e refl)

pub parts_some : (t i : ℤ) → 0 < unsigned_abs i → time_ranged (int_div t i) ≡ time_quotient t i
unfolding time_quotient
parts_some t i h = sym (by_some i (time_ranged (int_div t i)) h)

pub ruleset integers = (parts_none, parts_some, quotient_none, quotient_some, remainder_none, remainder_some, modulus_none, modulus_up, modulus_down)

pub repeated_fits : (t i : ℤ) → unsigned_abs t ≤ most_ticks → unsigned_abs i ≤ 2147483648 → FitsSigned w128 (t *ℤ i)
repeated_fits t i ht hi =
    let most : unsigned_abs t * unsigned_abs i ≤ most_ticks * 2147483648 = mul-le (unsigned_abs t) (unsigned_abs i) most_ticks 2147483648 ht hi in
    fits_wide (t *ℤ i) (rw (unsigned_abs-mul t i) (omega (arith, most)))

pub integer_is : (r q : ℤ) → q ≡ rnd r one → unsigned_abs q ≤ most_integer → integer_of r ≡ Ok q
unfolding integer_of
integer_is r q e h = let le : unsigned_abs (rnd r one) ≤ most_integer = rw (← e) h in rw e (grind arith)

pub integer_none : (r q : ℤ) → q ≡ rnd r one → most_integer < unsigned_abs q → integer_of r ≡ Err Range
unfolding integer_of
integer_none r q e h = let lt : most_integer < unsigned_abs (rnd r one) = rw (← e) h in grind arith

pub ruleset reals = (integer_is, integer_none, fits_wide)
