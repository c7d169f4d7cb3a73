-- How products and quotients of magnitudes give `rnd`.
use Rattle.std.proofs.Common.{◌≡◌, ℕ, zero, suc, ◌+◌, ◌-◌, ◌*◌, ◌/◌, ◌<◌, ◌≤◌, ℤ, Ok, Err, sym, ap, ◌∙◌, arith}
use Rattle.std.proofs.Math.Nat.{div-div-eq-div-mul, div-eq_of_lt-le, div-le_self, div-lt_iff_lt-mul}
use Rattle.std.proofs.lemmas.Nat.{mul-le}
use Rattle.std.specs.Prelude.{unsigned_abs}
use Rattle.fix_core.specs.declared.NumFault.TheVariants.{Overflow}
use Rattle.fix_core.specs.Rounding.{nearest, signed, signs_differ}
use Rattle.fix_core.specs.Units.{units_per_one, most_units, product_end}
use Rattle.fix_core.specs.Fixed.{product_of}
use Rattle.fix_core.specs.Laws.{rnd-product, unsigned_abs-signed, ranged-fits, ranged-overflows, rnd-IsNearest, rnd_alone}

-- a magnitude below 2 ^ 80 times one below 2 ^ 47
small_product : (a b : ℕ) → a < 1208925819614629174706176 → b < 140737488355328 → a * b < 170141183460469231731687303715884105728
small_product a b ha hb = let h : a * b ≤ 1208925819614629174706175 * 140737488355327 = mul-le a b 1208925819614629174706175 140737488355327 (omega arith) (omega arith) in omega (arith, h)

pub right_small : (a b : ℕ) → a ≤ most_units → b < 140737488355328 → a * b < 170141183460469231731687303715884105728
right_small a b ha hb = small_product a b (omega arith) hb

pub left_small : (a b : ℕ) → a < 140737488355328 → b ≤ most_units → a * b < 170141183460469231731687303715884105728
left_small a b ha hb = let h : b * a < 170141183460469231731687303715884105728 = small_product b a (omega arith) ha in omega arith

pub tried_product : (q d : ℕ) → q < 140737488355328 → d < 1208925819614629174706176 → q * d < 170141183460469231731687303715884105728
tried_product q d hq hd = let h : d * q < 170141183460469231731687303715884105728 = small_product d q hd hq in omega arith

pub ruleset products = (right_small, left_small, mul-le)

-- a quotient is known by the two multiples round the dividend
pub quotient_is : (m d q : ℕ) → q * d ≤ m → m < q * d + d → q ≡ m / d
quotient_is m d q low high = sym (div-eq_of_lt-le d low (omega (arith, high)))

pub quotient_next : (m d q : ℕ) → q * d ≤ m → d ≤ m - q * d → m - q * d - d < d → q + 1 ≡ m / d
quotient_next m d q low more high = quotient_is m d (q + 1) (omega arith) (omega arith)

pub quotient_before : (m d q : ℕ) → m < q * d → q * d - m ≤ d → q - 1 ≡ m / d
quotient_before m d zero h high = absurd (omega arith)
quotient_before m d (suc q) h high =
    let e : suc q - 1 ≡ q = omega arith in
    e ∙ quotient_is m d q (omega arith) (omega arith)

pub ruleset quotients = (quotient_is, quotient_next, quotient_before, tried_product)

-- the code's form: half the divisor is added before the division
pub nearest_is : (m d : ℕ) → (m + d / 2) / d ≡ nearest m d
unfolding nearest
nearest_is m d =
    let half : (2 * m + d) / 2 ≡ m + d / 2 = omega arith in
    ap (λ x. x / d) (sym half) ∙ div-div-eq-div-mul (2 * m + d) 2 d

pub nearest_by_one : (m : ℕ) → (m + 500000000000) / units_per_one ≡ nearest m units_per_one
nearest_by_one m = nearest_is m units_per_one

-- by one divisor and then by the other
pub nearest_by_ones : (m d : ℕ) → (m + d * 500000000000) / units_per_one / d ≡ nearest m (d * units_per_one)
nearest_by_ones m d =
    let half : d * units_per_one / 2 ≡ d * 500000000000 = omega arith in
    let turned : units_per_one * d ≡ d * units_per_one = omega arith in
    div-div-eq-div-mul (m + d * 500000000000) units_per_one d ∙ ap (λ x. (m + d * 500000000000) / x) turned ∙ ap (λ x. (m + x) / (d * units_per_one)) (sym half) ∙ nearest_is m (d * units_per_one)

pub nearest_le : (m d : ℕ) → nearest m d ≤ 2 * m + d
unfolding nearest
nearest_le m d = div-le_self (2 * m + d) (2 * d)

-- a product of magnitudes below the least one that overflows
pub nearest_fits : (p : ℕ) → p < product_end → nearest p units_per_one ≤ most_units
unfolding nearest
nearest_fits p h = omega arith

nearest_overflows : (p : ℕ) → product_end ≤ p → most_units < nearest p units_per_one
unfolding nearest
nearest_overflows p h = omega arith

pub product-fits : (a b : ℤ) → unsigned_abs a * unsigned_abs b < product_end → product_of a b ≡ Ok (signed (signs_differ a b) (nearest (unsigned_abs a * unsigned_abs b) units_per_one))
unfolding product_of
product-fits a b h = rw (rnd-product a b units_per_one) (ranged-fits _ (rw unsigned_abs-signed (nearest_fits _ h)))

pub product-overflows : (a b : ℤ) → product_end ≤ unsigned_abs a * unsigned_abs b → product_of a b ≡ Err Overflow
unfolding product_of
product-overflows a b h = rw (rnd-product a b units_per_one) (ranged-overflows _ (rw unsigned_abs-signed (nearest_overflows _ h)))

-- a product that is known to be a number, over d
pub over_fits : (p d : ℕ) → 0 < d → p ≤ 1000000000000000000000000000000000000 → nearest p (d * units_per_one) ≤ most_units
unfolding nearest
over_fits p d h le =
    let two : 0 < 2 * (d * units_per_one) = omega arith in
    let below : (2 * p + d * units_per_one) / (2 * (d * units_per_one)) < 1000000000000000000000001 =
    (div-lt_iff_lt-mul two).1 (omega arith) in
    omega (arith, below)

pub ruleset laws = (rnd-IsNearest, rnd_alone)
