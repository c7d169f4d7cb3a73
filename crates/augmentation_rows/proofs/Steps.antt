-- Sizes of steps, slopes and their products.
use Rattle.std.proofs.Common.{◌≤◌, ◌*◌, ◌^◌, ℕ, ℤ, pos, arith}
use Rattle.std.specs.Prelude.{unsigned_abs, ◌*ℤ◌}
use Rattle.std.proofs.Math.Nat.{mul-le-mul_left, mul-le-mul_right}
use Rattle.std.proofs.lemmas.Int.{unsigned_abs-mul}
use Rattle.fix_core.specs.Units.{most_units, units_per_one}
use Rattle.fix_core.specs.Rounding.{rnd}
use Rattle.fix_core.specs.Laws.{rnd-le}

product_below : (a b m n : ℕ) → a ≤ m → b ≤ n → a * b ≤ m * n
product_below a b m n h k =
    let low : a * b ≤ a * n = mul-le-mul_left a k in
    let high : a * n ≤ m * n = mul-le-mul_right n h in
    omega (arith, low, high)

pub small_sizes : (a b : ℕ) → a ≤ 1000000000000 → b ≤ most_units → a * b ≤ 10 ^ 36
small_sizes a b h k = product_below a b 1000000000000 most_units h k

pub small_product : (a b : ℤ) → unsigned_abs a ≤ 1000000000000 → unsigned_abs b ≤ 2 * most_units → unsigned_abs (a *ℤ b) ≤ 2 * 10 ^ 36
small_product a b h k =
    let le : unsigned_abs a * unsigned_abs b ≤ 1000000000000 * (2 * most_units) = product_below (unsigned_abs a) (unsigned_abs b) 1000000000000 (2 * most_units) h k in
    let is = unsigned_abs-mul a b in
    omega (arith, le, is)

pub small_rise : (z : ℤ) → unsigned_abs z ≤ 2 * 10 ^ 36 → unsigned_abs (rnd z (pos (2 * units_per_one))) ≤ most_units
small_rise z h = rnd-le z (pos (2 * units_per_one)) most_units (omega arith) (omega (arith, h))

pub small_half : (z : ℤ) → unsigned_abs z ≤ most_units → unsigned_abs (rnd z (pos 2)) ≤ most_units
small_half z h = rnd-le z (pos 2) most_units (omega arith) (omega (arith, h))
