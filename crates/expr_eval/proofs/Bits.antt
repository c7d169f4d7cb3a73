-- Bits of a number of 64 bits.
use Rattle.std.proofs.Common.{◌≡◌, ℕ, ◌/◌, ◌^◌, ◌<◌, ◌≤◌, arith}
use Rattle.std.proofs.Math.Nat.{div-eq_of_lt}
use Rattle.ams_value.proofs.Vectors.{grow, power_pos}

pub past_the_last : (a k : ℕ) → a < 18446744073709551616 → 64 ≤ k → a / 2 ^ k ≡ 0
past_the_last a k h far = let g : 2 ^ 64 ≤ 2 ^ k = grow 64 k far in div-eq_of_lt (omega arith)

pub ruleset bits = (past_the_last, power_pos)
