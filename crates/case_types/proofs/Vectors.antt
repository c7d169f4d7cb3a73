-- Counts of vectors.
use Rattle.std.proofs.Common.{◌≡◌, ◌<◌, ◌≤◌, ◌^◌, ℕ, nat_le, false, arith}
use Rattle.std.proofs.Math.Pow.{pow_mono}
use Rattle.std.proofs.lemmas.Bool.Decides.{nat_tests}

pub too_many : (n count : ℕ) → 64 ≤ n → count < 2 ^ 64 → false ≡ nat_le (2 ^ n) count
too_many n count long few =
    let enough : 2 ^ 64 ≤ 2 ^ n = pow_mono long in
    grind (arith, nat_tests)
