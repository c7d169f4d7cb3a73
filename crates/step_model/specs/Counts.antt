-- Counts stand still at the greatest number of 64 bits.
use Rattle.std.specs.Prelude.{ℕ, ◌+◌, min}

abbrev pub greatest_count : ℕ
greatest_count = 18446744073709551615

abbrev pub more : ℕ → ℕ
more n = min (n + 1) greatest_count
