-- How many trials and attempts a solver has made.
use Rattle.std.specs.Prelude.{ℕ, ◌≤◌, min}
use Rattle.std.proofs.Common.{arith}
use Rattle.step_model.specs.Counts.{greatest_count}

-- up to the greatest number
abbrev pub count_of : ℕ → ℕ
count_of made = min made greatest_count

pub count-bounded : (made : ℕ) → count_of made ≤ greatest_count
count-bounded made = omega arith
