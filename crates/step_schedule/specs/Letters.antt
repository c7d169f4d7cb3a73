-- Schedules by a linear congruential generator (Knuth's multiplier of 64 bits).
use Rattle.std.specs.Prelude.{ℕ, zero, suc, ◌+◌, ◌*◌, ◌%◌, nat_le, if◌then◌else◌, List, [], ◌∷◌}
use Rattle.step_schedule.specs.declared.Step.{Step}
use Rattle.step_schedule.specs.declared.Step.TheVariants.{D, W}

-- the next state
unfoldable pub turned : ℕ → ℕ
turned x = (x * 6364136223846793005 + 1442695040888963407) % 18446744073709551616

-- a worker's step in the upper half
abbrev pub letter : ℕ → Step
letter x = if nat_le 9223372036854775808 x then W else D

-- so many steps behind a state
abbrev pub letters : ℕ → ℕ → List Step
letters x zero = []
letters x (suc n) = letter (turned x) ∷ letters (turned x) n
