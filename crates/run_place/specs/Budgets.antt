-- The budgets of a run.
use Rattle.std.specs.Prelude.{ℕ}

-- deltas at one time
abbrev pub delta_budget : ℕ
delta_budget = 1000

-- cycles, and tries of steps and probes
abbrev pub run_budget : ℕ
run_budget = 200000
