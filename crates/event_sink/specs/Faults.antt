-- Counts of faults, which never fall.
use Rattle.std.specs.Prelude.{ℕ, ◌≤◌}
use Rattle.step_model.specs.Counts.{more}

-- a count rose: it is greater than before, or it stands at its end
abbrev pub Rose : ℕ → ℕ → Type 0
Rose before now = more before ≤ now
