-- What a step answered.
use Rattle.std.specs.Prelude.{ℕ, ℤ, List, Result, Ok, Err}
use Rattle.step_data.specs.declared.outcome.Cause.{Cause}
use Rattle.step_model.specs.System.{Landing}

-- the values at its end with its error, or why it was refused
abbrev pub stepped : Result ℕ Cause → List ℤ → Result Landing Cause
stepped (Ok err) x = Ok (record { x = x; err = err })
stepped (Err c) x = Err c
