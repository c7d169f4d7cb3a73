-- A step whose error was judged.
use Rattle.std.specs.Prelude.{ℕ, ℤ, List, Result, Ok, Err}
use Rattle.step_data.specs.declared.outcome.Cause.{Cause}
use Rattle.step_model.specs.System.{Landing}

-- the point with its error, or why it is refused
abbrev pub landed_by : Result (Unit {0}) Cause → List ℤ → ℕ → Result Landing Cause
landed_by (Ok u) x err = Ok (record { x = x; err = err })
landed_by (Err c) x err = Err c
