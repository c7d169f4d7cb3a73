-- A replay: the steps of a schedule, and then those of the engine to the end (own).
use Rattle.std.specs.Prelude.{◌≡◌, ℕ, ◌<◌, ◌≤◌, List, ◌++◌, replicate, None}
use Rattle.step_model.specs.System.{System}
use Rattle.lockstep_model.specs.Lockstep.{lockstep}
use Rattle.lockstep_model.specs.LookLaws.{most_moves}
use Rattle.lockstep_model.specs.Walk.{moves_left}
use Rattle.step_schedule.specs.declared.Step.{Step}
use Rattle.step_schedule.specs.declared.Step.TheVariants.{D}
use Rattle.core_steps.specs.States.{State, first_state, stepped_all}
use Rattle.ahead_report.specs.declared.Report.{Report}

-- So many steps of the engine come to the end of a run, whatever the worker does between them: 2, one for each cycle, solution, side
-- step and probe, and 3 for each attempt. Where the end was told, further ones change nothing.
abbrev pub steps_to_end : System → ℕ
steps_to_end sys = most_moves (lockstep sys).works

-- the core behind them
unfoldable pub replayed : System → List Step → State
replayed sys schedule = stepped_all sys (schedule ++ replicate (steps_to_end sys) D) (first_state sys)

-- how often the timeline gave each reply, and how many attempts the engine made itself
abbrev pub report_at : State → Report
report_at s = record { counts = s.line.journal.counts; own = s.led.walk.own }

abbrev pub report_of : System → List Step → Report
report_of sys schedule = report_at (replayed sys schedule)

-- so many steps of the engine come to the end from here on
abbrev pub IsEnough : ℕ → State → Type 0
IsEnough n s = s.ended ≡ None → (0 < moves_left s.led.walk) × (moves_left s.led.walk ≤ n)
