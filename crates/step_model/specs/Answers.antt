-- What the calls of the analogue side answer and leave, by the results of the system.
use Rattle.std.specs.Prelude.{◌≡◌, ℕ, ◌≤◌, ℤ, List, length, IsTrue, Result, Ok, Err}
use Rattle.ams_value.specs.declared.val.Val.{Val}
use Rattle.step_data.specs.declared.tip.Tip.{Tip}
use Rattle.step_data.specs.declared.outcome.Cause.{Cause}
use Rattle.step_data.specs.declared.outcome.Trial.{Trial}
use Rattle.step_data.specs.declared.outcome.Trial.TheVariants as trials
use Rattle.step_data.specs.declared.outcome.Settled.{Settled}
use Rattle.step_data.specs.declared.outcome.Settled.TheVariants as settleds
use Rattle.step_model.specs.System.{System, Landing}

abbrev pub trial_answer : Result Landing Cause → Trial
trial_answer (Ok l) = trials.Good l.err
trial_answer (Err c) = trials.Refused c

-- where the step was refused, the values that it began from
abbrev pub trial_point : List ℤ → Result Landing Cause → List ℤ
trial_point x (Ok l) = l.x
trial_point x (Err c) = x

abbrev pub settled_answer : {A : Type 0} → Result A Cause → Settled
settled_answer (Ok a) = settleds.Good
settled_answer (Err c) = settleds.Refused c

-- the solution, or where it was refused what stood there before
abbrev pub settled_value : {A : Type 0} → A → Result A Cause → A
settled_value old (Ok a) = a
settled_value old (Err c) = old

-- a tip of this system, from which a step may be made
pub record CanStep (sys : System) (frame : List Val) (tip : Tip) : Type 0 where
  pub frame_fits : IsTrue (sys.is_frame frame)
  pub point_fits : length tip.x ≡ sys.unknowns
  pub within : tip.t ≤ 1000000000000000

-- the steps that there are: up to one second
pub record IsStep (s : ℕ) : Type 0 where
  pub least : 1 ≤ s
  pub most : s ≤ 1000000000000
