-- What is true of the hand and the leader between two steps.
use Rattle.std.specs.Prelude.{◌≡◌, ℕ, Bool, true, false, length, Option, Some, None}
use Rattle.step_data.specs.declared.tip.Attempt.{Attempt}
use Rattle.step_model.specs.Answers.{CanStep, IsStep}
use Rattle.step_model.specs.System.{System, attempt}
use Rattle.lockstep_model.specs.Walk.{Walk, Reply, Fits}
use Rattle.timeline.specs.declared.line.Taken.{Taken}
use Rattle.timeline.specs.declared.line.Taken.TheVariants as takes
use Rattle.timeline.specs.Jobs.{Due, FitsLengths}

abbrev pub job_if : Bool → Due → Option Due
job_if false job = None
job_if true job = Some job

abbrev pub is_taken : Taken → Bool
is_taken takes.Taken = true
is_taken takes.Closed = false
is_taken takes.Idle = false
is_taken takes.Ended = false
is_taken takes.Full = false

-- the attempt of the job can be made
pub record JobFits (sys : System) (job : Due) : Type 0 where
  pub can : CanStep sys job.frame job.tip
  pub step : IsStep job.tip.h

pub record HandKept (sys : System) (part : ℕ) (job : Due) (is_full : Bool) (made : Attempt) : Type 0 where
  pub part_is : part ≡ 0
  pub lengths : FitsLengths sys.unknowns sys.frame_len job.tip job.frame
  pub room : length made.x ≡ sys.unknowns
  pub job_fits : is_full ≡ true → JobFits sys job

-- the reply is one that is awaited
pub record LeaderKept (sys : System) (y : Walk) (reply : Reply) (found : Attempt) : Type 0 where
  pub fits : Fits (attempt sys) y y.awaited reply
  pub room : length found.x ≡ sys.unknowns
