-- Which processes resume, by what is kept of each.
use Rattle.std.specs.Prelude.{ℕ, ◌+◌, Bool, List, [], ◌∷◌, map, Option, Some, None, Result, Ok, slice_get}
use Rattle.std.specs.List.{list_any}
use Rattle.ams_value.specs.declared.val.Val.{Val}
use Rattle.flat_design.specs.declared.objects.WaitPlace.{WaitPlace}
use Rattle.flat_design.specs.declared.objects.Process.{Process}
use Rattle.step_data.specs.declared.outcome.Refusal.{Refusal}
use Rattle.step_model.specs.System.{ProcessState}
use Rattle.design_meaning.specs.Readings.{seen_of}
use Rattle.cycle_meaning.specs.World.{World, Context, Local, readings_at, holds}
use Rattle.cycle_meaning.specs.Processes.{variables_at}
use Rattle.cycle_meaning.specs.Cycles.{Waiting, waiting_at, is_timed_out, condition_met, is_met_by, joined}

-- what is kept of a process that waits: the number of its wait, its timeout, and its variables
pub record Sleep : Type 0 where
  pub wait : ℕ
  pub timeout : Option ℕ
  pub variables : List Val

-- what is kept of a process in a state
abbrev pub sleep_of : Process → ProcessState → Sleep
sleep_of p s = record { wait = s.wait; timeout = s.timeout; variables = variables_at p s }

abbrev pub sleeps_of : List Process → List ProcessState → List Sleep
sleeps_of [] states = []
sleeps_of (p ∷ ps) [] = []
sleeps_of (p ∷ ps) (s ∷ states) = sleep_of p s ∷ sleeps_of ps states

-- ---- sensitivity sets and conditions

-- those of the waits of a process, by their numbers
abbrev pub waits_of : Process → List Waiting
waits_of p = map (λ (w : WaitPlace). waiting_at w.path p.statements) p.waits

abbrev pub waiting_or_none : Option Waiting → Waiting
waiting_or_none (Some w) = w
waiting_or_none None = ([], None)

-- ---- whether a wait is met

abbrev pub waiting_met : Context → Local → Waiting → Result Bool Refusal
waiting_met here l waiting = condition_met (list_any (λ i. (seen_of (readings_at here l) i).event) waiting.0) (holds here l waiting.1)

abbrev pub met_at : Context → Local → Option ℕ → Waiting → Result Bool Refusal
met_at here l timeout waiting = is_met_by (is_timed_out here.t timeout) (waiting_met here l waiting)

abbrev pub local_with : World → Sleep → Local
local_with w z = record { world = w; variables = z.variables }

abbrev pub met : Context → World → List Waiting → Sleep → Result Bool Refusal
met here w waits z = met_at here (local_with w z) z.timeout (waiting_or_none (slice_get waits z.wait))

-- all are looked at in process order
abbrev pub all_met : (ℕ → Context) → World → ℕ → List (List Waiting) → List Sleep → Result (List Bool) Refusal
all_met at w k [] sleeps = Ok []
all_met at w k (row ∷ rows) [] = Ok []
all_met at w k (row ∷ rows) (z ∷ sleeps) = joined (met (at k) w row z) (all_met at w (k + 1) rows sleeps)
