-- What a kernel keeps of a process in place of its state between cycles: a place in its text, and its variables.
use Rattle.std.specs.Prelude.{◌≡◌, ℕ, List, map, Option, Some}
use Rattle.std.specs.List.{slice_get}
use Rattle.ams_value.specs.declared.val.Val.{Val}
use Rattle.flat_design.specs.declared.objects.Process.{Process}
use Rattle.step_model.specs.System.{ProcessState}
use Rattle.cycle_meaning.specs.World.{World, Context, Local}
use Rattle.cycle_meaning.specs.Processes.{run, state_of, left_behind}
use Rattle.cycle_meaning.specs.Cycles.{local_of}
use Rattle.process_laws.specs.Held.{kept_variables}
use Rattle.process_laws.specs.Kept.{IsSound, Keeps}
use Rattle.process_place.specs.ProcessPlace.{ProcessPlace, at_start, tasks_at, IsIn}
use Rattle.process_place.specs.Moves.{waiting, run_at}
use Rattle.process_place.specs.Follows.{stop_in}

-- this place and these variables are those of a process in this state
pub record KeepsPlace (p : Process) (s : ProcessState) (place : ProcessPlace) (variables : List Val) : Type 0 where
  pub is_in : IsIn p.statements place
  pub keeps : Keeps p s (tasks_at p.statements place) variables

pub record PlacesAreKept : Type 0 where
  -- a process that is resumed runs as it does from its own place and variables
  pub runs : (p : Process) (s : ProcessState) (place : ProcessPlace) (variables : List Val) → KeepsPlace p s place variables
      → (budget : ℕ) (here : Context) (w : World) → slice_get here.objects.processes here.process ≡ Some p
      → run budget here (local_of w p s) (left_behind p s) ≡ stop_in p.statements (run_at budget here p.statements (record { world = w; variables = variables }) place)
  -- and where it waits again, the place and the variables are again those of its state
  pub again : (p : Process) (s : ProcessState) (place : ProcessPlace) (variables : List Val) → IsSound p → KeepsPlace p s place variables
      → (budget : ℕ) (here : Context) (w : World) (k : ℕ) (t : Option ℕ) (rest : ProcessPlace) (after : Local) → slice_get here.objects.processes here.process ≡ Some p
      → run_at budget here p.statements (record { world = w; variables = variables }) place ≡ waiting k t rest after
      → KeepsPlace p (state_of p.variables k t (tasks_at p.statements rest) after) rest (kept_variables p k after)
  -- so it is after the first run
  pub from_start : (p : Process) → IsSound p
      → (budget : ℕ) (here : Context) (w : World) (k : ℕ) (t : Option ℕ) (rest : ProcessPlace) (after : Local) → slice_get here.objects.processes here.process ≡ Some p
      → run_at budget here p.statements (record { world = w; variables = map (λ v. v.initial) p.variables }) at_start ≡ waiting k t rest after
      → KeepsPlace p (state_of p.variables k t (tasks_at p.statements rest) after) rest (kept_variables p k after)
