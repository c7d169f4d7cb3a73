-- What a kernel may keep of a process in place of its state between cycles.
use Rattle.std.specs.Prelude.{◌≡◌, ℕ, List, map, length, Option, Some}
use Rattle.std.specs.List.{slice_get}
use Rattle.ams_value.specs.declared.val.Val.{Val}
use Rattle.flat_design.specs.declared.objects.Process.{Process}
use Rattle.step_model.specs.System.{ProcessState}
use Rattle.cycle_meaning.specs.Task.{Task, statements}
use Rattle.cycle_meaning.specs.World.{World, Context, Local}
use Rattle.cycle_meaning.specs.Processes.{stopped, run, state_of, left_behind, variables_at}
use Rattle.cycle_meaning.specs.Cycles.{local_of}
use Rattle.design_rules.specs.Ways.{AreWaysRight, AreParametersSafe}
use Rattle.process_laws.specs.Resumed.{StandIn}
use Rattle.process_laws.specs.Held.{HoldIn, kept_variables}

-- what elaboration promises of a process
abbrev pub IsSound : Process → Type 0
IsSound p = AreWaysRight p × AreParametersSafe p

-- these tasks and variables are those of a process in this state
pub record Keeps (p : Process) (s : ProcessState) (tasks : List Task) (variables : List Val) : Type 0 where
  pub tasks_are : left_behind p s ≡ tasks
  pub variables_are : variables_at p s ≡ variables
  pub stands : StandIn p.statements tasks
  pub holds : HoldIn variables tasks
  pub values : length variables ≡ length p.variables

-- a process that is resumed runs as its own tasks and variables do
abbrev pub KeptRuns : Type 0
KeptRuns =
    (p : Process) (s : ProcessState) (tasks : List Task) (variables : List Val) → Keeps p s tasks variables
    → (budget : ℕ) (here : Context) (w : World)
    → run budget here (local_of w p s) (left_behind p s) ≡ run budget here (record { world = w; variables = variables }) tasks

-- and where it stops again, what is left and the variables are again those of its state
abbrev pub KeptAgain : Type 0
KeptAgain =
    (p : Process) (s : ProcessState) (tasks : List Task) (variables : List Val) → IsSound p → Keeps p s tasks variables
    → (budget : ℕ) (here : Context) (w : World) (k : ℕ) (at : Option ℕ) (rest : List Task) (after : Local)
    → slice_get here.objects.processes here.process ≡ Some p
    → run budget here (record { world = w; variables = variables }) tasks ≡ stopped k at rest after
    → Keeps p (state_of p.variables k at rest after) rest (kept_variables p k after)

-- so it is after the first run
abbrev pub KeptFromStart : Type 0
KeptFromStart =
    (p : Process) → IsSound p
    → (budget : ℕ) (here : Context) (w : World) (k : ℕ) (at : Option ℕ) (rest : List Task) (after : Local)
    → slice_get here.objects.processes here.process ≡ Some p
    → run budget here (record { world = w; variables = map (λ v. v.initial) p.variables }) (statements p.statements) ≡ stopped k at rest after
    → Keeps p (state_of p.variables k at rest after) rest (kept_variables p k after)
