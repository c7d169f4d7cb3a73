-- The variables that a process sees are those of the state between cycles.
use Rattle.std.specs.Prelude.{◌≡◌, ◌<◌, ℕ, ◌+◌, true, false, not, ◌&&◌, if◌then◌else◌, nat_eq, ℤ, List, [], ◌∷◌, length, Option, Some}
use Rattle.std.specs.List.{slice_get, list_any}
use Rattle.ams_value.specs.declared.val.Val.{Val}
use Rattle.ams_value.specs.declared.val.Val.TheVariants as val
use Rattle.flat_expr.specs.declared.statement.Statement.{Statement}
use Rattle.flat_design.specs.declared.objects.Variable.{Variable}
use Rattle.flat_design.specs.declared.objects.Process.{Process}
use Rattle.step_model.specs.System.{ProcessState}
use Rattle.cycle_meaning.specs.Task.{Task, statement, again, first_turn, next_turn, statements}
use Rattle.cycle_meaning.specs.World.{World, Context, Local}
use Rattle.cycle_meaning.specs.Processes.{stopped, run, state_of, left_behind, variables_at, parameters_at}
use Rattle.cycle_meaning.specs.Cycles.{local_of}
use Rattle.design_rules.specs.Ways.{AreWaysRight, AreParametersSafe}
use Rattle.design_rules.specs.Types.{IsVisible}
use Rattle.process_laws.specs.Resumed.{StandIn}

-- ---- what holds of the variables while a process runs

abbrev pub IsInteger : Option Val → Type 0
IsInteger o = (i : ℤ) × (o ≡ Some (val.Int i))

-- the parameters of the loops in which it stands are integers
abbrev pub HoldIn : List Val → List Task → Type 0
HoldIn vs [] = Unit {0}
HoldIn vs (statement s ∷ rest) = HoldIn vs rest
HoldIn vs (again condition body ∷ rest) = HoldIn vs rest
HoldIn vs (first_turn p direction from last body ∷ rest) = (p < length vs) × HoldIn vs rest
HoldIn vs (next_turn p direction last body ∷ rest) = IsInteger (slice_get vs p) × HoldIn vs rest

-- ---- the law

-- what a process sees at a wait: the variables that it declares, and the parameters of the loops round the wait
abbrev pub IsSeen : Process → ℕ → ℕ → Type 0
IsSeen p k i = IsVisible p.variables (parameters_at (slice_get p.waits k)) i

-- a run that stops at a wait, from tasks that stand in the process and with variables that hold in them
pub record Stops (p : Process) (k : ℕ) (at : Option ℕ) (rest : List Task) (after : Local) : Type 0 where
  pub here : Context
  pub budget : ℕ
  pub tasks : List Task
  pub before : Local
  pub ways : AreWaysRight p
  pub parameters : AreParametersSafe p
  pub process_is : slice_get here.objects.processes here.process ≡ Some p
  pub stands : StandIn p.statements tasks
  pub values : length before.variables ≡ length p.variables
  pub holds : HoldIn before.variables tasks
  pub stops : run budget here before tasks ≡ stopped k at rest after

-- each variable that is seen there has the same value when the process is resumed
abbrev pub KeepsVariables : Type 0
KeepsVariables =
    (p : Process) (k : ℕ) (at : Option ℕ) (rest : List Task) (after : Local) → Stops p k at rest after
    → (i : ℕ) → IsSeen p k i → slice_get (variables_at p (state_of p.variables k at rest after)) i ≡ slice_get after.variables i

-- and the variables of the process that is resumed hold in what is left
abbrev pub HoldAgain : Type 0
HoldAgain =
    (p : Process) (k : ℕ) (at : Option ℕ) (rest : List Task) (after : Local) → Stops p k at rest after
    → (length (variables_at p (state_of p.variables k at rest after)) ≡ length p.variables) × HoldIn (variables_at p (state_of p.variables k at rest after)) rest

-- so do they at the start
abbrev pub HoldAtStart : Type 0
HoldAtStart = (vs : List Val) (top : List Statement) → HoldIn vs (statements top)

-- a parameter of a loop that isn't round the wait has its initial value
abbrev pub UnseenBeginAgain : Type 0
UnseenBeginAgain =
    (p : Process) (s : ProcessState) (i : ℕ) (x : Variable)
    → slice_get p.variables i ≡ Some x → x.is_parameter ≡ true → list_any (nat_eq i) (parameters_at (slice_get p.waits s.wait)) ≡ false
    → slice_get (variables_at p s) i ≡ Some x.initial

-- ---- and so the whole run

-- what a variable has when the process is resumed: a parameter of a loop that isn't round the wait begins again
abbrev pub begun : Variable → List ℕ → ℕ → Val → Val
begun x ps i v = if x.is_parameter && not (list_any (nat_eq i) ps) then x.initial else v

abbrev pub begun_again : List Variable → List ℕ → ℕ → List Val → List Val
begun_again [] ps i vs = []
begun_again (x ∷ xs) ps i [] = []
begun_again (x ∷ xs) ps i (v ∷ vs) = begun x ps i v ∷ begun_again xs ps (i + 1) vs

-- the variables that a run leaves, where those parameters begin again
abbrev pub kept_variables : Process → ℕ → Local → List Val
kept_variables p k l = begun_again p.variables (parameters_at (slice_get p.waits k)) 0 l.variables

-- a process that is resumed runs as it would have run on with its own tasks and variables
abbrev pub RunsAgain : Type 0
RunsAgain =
    (p : Process) (k : ℕ) (at : Option ℕ) (rest : List Task) (after : Local) → Stops p k at rest after
    → (later : Context) (w : World) (budget : ℕ)
    → run budget later (local_of w p (state_of p.variables k at rest after)) (left_behind p (state_of p.variables k at rest after))
    ≡ run budget later (record { world = w; variables = kept_variables p k after }) rest
