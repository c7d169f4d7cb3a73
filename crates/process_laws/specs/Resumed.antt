-- A process goes on where it stopped.
use Rattle.std.specs.Prelude.{◌≡◌, ◌⊎◌, ℕ, ◌+◌, ℤ, List, [], ◌∷◌, ◌++◌, drop, Option, Some}
use Rattle.std.specs.List.{slice_get}
use Rattle.flat_expr.specs.declared.expr.FlatExpr.{FlatExpr}
use Rattle.flat_expr.specs.declared.expr.Direction.{Direction}
use Rattle.flat_expr.specs.declared.statement.Statement.{Statement}
use Rattle.flat_expr.specs.declared.statement.Statement.TheOpen.{Statement-F}
use Rattle.flat_design.specs.declared.objects.Process.{Process}
use Rattle.cycle_meaning.specs.Task.{Task, again, first_turn, next_turn, statements, Layer}
use Rattle.cycle_meaning.specs.World.{Context, Local}
use Rattle.cycle_meaning.specs.Processes.{stopped, run, state_of, left_behind}
use Rattle.design_rules.specs.Ways.{layer_at, inner_body, IsBranch, AreWaysRight}

-- ---- where in its text a process stands

-- what is round a list of statements: that list, the number of a statement and of its branch, the statement, and the
-- last value of its parameter, if it's a for loop
pub data Surroundings : Type 0 where
  outermost : Surroundings
  inside : Surroundings → ℕ → ℕ → Layer → ℤ → Surroundings

-- the list itself
abbrev pub body_in : List Statement → Surroundings → List Statement
body_in top outermost = top
body_in top (inside c k b layer last) = inner_body b layer

abbrev pub AreOf : List Statement → Surroundings → Type 0
AreOf top outermost = Unit {0}
AreOf top (inside c k b layer last) = AreOf top c × (layer_at k (body_in top c) ≡ Some layer) × IsBranch b layer

-- further turns of a loop
abbrev pub turns_of : Layer → ℤ → List Task
turns_of (Statement-F.Loop condition body) last = again condition body ∷ []
turns_of (Statement-F.For p left direction right body) last = next_turn p direction last body ∷ []
turns_of _ last = []

-- what is left behind the list
abbrev pub left_round : List Statement → Surroundings → List Task
left_round top outermost = []
left_round top (inside c k b layer last) = turns_of layer last ++ (statements (drop (k + 1) (body_in top c)) ++ left_round top c)

-- what is left from a statement of the list on
abbrev pub left_from : List Statement → Surroundings → ℕ → List Task
left_from top c k = statements (drop k (body_in top c)) ++ left_round top c

-- at a statement
pub record IsAt (top : List Statement) (tasks : List Task) : Type 0 where
  pub round : Surroundings
  pub number : ℕ
  pub of_text : AreOf top round
  pub tasks_are : tasks ≡ left_from top round number

-- at the first turn of a for loop
pub record IsTurning (top : List Statement) (tasks : List Task) : Type 0 where
  pub round : Surroundings
  pub number : ℕ
  pub of_text : AreOf top round
  pub p : ℕ
  pub left : FlatExpr
  pub direction : Direction
  pub right : FlatExpr
  pub body : List Statement
  pub from : ℤ
  pub last : ℤ
  pub statement_is : layer_at number (body_in top round) ≡ Some (Statement-F.For p left direction right body)
  pub tasks_are : tasks ≡ first_turn p direction from last body ∷ left_from top round (number + 1)

-- the tasks are what is left of the text from some place on
abbrev pub StandIn : List Statement → List Task → Type 0
StandIn top tasks = IsAt top tasks ⊎ IsTurning top tasks

-- ---- the law

-- of a run that stops at a wait from tasks that stand in the process, the state between cycles gives back what is left
abbrev pub GoesOn : Type 0
GoesOn =
    (p : Process) (here : Context) (n : ℕ) (tasks : List Task) (l : Local) (k : ℕ) (at : Option ℕ) (rest : List Task) (after : Local)
    → AreWaysRight p
    → slice_get here.objects.processes here.process ≡ Some p
    → StandIn p.statements tasks
    → run n here l tasks ≡ stopped k at rest after
    → left_behind p (state_of p.variables k at rest after) ≡ rest

-- what is left stands in the process again
abbrev pub StandsAgain : Type 0
StandsAgain =
    (p : Process) (here : Context) (n : ℕ) (tasks : List Task) (l : Local) (k : ℕ) (at : Option ℕ) (rest : List Task) (after : Local)
    → slice_get here.objects.processes here.process ≡ Some p
    → StandIn p.statements tasks
    → run n here l tasks ≡ stopped k at rest after
    → StandIn p.statements rest

-- so does the whole text at the start
abbrev pub StandsAtStart : Type 0
StandsAtStart = (top : List Statement) → StandIn top (statements top)

-- so a process that is resumed runs as if it had kept what was left, at any later place and with any values of its variables
abbrev pub RunsOn : Type 0
RunsOn =
    (p : Process) (here : Context) (n : ℕ) (tasks : List Task) (l : Local) (k : ℕ) (at : Option ℕ) (rest : List Task) (after : Local)
    → AreWaysRight p
    → slice_get here.objects.processes here.process ≡ Some p
    → StandIn p.statements tasks
    → run n here l tasks ≡ stopped k at rest after
    → (later : Context) (m : ℕ) (again : Local)
    → run m later again (left_behind p (state_of p.variables k at rest after)) ≡ run m later again rest
