-- What a run executes stands in the text of its process, so that what is promised of each statement of the text holds of it.
use Rattle.std.specs.Prelude.{◌≡◌, ℕ, List}
use Rattle.flat_expr.specs.declared.statement.Statement.{Statement, out-Statement}
use Rattle.flat_design.specs.declared.objects.PathStep.{PathStep}
use Rattle.cycle_meaning.specs.Task.{Task}
use Rattle.cycle_meaning.specs.World.{Context, Local}
use Rattle.cycle_meaning.specs.Statements.{goes_on, executed}
use Rattle.cycle_meaning.specs.Processes.{begins, turns, next_of}
use Rattle.design_rules.specs.Ways.{LeadsTo}
use Rattle.process_laws.specs.Resumed.{StandIn}

-- a statement that begins is one of the text, in loops with some parameters
abbrev pub BegunIsInText : Type 0
BegunIsInText =
    (top : List Statement) (here : Context) (l : Local) (tasks : List Task) (s : Statement) (rest : List Task)
    → StandIn top tasks → next_of here l tasks ≡ begins s rest
    → (steps : List PathStep) × (ps : List ℕ) × (k : ℕ) × LeadsTo steps ps k (out-Statement s) top

-- what is left where it goes on stands in the text again
abbrev pub StepsStayInText : Type 0
StepsStayInText =
    (top : List Statement) (here : Context) (l : Local) (tasks : List Task) (s : Statement) (rest more : List Task) (after : Local)
    → StandIn top tasks → next_of here l tasks ≡ begins s rest → executed here l rest (out-Statement s) ≡ goes_on more after → StandIn top more

-- so does what is left at a turn of a loop
abbrev pub TurnsStayInText : Type 0
TurnsStayInText =
    (top : List Statement) (here : Context) (l : Local) (tasks more : List Task) (after : Local)
    → StandIn top tasks → next_of here l tasks ≡ turns more after → StandIn top more
