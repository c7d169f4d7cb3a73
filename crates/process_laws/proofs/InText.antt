-- A run stays in the text of its process.
use Rattle.std.proofs.Common.{◌≡◌, refl, sym, subst, List, [], ◌++◌}
use Rattle.flat_expr.specs.declared.statement.Statement.{Statement, out-Statement}
use Rattle.cycle_meaning.specs.Task.{Task}
use Rattle.cycle_meaning.specs.World.{Context, Local}
use Rattle.cycle_meaning.specs.Statements.{executed}
use Rattle.cycle_meaning.specs.Processes.{begins, next_of}
use Rattle.process_laws.specs.Resumed.{StandIn}
use Rattle.process_laws.specs.InText.{BegunIsInText, StepsStayInText, TurnsStayInText}
use Rattle.process_laws.proofs.Places.{way, parameters_round, leads_on}
use Rattle.process_laws.proofs.Moves.{Begins, AfterNext, next_stands, AfterStep, step_from}

begun : (top : List Statement) (here : Context) (l : Local) (tasks : List Task) (s : Statement) (rest : List Task) → StandIn top tasks → next_of here l tasks ≡ begins s rest → Begins top s rest
begun top here l tasks s rest stands is = subst (AfterNext top) is (next_stands here l top tasks stands)

pub begun_is_in_text : BegunIsInText
begun_is_in_text top here l tasks s rest stands is =
    let b : Begins top s rest = begun top here l tasks s rest stands is in
    (way b.round ++ [], parameters_round b.round ++ [], b.number, leads_on top b.round b.of_text [] [] b.number (out-Statement s) (refl, b.statement_is))

pub steps_stay_in_text : StepsStayInText
steps_stay_in_text top here l tasks s rest more after stands is goes =
    let b : Begins top s rest = begun top here l tasks s rest stands is in
    let there : AfterStep top (executed here l rest (out-Statement s)) =
    subst (λ (z : List Task). AfterStep top (executed here l z (out-Statement s))) (sym b.rest_is) (step_from here l top b.round b.number (out-Statement s) b.of_text b.statement_is) in
    subst (AfterStep top) goes there

pub turns_stay_in_text : TurnsStayInText
turns_stay_in_text top here l tasks more after stands is = subst (AfterNext top) is (next_stands here l top tasks stands)
