-- A process goes on where it stopped.
use Rattle.std.proofs.Common.{◌≡◌, refl, ap, sym, ◌∙◌, subst, ℕ, ◌+◌, ℤ, List, [], ◌∷◌, ◌++◌, drop, append-nil, Option, Some, slice_get}
use Rattle.flat_expr.specs.declared.statement.Statement.{Statement}
use Rattle.flat_expr.specs.declared.statement.Statement.TheOpen.{Statement-F}
use Rattle.flat_design.specs.declared.objects.PathStep.{PathStep}
use Rattle.flat_design.specs.declared.objects.Process.{Process}
use Rattle.cycle_meaning.specs.Task.{Task, statements, behind}
use Rattle.cycle_meaning.specs.World.{Local}
use Rattle.cycle_meaning.specs.Processes.{run, state_of, left_at, left_behind, body_of, loops_in}
use Rattle.design_rules.specs.Ways.{way_to, AreWaysRight}
use Rattle.process_laws.specs.Resumed.{body_in, left_round, StandIn, GoesOn, RunsOn, StandsAgain, StandsAtStart}
use Rattle.process_laws.proofs.Places.{way, parameters_round, leads_on, loops_round, loops_in-body, loops_in-round, left_of_layer, behind_joins}
use Rattle.process_laws.proofs.Moves.{at, at_start, Waits, AfterRun, run_stands}

-- the place in the list of waits
pub place_of : (p : Process) → AreWaysRight p → (number : ℕ) (rest : List Task) (w : Waits p.statements number rest)
    → slice_get p.waits number ≡ Some (record { path = way_to (way w.round) w.place; parameters = parameters_round w.round })
place_of p right number rest w =
    subst (λ (z : List PathStep). slice_get p.waits number ≡ Some (record { path = way_to z w.place; parameters = parameters_round w.round })) (append-nil (way w.round))
    (subst (λ (z : List ℕ). slice_get p.waits number ≡ Some (record { path = way_to (way w.round ++ []) w.place; parameters = z })) (append-nil (parameters_round w.round))
    (right (way w.round ++ []) (parameters_round w.round ++ []) w.place number w.on w.condition w.timeout
    (leads_on p.statements w.round w.of_text [] [] w.place (Statement-F.Wait number w.on w.condition w.timeout) (refl, w.statement_is))))

-- behind the wait itself
pub behind_wait : (top : List Statement) (number : ℕ) (rest : List Task) (w : Waits top number rest)
    → behind (record { statement = w.place; branch = 0 } ∷ []) [] (body_in top w.round) ++ left_round top w.round ≡ rest
unfolding behind
behind_wait top number rest w =
    ap (λ (z : List Task). (z ++ statements (drop (w.place + 1) (body_in top w.round))) ++ left_round top w.round)
    (left_of_layer (behind []) 0 [] (slice_get (body_in top w.round) w.place) (Statement-F.Wait number w.on w.condition w.timeout) w.statement_is)
    ∙ sym w.rest_is

pub loops_are : (l : Local) (top : List Statement) (number : ℕ) (rest : List Task) (w : Waits top number rest) → loops_in l rest ≡ loops_round l w.round ++ []
loops_are l top number rest w =
    ap (loops_in l) w.rest_is
    ∙ (loops_in-body l (drop (w.place + 1) (body_in top w.round)) (left_round top w.round)
    ∙ (loops_in-round l top w.round ∙ sym (append-nil (loops_round l w.round))))

pub left_is : (p : Process) → AreWaysRight p → (number : ℕ) (at : Option ℕ) (rest : List Task) (l : Local) → Waits p.statements number rest
    → left_behind p (state_of p.variables number at rest l) ≡ rest
left_is p right number at rest l w =
    ap (left_at p (state_of p.variables number at rest l)) (place_of p right number rest w)
    ∙ (ap (λ (z : List (ℤ × ℤ)). behind (way_to (way w.round) w.place) z p.statements) (loops_are l p.statements number rest w)
    ∙ (behind_joins l p.statements w.round w.of_text (record { statement = w.place; branch = 0 } ∷ []) []
    ∙ behind_wait p.statements number rest w))

pub goes_on_there : GoesOn
goes_on_there p here n tasks l k at rest after right is stands stops =
    left_is p right k at rest after (subst (AfterRun p.statements) stops (run_stands here p.statements (ap body_of is) n l tasks stands))

pub stands_again : StandsAgain
stands_again p here n tasks l k wait rest after is stands stops =
    let w : Waits p.statements k rest = subst (AfterRun p.statements) stops (run_stands here p.statements (ap body_of is) n l tasks stands) in
    subst (λ (z : List Task). StandIn p.statements z) (sym w.rest_is) (at p.statements w.round (w.place + 1) w.of_text)

pub stands_at_start : StandsAtStart
stands_at_start top = at_start top

pub runs_on : RunsOn
runs_on p here n tasks l k at rest after right is stands stops later m again =
    ap (run m later again) (goes_on_there p here n tasks l k at rest after right is stands stops)
