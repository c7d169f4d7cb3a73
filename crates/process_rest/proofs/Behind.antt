-- Where a process waits, its place is behind the wait.
use Rattle.std.proofs.Common.{◌≡◌, refl, ℕ, zero, suc, ◌+◌, Bool, true, false, List, Option, Some, Result, Ok, Err}
use Rattle.fix_core.specs.Passes.{◌>>=◌}
use Rattle.ams_value.specs.Values.{is_true}
use Rattle.ams_value.specs.declared.val.Val.{Val}
use Rattle.flat_expr.specs.declared.expr.FlatExpr.{FlatExpr}
use Rattle.flat_expr.specs.declared.expr.SignalName.{SignalName}
use Rattle.flat_expr.specs.declared.statement.Severity.{Severity}
use Rattle.flat_expr.specs.declared.statement.Severity.TheVariants as severity
use Rattle.flat_expr.specs.declared.statement.Statement.{Statement, out-Statement}
use Rattle.flat_expr.specs.declared.statement.Statement.TheOpen.{Statement-F}
use Rattle.step_data.specs.declared.outcome.Refusal.{Refusal}
use Rattle.cycle_meaning.specs.Task.{Layer}
use Rattle.cycle_meaning.specs.World.{Context, Local, evaluated, holds}
use Rattle.cycle_meaning.specs.Statements.{signal_assignment, variable_assignment, break_by, timeout_of}
use Rattle.design_rules.specs.Ways.{layer_at}
use Rattle.process_laws.specs.Resumed.{Surroundings, body_in, AreOf}
use Rattle.statement_values.specs.LoopRanges.{loop_range}
use Rattle.statement_lists.specs.Branches.{branch_number}
use Rattle.process_place.specs.ProcessPlace.{ProcessPlace, at, at_start, IsIn}
use Rattle.process_place.specs.Moves.{Coming, begins_at, turns_to, starts_again, has_fault, coming, Moved, goes_to, waits_at, is_refused, or_refused, reported_at, asserted_at, moved, Ended, waiting, ended_refused, after_move, nothing_left, one_counted, run_at}
use Rattle.process_place.specs.Follows.{ComesIn, MovesIn}
use Rattle.process_place.proofs.Following.{follows}

-- behind the wait with a number
pub record IsBehind (top : List Statement) (number : ℕ) (p : ProcessPlace) : Type 0 where
  pub round : Surroundings
  pub statement : ℕ
  pub on : List SignalName
  pub condition : Option FlatExpr
  pub timeout : Option FlatExpr
  pub place_is : p ≡ at round (statement + 1)
  pub of_text : AreOf top round
  pub wait_is : layer_at statement (body_in top round) ≡ Some (Statement-F.Wait number on condition timeout)

abbrev pub MovesBehind : List Statement → Moved → Type 0
MovesBehind top (goes_to p l) = Unit {0}
MovesBehind top (waits_at number t p l) = IsBehind top number p
MovesBehind top (is_refused l r) = Unit {0}

abbrev pub EndsBehind : List Statement → Ended → Type 0
EndsBehind top (waiting number t p l) = IsBehind top number p
EndsBehind top (ended_refused l r) = Unit {0}

all_behind : {A : Type 0} (top : List Statement) (l : Local) (go : A → Moved) (r : Result A Refusal) → ((a : A) → MovesBehind top (go a)) → MovesBehind top (or_refused l go r)
all_behind top l go (Ok a) follow = follow a
all_behind top l go (Err r) follow = tt

reported_behind : (here : Context) (top : List Statement) (s : Severity) (text : List ℕ) (p : ProcessPlace) (l : Local) → MovesBehind top (reported_at here s text p l)
reported_behind here top severity.Failure text p l = tt
reported_behind here top severity.Note text p l = tt
reported_behind here top severity.Warning text p l = tt
reported_behind here top severity.Error text p l = tt

asserted_behind : (top : List Statement) (t : Bool) (report : Moved) (p : ProcessPlace) (l : Local) → MovesBehind top report → MovesBehind top (asserted_at t report p l)
asserted_behind top true report p l h = tt
asserted_behind top false report p l h = h

moves_behind : (here : Context) (l : Local) (top : List Statement) (c : Surroundings) (k : ℕ) (layer : Layer) → AreOf top c → layer_at k (body_in top c) ≡ Some layer → MovesBehind top (moved here l top c k layer)
moves_behind here l top c k (Statement-F.SignalAssignment i constraint m wave) of_text is = all_behind top l (goes_to (at c (k + 1))) (signal_assignment here l i constraint m wave) (λ _. tt)
moves_behind here l top c k (Statement-F.VariableAssignment i constraint e) of_text is = all_behind top l (goes_to (at c (k + 1))) (variable_assignment here l i constraint e) (λ _. tt)
moves_behind here l top c k (Statement-F.If branches last) of_text is = all_behind top l _ (branch_number here l branches) (λ _. tt)
moves_behind here l top c k (Statement-F.Case e alternatives) of_text is = all_behind top l _ (evaluated here l e) (λ _. tt)
moves_behind here l top c k (Statement-F.Loop condition body) of_text is = tt
moves_behind here l top c k (Statement-F.For p left direction right body) of_text is = all_behind top l _ (loop_range here l left direction right) (λ _. tt)
moves_behind here l top c k (Statement-F.Exit condition) of_text is = all_behind top l _ (holds here l condition) (λ _. tt)
moves_behind here l top c k (Statement-F.Next condition) of_text is = all_behind top l _ (holds here l condition) (λ _. tt)
moves_behind here l top c k (Statement-F.Wait number on condition timeout) of_text is =
    all_behind top l (λ (t : Option ℕ). waits_at number t (at c (k + 1)) l) (timeout_of here l timeout)
    (λ _. record { round = c; statement = k; on = on; condition = condition; timeout = timeout; place_is = refl; of_text = of_text; wait_is = is })
moves_behind here l top c k (Statement-F.Assert e text s) of_text is =
    all_behind top l (λ (v : Val). asserted_at (is_true v) (reported_at here s text (at c (k + 1)) l) (at c (k + 1)) l) (evaluated here l e)
    (λ v. asserted_behind top (is_true v) (reported_at here s text (at c (k + 1)) l) (at c (k + 1)) l (reported_behind here top s text (at c (k + 1)) l))
moves_behind here l top c k (Statement-F.Report text s) of_text is = reported_behind here top s text (at c (k + 1)) l
moves_behind here l top c k (Statement-F.Break elements condition) of_text is = all_behind top l (goes_to (at c (k + 1))) (holds here l condition >>= break_by here l elements) (λ _. tt)
moves_behind here l top c k Statement-F.Null of_text is = tt

nothing_behind : (here : Context) (l : Local) (top : List Statement) (q : Coming) → EndsBehind top (nothing_left here l q)
nothing_behind here l top (begins_at s c k) = tt
nothing_behind here l top (turns_to p turned) = tt
nothing_behind here l top starts_again = tt
nothing_behind here l top (has_fault r) = tt

after_behind : (top : List Statement) (further : Local → ProcessPlace → Ended) (m : Moved) → ((l : Local) (p : ProcessPlace) → IsIn top p → EndsBehind top (further l p)) → MovesIn top m → MovesBehind top m
    → EndsBehind top (after_move further m)
after_behind top further (goes_to p l) follow there h = follow l p there
after_behind top further (waits_at number t p l) follow there h = h
after_behind top further (is_refused l r) follow there h = tt

counted_behind : (here : Context) (l : Local) (top : List Statement) (further : Local → ProcessPlace → Ended) (q : Coming) → ((m : Local) (p : ProcessPlace) → IsIn top p → EndsBehind top (further m p)) → ComesIn top q
    → EndsBehind top (one_counted further here l top q)
counted_behind here l top further (begins_at s c k) follow there =
    after_behind top further (moved here l top c k (out-Statement s)) follow (follows.statement_in_text here l top c k (out-Statement s) there.0 there.1) (moves_behind here l top c k (out-Statement s) there.0 there.1)
counted_behind here l top further (turns_to p turned) follow there = follow turned p there
counted_behind here l top further starts_again follow there = follow l at_start tt
counted_behind here l top further (has_fault r) follow there = tt

pub run_behind : (n : ℕ) (here : Context) (top : List Statement) (l : Local) (p : ProcessPlace) → IsIn top p → EndsBehind top (run_at n here top l p)
unfolding run_at
run_behind zero here top l p there = nothing_behind here l top (coming here l top p)
run_behind (suc n) here top l p there =
    counted_behind here l top (run_at n here top) (coming here l top p) (run_behind n here top) (follows.next_in_text here l top p there)
