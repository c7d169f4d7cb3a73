-- What a process does from a place is what it does of the tasks that are left there.
use Rattle.std.specs.Prelude.{◌≡◌, ℕ, ◌+◌, List, Some}
use Rattle.flat_expr.specs.declared.statement.Statement.{Statement, out-Statement}
use Rattle.cycle_meaning.specs.Task.{Layer}
use Rattle.cycle_meaning.specs.World.{Context, Local}
use Rattle.cycle_meaning.specs.Statements.{Step, goes_on, waits, refuses, executed}
use Rattle.cycle_meaning.specs.Processes.{Next, begins, turns, returns, faulty, next_of, Stop, stopped, refused, run, process_body}
use Rattle.design_rules.specs.Ways.{layer_at}
use Rattle.process_laws.specs.Resumed.{Surroundings, body_in, AreOf, left_from, StandIn}
use Rattle.process_place.specs.ProcessPlace.{ProcessPlace, tasks_at, IsIn}
use Rattle.process_place.specs.Moves.{Coming, begins_at, turns_to, starts_again, has_fault, coming, Moved, goes_to, waits_at, is_refused, moved, Ended, waiting, ended_refused, run_at}

abbrev pub next_in : List Statement → Coming → Next
next_in top (begins_at s c k) = begins s (left_from top c (k + 1))
next_in top (turns_to p l) = turns (tasks_at top p) l
next_in top starts_again = returns
next_in top (has_fault r) = faulty r

abbrev pub step_in : List Statement → Moved → Step
step_in top (goes_to p l) = goes_on (tasks_at top p) l
step_in top (waits_at number t p l) = waits number t (tasks_at top p) l
step_in top (is_refused l r) = refuses l r

abbrev pub stop_in : List Statement → Ended → Stop
stop_in top (waiting number t p l) = stopped number t (tasks_at top p) l
stop_in top (ended_refused l r) = refused l r

-- ---- what comes next stands in the text again

abbrev pub ComesIn : List Statement → Coming → Type 0
ComesIn top (begins_at s c k) = AreOf top c × (layer_at k (body_in top c) ≡ Some (out-Statement s))
ComesIn top (turns_to p l) = IsIn top p
ComesIn top _ = Unit {0}

abbrev pub MovesIn : List Statement → Moved → Type 0
MovesIn top (goes_to p l) = IsIn top p
MovesIn top (waits_at number t p l) = IsIn top p
MovesIn top (is_refused l r) = Unit {0}

abbrev pub EndsIn : List Statement → Ended → Type 0
EndsIn top (waiting number t p l) = IsIn top p
EndsIn top (ended_refused l r) = Unit {0}

-- for a place in the text
pub record PlacesFollow : Type 0 where
  pub next : (here : Context) (l : Local) (top : List Statement) (p : ProcessPlace) → IsIn top p → next_of here l (tasks_at top p) ≡ next_in top (coming here l top p)
  pub next_in_text : (here : Context) (l : Local) (top : List Statement) (p : ProcessPlace) → IsIn top p → ComesIn top (coming here l top p)
  pub statement : (here : Context) (l : Local) (top : List Statement) (c : Surroundings) (k : ℕ) (layer : Layer)
      → AreOf top c → layer_at k (body_in top c) ≡ Some layer → executed here l (left_from top c (k + 1)) layer ≡ step_in top (moved here l top c k layer)
  pub statement_in_text : (here : Context) (l : Local) (top : List Statement) (c : Surroundings) (k : ℕ) (layer : Layer)
      → AreOf top c → layer_at k (body_in top c) ≡ Some layer → MovesIn top (moved here l top c k layer)
  pub runs : (here : Context) (top : List Statement) (n : ℕ) (l : Local) (p : ProcessPlace)
      → process_body here ≡ top → IsIn top p → run n here l (tasks_at top p) ≡ stop_in top (run_at n here top l p)
  pub runs_in_text : (here : Context) (top : List Statement) (n : ℕ) (l : Local) (p : ProcessPlace) → process_body here ≡ top → IsIn top p → EndsIn top (run_at n here top l p)
  pub stands : (top : List Statement) (p : ProcessPlace) → IsIn top p → StandIn top (tasks_at top p)
