-- The events so far are at the front of all.
use Rattle.std.proofs.Common.{◌≡◌, refl, sym, subst, ℕ, zero, suc, ◌+◌, Bool, true, false, List, [], ◌∷◌, map, Some, arith}
use Rattle.std.specs.List.{slice_get}
use Rattle.flat_expr.specs.declared.statement.Statement.{Statement}
use Rattle.flat_design.specs.declared.objects.Variable.{Variable}
use Rattle.flat_design.specs.declared.objects.Process.{Process}
use Rattle.step_data.specs.declared.event.Event.{Event}
use Rattle.step_model.specs.System.{ProcessState}
use Rattle.cycle_meaning.specs.Task.{statements}
use Rattle.cycle_meaning.specs.World.{World, Context, Local}
use Rattle.cycle_meaning.specs.Processes.{Stop, stopped, refused, run, statement_budget, left_behind}
use Rattle.cycle_meaning.specs.Cycles.{Ran_of, all_ran, one_refused, with_state, after_stop, by_resumption, run_all, start_all, local_of}
use Rattle.process_place.specs.ProcessPlace.{ProcessPlace}
use Rattle.process_place.specs.Moves.{Coming, begins_at, turns_to, starts_again, has_fault, coming, Moved, goes_to, waits_at, is_refused, Ended, waiting, ended_refused, after_move, nothing_left, one_counted, run_at}
use Rattle.process_place.specs.Follows.{stop_in}
use Rattle.proc_exec.specs.Running.{counted_at, events_of, IsFront}
use Rattle.proc_exec.proofs.Fronts.{front_same, front_on, MovesOn, counted_on}
use Rattle.process_runs.specs.Ran.{events_in}

-- ---- one process

counted_same : (further : Local → ProcessPlace → Ended) (here : Context) (l : Local) (top : List Statement) (q : Coming) → one_counted further here l top q ≡ after_move further (counted_at here l top q)
counted_same further here l top (begins_at s c k) = refl
counted_same further here l top (turns_to p turned) = refl
counted_same further here l top starts_again = refl
counted_same further here l top (has_fault r) = refl

nothing_front : (here : Context) (l : Local) (q : Coming) → IsFront l.world.events (events_of (nothing_left here l q))
nothing_front here l (begins_at s c k) = front_same l.world.events
nothing_front here l (turns_to p turned) = front_same l.world.events
nothing_front here l starts_again = front_same l.world.events
nothing_front here l (has_fault r) = front_same l.world.events

after_front : (events : List Event) (further : Local → ProcessPlace → Ended) (m : Moved) → ((l : Local) (p : ProcessPlace) → IsFront l.world.events (events_of (further l p))) → MovesOn events m
    → IsFront events (events_of (after_move further m))
after_front events further (goes_to p l) fronts h = front_on events l.world.events (events_of (further l p)) h (fronts l p)
after_front events further (waits_at number t p l) fronts h = h
after_front events further (is_refused l r) fronts h = h

pub run_front : (n : ℕ) (here : Context) (top : List Statement) (l : Local) (p : ProcessPlace) → IsFront l.world.events (events_of (run_at n here top l p))
unfolding run_at
run_front zero here top l p = nothing_front here l (coming here l top p)
run_front (suc n) here top l p =
    subst (λ e. IsFront l.world.events (events_of e)) (sym (counted_same (run_at n here top) here l top (coming here l top p)))
    (after_front l.world.events (run_at n here top) (counted_at here l top (coming here l top p)) (run_front n here top) (counted_on here l top p))

abbrev pub events_at : Stop → List Event
events_at (stopped n t rest l) = l.world.events
events_at (refused l r) = l.world.events

pub events_same : (top : List Statement) (e : Ended) → events_at (stop_in top e) ≡ events_of e
events_same top (waiting number t p l) = refl
events_same top (ended_refused l r) = refl

-- ---- the others behind it

pub with_state_events : (s : ProcessState) (r : Ran_of) → events_in (with_state s r) ≡ events_in r
with_state_events s (all_ran w states) = refl
with_state_events s (one_refused w r) = refl

pub stop_front : (others : World → Ran_of) (p : Process) (events : List Event) (e : Stop) → ((w : World) → IsFront w.events (events_in (others w))) → IsFront events (events_at e) → IsFront events (events_in (after_stop others p e))
stop_front others p events (stopped n t rest l) fronts h =
    subst (IsFront events) (sym (with_state_events _ (others l.world))) (front_on events l.world.events (events_in (others l.world)) h (fronts l.world))
stop_front others p events (refused l r) fronts h = h

-- each process gives its events behind those before
pub record AllFront (at : ℕ → Context) (k : ℕ) (ps : List Process) (states : List ProcessState) : Type 0 where
  pub each : (i j : ℕ) (p : Process) (s : ProcessState) (w : World) → j ≡ k + i → slice_get ps i ≡ Some p → slice_get states i ≡ Some s
      → IsFront w.events (events_at (run statement_budget (at j) (local_of w p s) (left_behind p s)))

pub front_later : (at : ℕ → Context) (k : ℕ) (p : Process) (ps : List Process) (s : ProcessState) (states : List ProcessState) → AllFront at k (p ∷ ps) (s ∷ states) → AllFront at (k + 1) ps states
front_later at k p ps s states f = record { each = λ i j q r w e hp hs. f.each (suc i) j q r w (omega arith) hp hs }

resumed_front : (b : Bool) (others : World → Ran_of) (here : Context) (w : World) (p : Process) (s : ProcessState) → ((v : World) → IsFront v.events (events_in (others v)))
    → IsFront w.events (events_at (run statement_budget here (local_of w p s) (left_behind p s))) → IsFront w.events (events_in (by_resumption b others here w p s))
resumed_front true others here w p s fronts h = stop_front others p w.events (run statement_budget here (local_of w p s) (left_behind p s)) fronts h
resumed_front false others here w p s fronts h = subst (IsFront w.events) (sym (with_state_events s (others w))) (fronts w)

pub all_front : (at : ℕ → Context) (k : ℕ) (ps : List Process) (states : List ProcessState) (bs : List Bool) (w : World) → AllFront at k ps states → IsFront w.events (events_in (run_all at k ps states bs w))
unfolding run_all
all_front at k [] states bs w f = front_same w.events
all_front at k (p ∷ ps) [] bs w f = front_same w.events
all_front at k (p ∷ ps) (s ∷ states) [] w f = front_same w.events
all_front at k (p ∷ ps) (s ∷ states) (b ∷ bs) w f =
    resumed_front b (run_all at (k + 1) ps states bs) (at k) w p s (λ v. all_front at (k + 1) ps states bs v (front_later at k p ps s states f)) (f.each 0 k p s w (omega arith) refl refl)

-- ---- the first runs

abbrev pub first_local : World → Process → Local
first_local w p = record { world = w; variables = map (λ (x : Variable). x.initial) p.variables }

pub record StartFront (at : ℕ → Context) (k : ℕ) (ps : List Process) : Type 0 where
  pub each : (i j : ℕ) (p : Process) (w : World) → j ≡ k + i → slice_get ps i ≡ Some p
      → IsFront w.events (events_at (run statement_budget (at j) (first_local w p) (statements p.statements)))

pub start_later : (at : ℕ → Context) (k : ℕ) (p : Process) (ps : List Process) → StartFront at k (p ∷ ps) → StartFront at (k + 1) ps
start_later at k p ps f = record { each = λ i j q w e hp. f.each (suc i) j q w (omega arith) hp }

pub start_front : (at : ℕ → Context) (k : ℕ) (ps : List Process) (w : World) → StartFront at k ps → IsFront w.events (events_in (start_all at k ps w))
unfolding start_all
start_front at k [] w f = front_same w.events
start_front at k (p ∷ ps) w f =
    stop_front (start_all at (k + 1) ps) p w.events (run statement_budget (at k) (first_local w p) (statements p.statements))
    (λ v. start_front at (k + 1) ps v (start_later at k p ps f)) (f.each 0 k p w (omega arith) refl)
