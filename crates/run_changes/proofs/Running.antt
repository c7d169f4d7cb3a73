-- What a run changes of the world.
use Rattle.std.proofs.Common.{◌≡◌, ◌≤◌, refl, sym, subst, ℕ, zero, suc, ◌+◌, Bool, true, false, if◌then◌else◌, List, [], ◌∷◌, ◌++◌, map, Result, Ok, Err}
use Rattle.std.specs.Prelude.{IfSome}
use Rattle.std.specs.Ordering.{int_eq}
use Rattle.flat_expr.specs.declared.statement.Statement.{out-Statement}
use Rattle.flat_design.specs.declared.objects.Variable.{Variable}
use Rattle.flat_design.specs.declared.objects.Process.{Process}
use Rattle.step_data.specs.declared.outcome.Refusal.{Refusal}
use Rattle.step_model.specs.System.{ProcessState}
use Rattle.cycle_meaning.specs.Task.{Task, statement, again, first_turn, next_turn, statements}
use Rattle.cycle_meaning.specs.World.{World, Context, Local, holds}
use Rattle.cycle_meaning.specs.Statements.{Step, goes_on, waits, refuses, executed}
use Rattle.cycle_meaning.specs.Processes.{Next, begins, turns, returns, faulty, stepped, with_parameter, parameter_of, by_condition, next_of, Stop, stopped, refused, after_step, spent, counted, run, process_body, statement_budget, state_of, left_behind}
use Rattle.cycle_meaning.specs.Cycles.{Ran_of, all_ran, one_refused, with_state, after_stop, by_resumption, local_of, run_all, start_all}
use Rattle.run_laws.specs.Changes.{world_behind, ChangesTo, RunsChange, StartsChange}
use Rattle.run_changes.proofs.Statements.{Goes, goes_nowhere, goes_further, changes_on, StepGoes, executed_goes}

-- ---- a turn changes nothing of the world

abbrev pub TurnsIn : World → Next → Type 0
TurnsIn w (turns rest turned) = turned.world ≡ w
TurnsIn w _ = Unit {0}

condition_turns : (w : World) (r : Result Bool Refusal) (turn others : Next) → TurnsIn w turn → TurnsIn w others → TurnsIn w (by_condition r turn others)
condition_turns w (Ok true) turn others a b = a
condition_turns w (Ok false) turn others a b = b
condition_turns w (Err r) turn others a b = tt

test_turns : (w : World) (t : Bool) (a b : Next) → TurnsIn w a → TurnsIn w b → TurnsIn w (if t then a else b)
test_turns w true a b x y = x
test_turns w false a b x y = y

pub next_turns : (here : Context) (l : Local) (rest : List Task) → TurnsIn l.world (next_of here l rest)
unfolding next_of
next_turns here l [] = tt
next_turns here l (statement s ∷ rest) = tt
next_turns here l (again condition body ∷ rest) =
    condition_turns l.world (holds here l condition) (turns (statements body ++ again condition body ∷ rest) l) (next_of here l rest) refl (next_turns here l rest)
next_turns here l (first_turn p direction from last body ∷ rest) = refl
next_turns here l (next_turn p direction last body ∷ rest) =
    test_turns l.world (int_eq (parameter_of l p) last) (next_of here l rest)
    (turns (statements body ++ next_turn p direction last body ∷ rest) (with_parameter p (stepped direction (parameter_of l p)) l)) (next_turns here l rest) refl

-- ---- the run of a process

abbrev pub StopGoes : ℕ → World → Stop → Type 0
StopGoes t w (stopped number at rest l) = Goes t w l.world × IfSome at (λ u. t ≤ u)
StopGoes t w (refused l r) = Goes t w l.world

stop_on : (t : ℕ) (a b : World) (e : Stop) → Goes t a b → StopGoes t b e → StopGoes t a e
stop_on t a b (stopped number at rest l) f h = (goes_further t a b l.world f h.0, h.1)
stop_on t a b (refused l r) f h = goes_further t a b l.world f h

step_on : (t : ℕ) (w : World) (further : Local → List Task → Stop) (s : Step) → ((l : Local) (rest : List Task) → StopGoes t l.world (further l rest)) → StepGoes t w s → StopGoes t w (after_step further s)
step_on t w further (goes_on rest l) on h = stop_on t w l.world (further l rest) h (on l rest)
step_on t w further (waits number at rest l) on h = h
step_on t w further (refuses l r) on h = h

spent_goes : (here : Context) (l : Local) (q : Next) → StopGoes here.t l.world (spent here l q)
spent_goes here l (begins s rest) = goes_nowhere here.t l.world
spent_goes here l (turns rest turned) = goes_nowhere here.t l.world
spent_goes here l returns = goes_nowhere here.t l.world
spent_goes here l (faulty r) = goes_nowhere here.t l.world

counted_goes : (further : Local → List Task → Stop) (here : Context) (l : Local) (q : Next) → ((m : Local) (rest : List Task) → StopGoes here.t m.world (further m rest)) → TurnsIn l.world q
    → StopGoes here.t l.world (counted further here l q)
counted_goes further here l (begins s rest) on h = step_on here.t l.world further (executed here l rest (out-Statement s)) on (executed_goes here l rest (out-Statement s))
counted_goes further here l (turns rest turned) on same = subst (λ (w : World). StopGoes here.t w (further turned rest)) same (on turned rest)
counted_goes further here l returns on h = on l (statements (process_body here))
counted_goes further here l (faulty r) on h = goes_nowhere here.t l.world

pub run_goes : (n : ℕ) (here : Context) (l : Local) (rest : List Task) → StopGoes here.t l.world (run n here l rest)
unfolding run
run_goes zero here l rest = spent_goes here l (next_of here l rest)
run_goes (suc n) here l rest = counted_goes (run n here) here l (next_of here l rest) (run_goes n here) (next_turns here l rest)

-- ---- the runs of all

pub with_state_behind : (s : ProcessState) (r : Ran_of) → world_behind (with_state s r) ≡ world_behind r
with_state_behind s (all_ran w states) = refl
with_state_behind s (one_refused w r) = refl

stop_changes : (t : ℕ) (others : World → Ran_of) (p : Process) (w : World) (e : Stop) → ((v : World) → ChangesTo v (world_behind (others v))) → StopGoes t w e → ChangesTo w (world_behind (after_stop others p e))
stop_changes t others p w (stopped number at rest l) on h =
    subst (ChangesTo w) (sym (with_state_behind (state_of p.variables number at rest l) (others l.world))) (changes_on w l.world (world_behind (others l.world)) h.0.changes (on l.world))
stop_changes t others p w (refused l r) on h = h.changes

resumed_changes : (b : Bool) (others : World → Ran_of) (here : Context) (w : World) (p : Process) (s : ProcessState) → ((v : World) → ChangesTo v (world_behind (others v)))
    → ChangesTo w (world_behind (by_resumption b others here w p s))
resumed_changes true others here w p s on = stop_changes here.t others p w (run statement_budget here (local_of w p s) (left_behind p s)) on (run_goes statement_budget here (local_of w p s) (left_behind p s))
resumed_changes false others here w p s on = subst (ChangesTo w) (sym (with_state_behind s (others w))) (on w)

stays : (w : World) → ChangesTo w w
stays w = (goes_nowhere 0 w).changes

pub runs_change : RunsChange
unfolding run_all
runs_change at k [] states bs w = stays w
runs_change at k (p ∷ ps) [] bs w = stays w
runs_change at k (p ∷ ps) (s ∷ states) [] w = stays w
runs_change at k (p ∷ ps) (s ∷ states) (b ∷ bs) w = resumed_changes b (run_all at (k + 1) ps states bs) (at k) w p s (runs_change at (k + 1) ps states bs)

pub starts_change : StartsChange
unfolding start_all
starts_change at k [] w = stays w
starts_change at k (p ∷ ps) w =
    stop_changes (at k).t (start_all at (k + 1) ps) p w (run statement_budget (at k) (record { world = w; variables = map (λ (v : Variable). v.initial) p.variables }) (statements p.statements))
    (starts_change at (k + 1) ps) (run_goes statement_budget (at k) (record { world = w; variables = map (λ (v : Variable). v.initial) p.variables }) (statements p.statements))
