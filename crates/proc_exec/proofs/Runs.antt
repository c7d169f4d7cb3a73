-- The run, one by one.
use Rattle.std.proofs.Common.{◌≡◌, refl, sym, ◌∙◌, ap, subst, ℕ, zero, suc, List, Option, Some, None, Result, Ok, Err}
use Rattle.std.specs.Prelude.{OnOk}
use Rattle.message_codes.specs.Codes.{process_budget}
use Rattle.flat_expr.specs.declared.statement.Statement.{Statement}
use Rattle.step_data.specs.declared.event.Event.{Event}
use Rattle.step_data.specs.declared.outcome.Refusal.{Refusal}
use Rattle.cycle_meaning.specs.World.{Context, Local, refusal}
use Rattle.cycle_meaning.specs.Processes.{statement_budget}
use Rattle.statement_lists.specs.declared.fault.ListFault.{ListFault}
use Rattle.statement_lists.specs.declared.fault.ListFault.TheVariants as fault
use Rattle.process_place.specs.ProcessPlace.{ProcessPlace}
use Rattle.process_place.specs.Moves.{Coming, begins_at, turns_to, starts_again, has_fault, coming, Moved, goes_to, waits_at, is_refused, Ended, ended_refused, after_move, nothing_left, one_counted, run_at}
use Rattle.process_stack.specs.Stacks.{Stacked, place_of}
use Rattle.process_control.specs.declared.next.Counted.{Counted}
use Rattle.process_control.specs.declared.next.Counted.TheVariants as counted
use Rattle.process_control.specs.declared.control.Wait.{Wait}
use Rattle.process_control.specs.Coming.{coming_by}
use Rattle.process_control.specs.Performing.{Performs}
use Rattle.proc_exec.specs.Running.{StandsReady, counted_at, events_of, IsFront, Ends}
use Rattle.proc_exec.proofs.Fronts.{front_on, front_same, MovesOn, counted_on}

counted_same : (further : Local → ProcessPlace → Ended) (here : Context) (l : Local) (top : List Statement) (q : Coming) → one_counted further here l top q ≡ after_move further (counted_at here l top q)
counted_same further here l top (begins_at s c k) = refl
counted_same further here l top (turns_to p turned) = refl
counted_same further here l top starts_again = refl
counted_same further here l top (has_fault r) = refl

one_more : (n : ℕ) (here : Context) (top : List Statement) (l : Local) (p : ProcessPlace) → run_at (suc n) here top l p ≡ after_move (run_at n here top) (counted_at here l top (coming here l top p))
unfolding run_at
one_more n here top l p = counted_same (run_at n here top) here l top (coming here l top p)

none_left : (here : Context) (top : List Statement) (l : Local) (p : ProcessPlace) → run_at zero here top l p ≡ nothing_left here l (coming here l top p)
unfolding run_at
none_left here top l p = refl

-- what comes next is not a fault, and no statement is left
pub no_fault : (here : Context) (l : Local) (top : List Statement) (s : Stacked) (c : Counted) → nothing_left here l (coming_by top l s (Ok c)) ≡ ended_refused l (refusal here process_budget)
no_fault here l top s (counted.Begins statement) = refl
no_fault here l top s (counted.Turns p) = refl
no_fault here l top s counted.Restarts = refl

-- ---- the events so far are at the front

nothing_front : (here : Context) (l : Local) (q : Coming) → IsFront l.world.events (events_of (nothing_left here l q))
nothing_front here l (begins_at s c k) = front_same l.world.events
nothing_front here l (turns_to p turned) = front_same l.world.events
nothing_front here l starts_again = front_same l.world.events
nothing_front here l (has_fault r) = front_same l.world.events

after_front : (events : List Event) (further : Local → ProcessPlace → Ended) (m : Moved) → ((l : Local) (p : ProcessPlace) → IsFront l.world.events (events_of (further l p))) → MovesOn events m → IsFront events (events_of (after_move further m))
after_front events further (goes_to p l) fronts h = front_on events l.world.events (events_of (further l p)) h (fronts l p)
after_front events further (waits_at number t p l) fronts h = h
after_front events further (is_refused l r) fronts h = h

run_front : (n : ℕ) (here : Context) (top : List Statement) (l : Local) (p : ProcessPlace) → IsFront l.world.events (events_of (run_at n here top l p))
run_front zero here top l p = subst (λ e. IsFront l.world.events (events_of e)) (sym (none_left here top l p)) (nothing_front here l (coming here l top p))
run_front (suc n) here top l p =
    subst (λ e. IsFront l.world.events (events_of e)) (sym (one_more n here top l p))
    (after_front l.world.events (run_at n here top) (counted_at here l top (coming here l top p)) (run_front n here top) (counted_on here l top p))

-- ---- the run so far

-- with so many statements left the process does from the stack what it did at first, and it stands ready there
pub record RunsOn (whole : Ended) (first : Context) (n : ℕ) (here : Context) (l : Local) (top : List Statement) (s : Stacked) : Type 0 where
  pub context : here ≡ first
  pub ready : StandsReady here l top s
  pub run : run_at n here top l (place_of top s) ≡ whole

next_run : (whole : Ended) (n k : ℕ) (here : Context) (l : Local) (top : List Statement) (s : Stacked) → suc k ≡ n → run_at n here top l (place_of top s) ≡ whole
    → after_move (run_at k here top) (counted_at here l top (coming here l top (place_of top s))) ≡ whole
next_run whole n k here l top s more run = sym (one_more k here top l (place_of top s)) ∙ (ap (λ z. run_at z here top l (place_of top s)) more ∙ run)

-- at first
pub starts : (first : Context) (l : Local) (top : List Statement) (s : Stacked) → StandsReady first l top s → RunsOn (run_at statement_budget first top l (place_of top s)) first 100000 first l top s
unfolding statement_budget
starts first l top s ready = record { context = refl; ready = ready; run = refl }

-- one more
pub runs_on : (whole : Ended) (first : Context) (n k : ℕ) (here now_here : Context) (l after : Local) (top : List Statement) (s now : Stacked) (r : Result (Option Wait) ListFault)
    → suc k ≡ n → RunsOn whole first n here l top s → now_here ≡ here → r ≡ Ok None
    → Performs (counted_at here l top (coming here l top (place_of top s))) top l after now r → OnOk r (StandsReady now_here after top now) → RunsOn whole first k now_here after top now
runs_on whole first n k here now_here l after top s now r more h same is performs ready =
    let m : Moved = counted_at here l top (coming here l top (place_of top s)) in
    let moves : m ≡ goes_to (place_of top now) after = subst (Performs m top l after now) is performs in
    record {
      context = same ∙ h.context;
      ready = subst (λ z. OnOk z (StandsReady now_here after top now)) is ready;
      run = ap (λ x. run_at k x top after (place_of top now)) same ∙ (ap (after_move (run_at k here top)) (sym moves) ∙ next_run whole n k here l top s more h.run);
    }

pub run_waits : (whole : Ended) (first : Context) (n k : ℕ) (here : Context) (l after : Local) (top : List Statement) (s now : Stacked) (r : Result (Option Wait) ListFault) (w : Wait)
    → suc k ≡ n → RunsOn whole first n here l top s → r ≡ Ok (Some w)
    → Performs (counted_at here l top (coming here l top (place_of top s))) top l after now r → Ends whole top after now (Ok w)
run_waits whole first n k here l after top s now r w more h is performs =
    let m : Moved = counted_at here l top (coming here l top (place_of top s)) in
    let moves : m ≡ waits_at w.number w.timeout (place_of top now) after = subst (Performs m top l after now) is performs in
    sym (next_run whole n k here l top s more h.run) ∙ ap (after_move (run_at k here top)) moves

fault_ends : (whole : Ended) (first : Context) (n k : ℕ) (here : Context) (l after : Local) (top : List Statement) (s now : Stacked) (f : ListFault) → suc k ≡ n → RunsOn whole first n here l top s
    → Performs (counted_at here l top (coming here l top (place_of top s))) top l after now (Err f) → Ends whole top after now (Err f)
fault_ends whole first n k here l after top s now (fault.Refused r) more h moves = sym (next_run whole n k here l top s more h.run) ∙ ap (after_move (run_at k here top)) moves
fault_ends whole first n k here l after top s now fault.Memory more h same =
    subst (λ (xs : List Event). IsFront xs (events_of whole)) (sym same)
    (subst (λ e. IsFront l.world.events (events_of e)) h.run (run_front n here top l (place_of top s)))

pub run_faults : (whole : Ended) (first : Context) (n k : ℕ) (here : Context) (l after : Local) (top : List Statement) (s now : Stacked) (r : Result (Option Wait) ListFault) (f : ListFault)
    → suc k ≡ n → RunsOn whole first n here l top s → r ≡ Err f
    → Performs (counted_at here l top (coming here l top (place_of top s))) top l after now r → Ends whole top after now (Err f)
run_faults whole first n k here l after top s now r f more h is performs =
    fault_ends whole first n k here l after top s now f more h (subst (Performs (counted_at here l top (coming here l top (place_of top s))) top l after now) is performs)

-- no statement is left
pub run_spent : (whole : Ended) (first : Context) (n : ℕ) (here : Context) (l : Local) (top : List Statement) (s : Stacked) (r : Refusal) → n ≡ zero → RunsOn whole first n here l top s
    → nothing_left here l (coming here l top (place_of top s)) ≡ ended_refused l r → whole ≡ ended_refused l r
run_spent whole first n here l top s r none h ends =
    sym h.run ∙ (ap (λ z. run_at z here top l (place_of top s)) none ∙ (none_left here top l (place_of top s) ∙ ends))
