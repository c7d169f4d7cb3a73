-- Nothing that a cycle leaves stands before its time.
use Rattle.std.proofs.Common.{◌≡◌, ◌≤◌, ◌<◌, refl, subst, ℕ, ◌+◌, Bool, true, false, ◌||◌, ℤ, List, [], ◌∷◌, ◌++◌, map, Option, Some, None, Result, Ok, Err, arith}
use Rattle.std.specs.Prelude.{IfSome}
use Rattle.std.specs.List.{All}
use Rattle.std.proofs.lemmas.Bool.Decides.{nat_tests}
use Rattle.std.proofs.lemmas.List.Elements.{All-nil, All-cons, All-head, All-tail, All-append, All-map, All-weaker, filter_passes}
use Rattle.flat_design.specs.declared.objects.Variable.{Variable}
use Rattle.flat_design.specs.declared.objects.Process.{Process}
use Rattle.flat_design.specs.declared.objects.Objects.{Objects}
use Rattle.step_data.specs.declared.trans.Trans.{Trans}
use Rattle.step_data.specs.declared.outcome.Refusal.{Refusal}
use Rattle.step_data.specs.declared.outcome.Ran.TheVariants.{Done}
use Rattle.step_data.specs.Pending.{is_after, advanced}
use Rattle.step_data.specs.Times.{earliest, earliest_of}
use Rattle.step_model.specs.System.{ProcessState, Digital}
use Rattle.cycle_meaning.specs.Task.{statements}
use Rattle.cycle_meaning.specs.World.{World, Context, driven_of}
use Rattle.cycle_meaning.specs.Processes.{Stop, stopped, refused, run, statement_budget, state_of, left_behind}
use Rattle.cycle_meaning.specs.Cycles.{Ran_of, all_ran, one_refused, with_state, after_stop, by_resumption, local_of, run_all, start_all, context_at, world_of, first_world, first_digital, resumes, ended, after_resumption, cycle, start, first_time}
use Rattle.driver_set.specs.Queues.{AreLate}
use Rattle.next_cycle.specs.Next.{timeouts_of, NoneIsEarlier}
use Rattle.run_laws.specs.Times.{NoneIsBefore, LeavesLate, BegunIsLate, RunsAreLate, StartsAreLate, StartIsLate, CycleIsLate, NextIsNotBefore}
use Rattle.run_changes.proofs.Running.{StopGoes, run_goes}

IsLate : ℕ → Option ℕ → Type 0
IsLate t o = IfSome o (λ u. t ≤ u)

-- ---- at the beginning

after_is_late : (t : ℕ) (x : Trans) → is_after t x ≡ true → t ≤ x.at
after_is_late t x h = let lt : t < x.at = grind (arith, nat_tests) in omega arith

advanced_late : (t : ℕ) (queue : List Trans) → All (λ (x : Trans). t ≤ x.at) (advanced t queue)
advanced_late t queue = All-weaker (λ (x : Trans). is_after t x ≡ true) (λ (x : Trans). t ≤ x.at) (after_is_late t) (advanced t queue) (filter_passes (is_after t) queue)

queues_late : (t : ℕ) (queues : List (List Trans)) → AreLate t (map (advanced t) queues)
queues_late t [] = All-nil (All (λ (x : Trans). t ≤ x.at))
queues_late t (q ∷ queues) = All-cons (All (λ (x : Trans). t ≤ x.at)) (advanced t q) (map (advanced t) queues) (advanced_late t q) (queues_late t queues)

pub begun_is_late : BegunIsLate
begun_is_late objects d t n x to_time = queues_late t d.queues

-- ---- runs

state_late : (t : ℕ) (s : ProcessState) (r : Ran_of) → IfSome s.timeout (λ u. t ≤ u) → LeavesLate t r → LeavesLate t (with_state s r)
state_late t s (all_ran w states) at h =
    record {
      transactions = h.transactions;
      timeouts = All-cons (λ (time : Option ℕ). IfSome time (λ u. t ≤ u)) s.timeout (timeouts_of states) at h.timeouts;
    }
state_late t s (one_refused w r) at h = h

stop_late : (t : ℕ) (others : World → Ran_of) (p : Process) (w : World) (e : Stop) → ((v : World) → AreLate t v.queues → LeavesLate t (others v)) → AreLate t w.queues → StopGoes t w e
    → LeavesLate t (after_stop others p e)
stop_late t others p w (stopped number at rest l) on late h = state_late t (state_of p.variables number at rest l) (others l.world) h.1 (on l.world (h.0.late late))
stop_late t others p w (refused l r) on late h = h.late late

resumed_late : (b : Bool) (others : World → Ran_of) (here : Context) (t : ℕ) (w : World) (p : Process) (s : ProcessState) → here.t ≡ t → ((v : World) → AreLate t v.queues → LeavesLate t (others v))
    → IfSome s.timeout (λ u. t ≤ u) → AreLate t w.queues → LeavesLate t (by_resumption b others here w p s)
resumed_late true others here t w p s same on at late =
    stop_late t others p w (run statement_budget here (local_of w p s) (left_behind p s)) on late
    (subst (λ (u : ℕ). StopGoes u w (run statement_budget here (local_of w p s) (left_behind p s))) same (run_goes statement_budget here (local_of w p s) (left_behind p s)))
resumed_late false others here t w p s same on at late = state_late t s (others w) at (on w late)

none_late : (t : ℕ) (w : World) → AreLate t w.queues → NoneIsBefore t w.queues []
none_late t w late = record { transactions = late; timeouts = All-nil (λ (time : Option ℕ). IfSome time (λ u. t ≤ u)) }

pub runs_are_late : RunsAreLate
unfolding run_all
runs_are_late at t k [] states bs w same h = none_late t w h.transactions
runs_are_late at t k (p ∷ ps) [] bs w same h = none_late t w h.transactions
runs_are_late at t k (p ∷ ps) (s ∷ states) [] w same h = h
runs_are_late at t k (p ∷ ps) (s ∷ states) (b ∷ bs) w same h =
    resumed_late b (run_all at (k + 1) ps states bs) (at k) t w p s (same k)
    (λ v late. runs_are_late at t (k + 1) ps states bs v same (record { transactions = late; timeouts = All-tail (λ (time : Option ℕ). IfSome time (λ u. t ≤ u)) s.timeout (timeouts_of states) h.timeouts }))
    (All-head (λ (time : Option ℕ). IfSome time (λ u. t ≤ u)) s.timeout (timeouts_of states) h.timeouts) h.transactions

pub starts_are_late : StartsAreLate
unfolding start_all
starts_are_late at t k [] w same late = none_late t w late
starts_are_late at t k (p ∷ ps) w same late =
    stop_late t (start_all at (k + 1) ps) p w (run statement_budget (at k) (record { world = w; variables = map (λ (v : Variable). v.initial) p.variables }) (statements p.statements))
    (λ v h. starts_are_late at t (k + 1) ps v same h) late
    (subst (λ (u : ℕ). StopGoes u w (run statement_budget (at k) (record { world = w; variables = map (λ (v : Variable). v.initial) p.variables }) (statements p.statements))) (same k)
    (run_goes statement_budget (at k) (record { world = w; variables = map (λ (v : Variable). v.initial) p.variables }) (statements p.statements)))

-- ---- the start and a cycle

started_late : (d : Digital) (r : Ran_of) (broke : Bool) → LeavesLate 0 r → (ended d 0 false r).ran ≡ Done broke
    → NoneIsBefore (ended d 0 false r).digital.time (ended d 0 false r).digital.queues (ended d 0 false r).digital.processes
started_late d (all_ran w states) broke h e = h
started_late d (one_refused w r) broke h e = absurd cc

pub nothing_pending : (driven : List ℕ) → AreLate 0 (map (λ i. []) driven)
nothing_pending [] = All-nil (All (λ (x : Trans). 0 ≤ x.at))
nothing_pending (i ∷ driven) = All-cons (All (λ (x : Trans). 0 ≤ x.at)) [] (map (λ i. []) driven) (All-nil (λ (x : Trans). 0 ≤ x.at)) (nothing_pending driven)

pub start_is_late : StartIsLate
unfolding start
start_is_late objects x broke e =
    started_late (first_digital objects) (start_all (context_at objects 0 0 x) 0 objects.processes (first_world objects)) broke
    (starts_are_late (context_at objects 0 0 x) 0 0 objects.processes (first_world objects) (λ j. refl) (nothing_pending (driven_of objects))) e

ended_late : (d : Digital) (t : ℕ) (timed : Bool) (r : Ran_of) (broke : Bool) → LeavesLate t r → (ended d t timed r).ran ≡ Done broke
    → NoneIsBefore t (ended d t timed r).digital.queues (ended d t timed r).digital.processes
ended_late d t timed (all_ran w states) broke h e = h
ended_late d t timed (one_refused w r) broke h e = absurd cc

resumption_late : (objects : Objects) (d : Digital) (t n : ℕ) (x : List ℤ) (timed : Bool) (w : World) (r : Result (List Bool) Refusal) (broke : Bool)
    → AreLate t w.queues → NoneIsEarlier t (timeouts_of d.processes) → (after_resumption objects d t n x timed w r).ran ≡ Done broke
    → NoneIsBefore t (after_resumption objects d t n x timed w r).digital.queues (after_resumption objects d t n x timed w r).digital.processes
resumption_late objects d t n x timed w (Ok resumed) broke late timeouts e =
    ended_late d t timed (run_all (context_at objects t n x) 0 objects.processes d.processes resumed w) broke
    (runs_are_late (context_at objects t n x) t 0 objects.processes d.processes resumed w (λ j. refl) (record { transactions = late; timeouts = timeouts })) e
resumption_late objects d t n x timed w (Err r) broke late timeouts e = absurd cc

pub cycle_is_late : CycleIsLate
unfolding cycle
cycle_is_late objects d t n x to_time broke timeouts e =
    resumption_late objects d t n x (d.timed || to_time) (world_of objects d t n x to_time)
    (resumes (context_at objects t n x) (world_of objects d t n x to_time) 0 objects.processes d.processes) broke (begun_is_late objects d t n x to_time) timeouts e

-- ---- the next time

earliest_late : (t : ℕ) (a b : Option ℕ) → IfSome a (λ u. t ≤ u) → IfSome b (λ u. t ≤ u) → IfSome (earliest a b) (λ u. t ≤ u)
earliest_late t None b x y = y
earliest_late t (Some a) None x y = x
earliest_late t (Some a) (Some b) x y = omega arith

all_late : (t : ℕ) (xs : List (Option ℕ)) → NoneIsEarlier t xs → IfSome (earliest_of xs) (λ u. t ≤ u)
all_late t [] h = tt
all_late t (x ∷ xs) h =
    earliest_late t x (earliest_of xs) (All-head (λ (time : Option ℕ). IfSome time (λ u. t ≤ u)) x xs h) (all_late t xs (All-tail (λ (time : Option ℕ). IfSome time (λ u. t ≤ u)) x xs h))

first_late : (t : ℕ) (queue : List Trans) → All (λ (x : Trans). t ≤ x.at) queue → IfSome (first_time queue) (λ u. t ≤ u)
first_late t [] h = tt
first_late t (x ∷ later) h = All-head (λ (x : Trans). t ≤ x.at) x later h

pub next_is_not_before : NextIsNotBefore
next_is_not_before d t h =
    all_late t (map first_time d.queues ++ timeouts_of d.processes)
    (All-append (λ (time : Option ℕ). IfSome time (λ u. t ≤ u)) (map first_time d.queues) (timeouts_of d.processes)
    (All-map (λ (time : Option ℕ). IfSome time (λ u. t ≤ u)) first_time d.queues
    (All-weaker (All (λ (x : Trans). t ≤ x.at)) (λ (q : List Trans). IfSome (first_time q) (λ u. t ≤ u)) (first_late t) d.queues h.transactions)) h.timeouts)
