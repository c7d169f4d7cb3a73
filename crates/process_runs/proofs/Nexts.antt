-- One more process has run.
use Rattle.std.proofs.Common.{◌≡◌, ◌⊎◌, inl, inr, refl, sym, ◌∙◌, ap, subst, ℕ, zero, suc, ◌+◌, ◌<◌, Bool, true, List, [], ◌∷◌, length, slice_set, length-set, add-one, Some, Result, Ok, Err, arith}
use Rattle.std.specs.Prelude.{slice_index_or, OnOk}
use Rattle.std.specs.List.{slice_get}
use Rattle.flat_design.specs.declared.objects.Process.{Process}
use Rattle.step_model.specs.System.{ProcessState}
use Rattle.cycle_meaning.specs.World.{World, Context, Local}
use Rattle.cycle_meaning.specs.Processes.{run, statement_budget, left_behind, state_of}
use Rattle.cycle_meaning.specs.Cycles.{Ran_of, all_ran, one_refused, run_all, local_of}
use Rattle.statement_lists.specs.declared.fault.ListFault.{ListFault}
use Rattle.statement_lists.specs.declared.fault.ListFault.TheVariants as fault
use Rattle.process_laws.specs.Kept.{IsSound}
use Rattle.process_place.specs.ProcessPlace.{tasks_at}
use Rattle.process_place.specs.Moves.{run_at}
use Rattle.process_place.specs.Follows.{stop_in}
use Rattle.process_place.proofs.Keeping.{places_are_kept}
use Rattle.process_ready.specs.Ready.{IsReady}
use Rattle.proc_exec.specs.Running.{StandsReady, IsFront}
use Rattle.process_rest.specs.Resting.{IsWorld}
use Rattle.process_runs.specs.Kept.{Kept, place_kept, with_own, state_kept, states_kept, numbered, IsWaiting, CanRun}
use Rattle.process_runs.specs.Ran.{Rested, RunEnds, events_in, AllEnd, NextEnds, ran_from}
use Rattle.process_runs.proofs.Rests.{ready_there, waits}
use Rattle.process_runs.proofs.Worlds.{world_for, world_there, contexts_same}
use Rattle.process_runs.proofs.Fronts.{run_front, events_at, events_same, AllFront}
use Rattle.process_runs.proofs.Ran.{states_length, state_at, state_with, ran_next, ran_refused, ran_front, ran_end, ran_begins}

-- ---- elements

pub got : {X : Type 0} (xs : List X) (n : ℕ) (d x : X) → n < length xs → slice_index_or xs n d ≡ x → slice_get xs n ≡ Some x
got [] n d x h e = absurd (omega (arith, h))
got (y ∷ xs) zero d x h e = ap Some e
got (y ∷ xs) (suc n) d x h e = got xs n d x (omega (arith, h)) e

pub got_set : {X : Type 0} (xs : List X) (n : ℕ) (v : X) (i : ℕ) (x : X) → slice_get (slice_set xs n v) i ≡ Some x → ((i ≡ n) × (v ≡ x)) ⊎ ((i ≡ n → ⊥) × (slice_get xs i ≡ Some x))
got_set [] n v i x h = absurd (cc)
got_set (y ∷ xs) zero v zero x h = inl (refl, cc)
got_set (y ∷ xs) zero v (suc i) x h = inr (λ e. cc, h)
got_set (y ∷ xs) (suc n) v zero x h = inr (λ e. cc, h)
got_set (y ∷ xs) (suc n) v (suc i) x h = elim (got_set xs n v i x h) [ inl here ↦ inl (ap suc here.0, here.1) | inr there ↦ inr (λ e. there.0 (cc), there.1) ]

-- ---- the process with a number

pub there : (here : Context) (ps : List Process) (n : ℕ) (p : Process) → ps ≡ here.objects.processes → slice_get ps n ≡ Some p → slice_get here.objects.processes n ≡ Some p
there here ps n p same h = ap (λ (xs : List Process). slice_get xs n) (sym same) ∙ h

pub stands : (here : Context) (w : World) (ps : List Process) (ks : List Kept) (n : ℕ) (p : Process) (k : Kept) → CanRun here w ps ks → slice_get ps n ≡ Some p → slice_get ks n ≡ Some k
    → StandsReady (numbered here n) (with_own w k) p.statements k.stack
stands here w ps ks n p k can hp hk = (can.waiting n p k hp hk).ready (numbered here n) w refl refl (world_for here n w can.world)

pub sound_of : (here : Context) (p : Process) (l : Local) → IsReady here p l → IsSound p
sound_of here p l ready = (ready.rules.ways, ready.rules.parameters)

-- the run of the definition is the run from the place
runs_so : (here : Context) (w : World) (ps : List Process) (ks : List Kept) (n : ℕ) (p : Process) (k : Kept) → CanRun here w ps ks → slice_get ps n ≡ Some p → slice_get ks n ≡ Some k → (v : World)
    → run statement_budget (numbered here n) (local_of v p (state_kept p k)) (left_behind p (state_kept p k))
    ≡ stop_in p.statements (run_at statement_budget (numbered here n) p.statements (with_own v k) (place_kept p k))
runs_so here w ps ks n p k can hp hk v =
    places_are_kept.runs p (state_kept p k) (place_kept p k) k.variables (can.waiting n p k hp hk).keeps statement_budget (numbered here n) v (there here ps n p can.processes hp)

all_fronts : (here : Context) (w : World) (ps : List Process) (ks : List Kept) → CanRun here w ps ks → AllFront (numbered here) 0 ps (states_kept ps ks)
all_fronts here w ps ks can =
    record {
      each = λ i j p s v e hp hs.
          let same : j ≡ i = omega (arith, e) in
          subst (λ (m : ℕ). IsFront v.events (events_at (run statement_budget (numbered here m) (local_of v p s) (left_behind p s)))) (sym same)
          (by_state i p s v hp hs);
    }
  where
    kept_there : (qs : List Process) (js : List Kept) (i : ℕ) (p : Process) (s : ProcessState) → slice_get qs i ≡ Some p → slice_get (states_kept qs js) i ≡ Some s → (k : Kept) × (slice_get js i ≡ Some k) × (state_kept p k ≡ s)
    kept_there [] js i p s hp hs = absurd (cc)
    kept_there (q ∷ qs) [] i p s hp hs = absurd (cc)
    kept_there (q ∷ qs) (j ∷ js) zero p s hp hs = let a : q ≡ p = cc in let b : state_kept q j ≡ s = cc in (j, refl, subst (λ (x : Process). state_kept x j ≡ s) a b)
    kept_there (q ∷ qs) (j ∷ js) (suc i) p s hp hs = kept_there qs js i p s hp hs

    by_state : (i : ℕ) (p : Process) (s : ProcessState) (v : World) → slice_get ps i ≡ Some p → slice_get (states_kept ps ks) i ≡ Some s
        → IsFront v.events (events_at (run statement_budget (numbered here i) (local_of v p s) (left_behind p s)))
    by_state i p s v hp hs =
        let k = kept_there ps ks i p s hp hs in
        subst (λ (z : ProcessState). IsFront v.events (events_at (run statement_budget (numbered here i) (local_of v p z) (left_behind p z)))) k.2
        (subst (λ e. IsFront v.events (events_at e)) (sym (runs_so here w ps ks i p k.0 can hp k.1 v))
        (subst (IsFront v.events) (sym (events_same p.statements (run_at statement_budget (numbered here i) p.statements (with_own v k.0) (place_kept p k.0))))
        (run_front statement_budget (numbered here i) p.statements (with_own v k.0) (place_kept p k.0))))

-- ---- one that rests

again : (here : Context) (w v : World) (ps : List Process) (ks : List Kept) (n : ℕ) (p : Process) (k now : Kept) → CanRun here w ps ks → slice_get ps n ≡ Some p → slice_get ks n ≡ Some k
    → (r : Rested (numbered here n) p now v (run_at statement_budget (numbered here n) p.statements (with_own w k) (place_kept p k)))
    → (state_of p.variables now.wait now.timeout (tasks_at p.statements (place_kept p now)) r.after ≡ state_kept p now) × IsWaiting here.objects n p now
again here w v ps ks n p k now can hp hk r =
    waits (numbered here n) p now v (with_own w k) k.stack (there here ps n p can.processes hp) (stands here w ps ks n p k can hp hk) r
    (places_are_kept.again p (state_kept p k) (place_kept p k) k.variables
    (sound_of (numbered here n) p (with_own w k) (ready_there (numbered here n) p (with_own w k) k.stack (there here ps n p can.processes hp) (stands here w ps ks n p k can hp hk)))
    (can.waiting n p k hp hk).keeps statement_budget (numbered here n) w now.wait now.timeout (place_kept p now) r.after (there here ps n p can.processes hp) r.ends)

rested_next : (here : Context) (w v : World) (ps : List Process) (ks : List Kept) (bs : List Bool) (n : ℕ) (p : Process) (k now : Kept) → CanRun here w ps ks → slice_get ps n ≡ Some p → slice_get ks n ≡ Some k → slice_get bs n ≡ Some true
    → Rested (numbered here n) p now v (run_at statement_budget (numbered here n) p.statements (with_own w k) (place_kept p k))
    → ran_from n (numbered here) 0 ps (states_kept ps ks) bs w ≡ ran_from (n + 1) (numbered here) 0 ps (states_kept ps (slice_set ks n now)) bs v
rested_next here w v ps ks bs n p k now can hp hk hb r =
    ran_next n (numbered here) 0 n ps (states_kept ps ks) bs w p (state_kept p k) now.wait now.timeout (tasks_at p.statements (place_kept p now)) r.after (omega arith) hp (state_at ps ks n p k hp hk) hb
    (runs_so here w ps ks n p k can hp hk w ∙ ap (stop_in p.statements) r.ends)
    ∙ (ap (λ (s : ProcessState). ran_from (suc n) (numbered here) 0 ps (slice_set (states_kept ps ks) n s) bs r.after.world) (again here w v ps ks n p k now can hp hk r).0
    ∙ (ap (λ (z : List ProcessState). ran_from (suc n) (numbered here) 0 ps z bs r.after.world) (sym (state_with ps ks n p now hp))
    ∙ (ap (λ (z : World). ran_from (suc n) (numbered here) 0 ps (states_kept ps (slice_set ks n now)) bs z) r.world
    ∙ ap (λ (m : ℕ). ran_from m (numbered here) 0 ps (states_kept ps (slice_set ks n now)) bs v) (sym (add-one n)))))

pub next_ends : (here : Context) (w v : World) (ps : List Process) (ks : List Kept) (bs : List Bool) (n : ℕ) (p : Process) (k now : Kept) (r : Result Unit ListFault)
    → CanRun here w ps ks → slice_get ps n ≡ Some p → slice_get ks n ≡ Some k → slice_get bs n ≡ Some true
    → RunEnds (numbered here n) p now v (run_at statement_budget (numbered here n) p.statements (with_own w k) (place_kept p k)) r
    → NextEnds (ran_from n (numbered here) 0 ps (states_kept ps ks) bs w) (ran_from (n + 1) (numbered here) 0 ps (states_kept ps (slice_set ks n now)) bs v) v r
next_ends here w v ps ks bs n p k now (Ok u) can hp hk hb e = rested_next here w v ps ks bs n p k now can hp hk hb e
next_ends here w v ps ks bs n p k now (Err (fault.Refused f)) can hp hk hb e =
    ran_refused n (numbered here) 0 n ps (states_kept ps ks) bs w p (state_kept p k) e.0 f (omega arith) hp (state_at ps ks n p k hp hk) hb
    (runs_so here w ps ks n p k can hp hk w ∙ ap (stop_in p.statements) e.1)
    ∙ ap (λ (z : World). one_refused z f) e.2
next_ends here w v ps ks bs n p k now (Err fault.Memory) can hp hk hb e =
    ran_front n (numbered here) 0 n ps (states_kept ps ks) bs w p (state_kept p k) v.events (omega arith) hp (state_at ps ks n p k hp hk) hb (all_fronts here w ps ks can)
    (subst (λ z. IsFront v.events (events_at z)) (sym (runs_so here w ps ks n p k can hp hk w))
    (subst (IsFront v.events) (sym (events_same p.statements (run_at statement_budget (numbered here n) p.statements (with_own w k) (place_kept p k)))) e))

-- and the others can run
rested_can : (here : Context) (w v : World) (ps : List Process) (ks : List Kept) (n : ℕ) (p : Process) (k now : Kept) → CanRun here w ps ks → slice_get ps n ≡ Some p → slice_get ks n ≡ Some k
    → Rested (numbered here n) p now v (run_at statement_budget (numbered here n) p.statements (with_own w k) (place_kept p k)) → CanRun (numbered here n) v ps (slice_set ks n now)
rested_can here w v ps ks n p k now can hp hk r =
    record {
      processes = can.processes;
      few = can.few;
      count = length-set ks n now ∙ can.count;
      world = subst (IsWorld (numbered here n)) r.world
          (world_there (numbered here n) p r.after (ready_there (numbered here n) p r.after now.stack (there here ps n p can.processes hp) r.ready));
      waiting = λ i q j hq hj. each i q j hq (got_set ks n now i j hj);
    }
  where
    each : (i : ℕ) (q : Process) (j : Kept) → slice_get ps i ≡ Some q → (((i ≡ n) × (now ≡ j)) ⊎ ((i ≡ n → ⊥) × (slice_get ks i ≡ Some j))) → IsWaiting here.objects i q j
    each i q j hq (inl this) =
        let at_n : slice_get ps n ≡ Some q = subst (λ (m : ℕ). slice_get ps m ≡ Some q) this.0 hq in
        let same : p ≡ q = cc in
        subst (λ (m : ℕ). IsWaiting here.objects m q j) (sym this.0)
        (subst (λ (x : Process). IsWaiting here.objects n x j) same
        (subst (λ (x : Kept). IsWaiting here.objects n p x) this.1 (again here w v ps ks n p k now can hp hk r).1))
    each i q j hq (inr other) = can.waiting i q j hq other.1

pub next_can : (here now_here : Context) (w v : World) (ps : List Process) (ks : List Kept) (n : ℕ) (p : Process) (k now : Kept) (r : Result Unit ListFault)
    → CanRun here w ps ks → slice_get ps n ≡ Some p → slice_get ks n ≡ Some k → now_here ≡ numbered here n
    → RunEnds (numbered here n) p now v (run_at statement_budget (numbered here n) p.statements (with_own w k) (place_kept p k)) r
    → OnOk r (CanRun now_here v ps (slice_set ks n now))
next_can here now_here w v ps ks n p k now (Ok u) can hp hk context e =
    subst (λ (h : Context). CanRun h v ps (slice_set ks n now)) (sym context) (rested_can here w v ps ks n p k now can hp hk e)
next_can here now_here w v ps ks n p k now (Err f) can hp hk context e = tt

-- ---- the runs so far

-- so many processes have had their turn
pub record Going (whole : Ran_of) (first : Context) (ps : List Process) (bs : List Bool) (n : ℕ) (here : Context) (w : World) (ks : List Kept) : Type 0 where
  pub context : numbered here 0 ≡ numbered first 0
  pub can : CanRun here w ps ks
  pub run : ran_from n (numbered first) 0 ps (states_kept ps ks) bs w ≡ whole

pub going_first : (first : Context) (w : World) (ps : List Process) (ks : List Kept) (bs : List Bool) → CanRun first w ps ks → Going (run_all (numbered first) 0 ps (states_kept ps ks) bs w) first ps bs 0 first w ks
going_first first w ps ks bs can = record { context = refl; can = can; run = sym (ran_begins (numbered first) 0 ps (states_kept ps ks) bs w) }

run_here : (whole : Ran_of) (first : Context) (ps : List Process) (bs : List Bool) (n : ℕ) (here : Context) (w : World) (ks : List Kept) → Going whole first ps bs n here w ks
    → ran_from n (numbered here) 0 ps (states_kept ps ks) bs w ≡ whole
run_here whole first ps bs n here w ks g = ap (λ (at : ℕ → Context). ran_from n at 0 ps (states_kept ps ks) bs w) (contexts_same here first g.context) ∙ g.run

pub going_on : (whole : Ran_of) (first : Context) (ps : List Process) (bs : List Bool) (n : ℕ) (here now_here : Context) (w v : World) (ks js : List Kept) (r : Result Unit ListFault) (u : Unit {0})
    → Going whole first ps bs n here w ks → r ≡ Ok u → numbered now_here 0 ≡ numbered here 0 → OnOk r (CanRun now_here v ps js)
    → NextEnds (ran_from n (numbered here) 0 ps (states_kept ps ks) bs w) (ran_from (n + 1) (numbered here) 0 ps (states_kept ps js) bs v) v r
    → Going whole first ps bs (n + 1) now_here v js
going_on whole first ps bs n here now_here w v ks js r u g ok same can next =
    let on : ran_from n (numbered here) 0 ps (states_kept ps ks) bs w ≡ ran_from (n + 1) (numbered here) 0 ps (states_kept ps js) bs v =
    subst (NextEnds (ran_from n (numbered here) 0 ps (states_kept ps ks) bs w) (ran_from (n + 1) (numbered here) 0 ps (states_kept ps js) bs v) v) ok next in
    record {
      context = same ∙ g.context;
      can = subst (λ (z : Result Unit ListFault). OnOk z (CanRun now_here v ps js)) ok can;
      run = ap (λ (at : ℕ → Context). ran_from (n + 1) at 0 ps (states_kept ps js) bs v) (sym (contexts_same here first g.context)) ∙ (sym on ∙ run_here whole first ps bs n here w ks g);
    }

pub fails_with : (e whole others : Ran_of) (v : World) (states : List ProcessState) (f : ListFault) → e ≡ whole → NextEnds e others v (Err f) → AllEnd whole v states (Err f)
fails_with e whole others v states (fault.Refused r) same next = sym same ∙ next
fails_with e whole others v states fault.Memory same next = subst (λ (z : Ran_of). IsFront v.events (events_in z)) same next

pub going_fails : (whole : Ran_of) (first : Context) (ps : List Process) (bs : List Bool) (n : ℕ) (here : Context) (w v : World) (ks js : List Kept) (r : Result Unit ListFault) (f : ListFault)
    → Going whole first ps bs n here w ks → r ≡ Err f
    → NextEnds (ran_from n (numbered here) 0 ps (states_kept ps ks) bs w) (ran_from (n + 1) (numbered here) 0 ps (states_kept ps js) bs v) v r
    → AllEnd whole v (states_kept ps js) (Err f)
going_fails whole first ps bs n here w v ks js r f g err next =
    fails_with (ran_from n (numbered here) 0 ps (states_kept ps ks) bs w) whole (ran_from (n + 1) (numbered here) 0 ps (states_kept ps js) bs v) v (states_kept ps js) f
    (run_here whole first ps bs n here w ks g)
    (subst (NextEnds (ran_from n (numbered here) 0 ps (states_kept ps ks) bs w) (ran_from (n + 1) (numbered here) 0 ps (states_kept ps js) bs v) v) err next)

pub going_ends : (whole : Ran_of) (first : Context) (ps : List Process) (bs : List Bool) (n : ℕ) (here : Context) (w : World) (ks : List Kept) → length bs ≡ length ps → n ≡ length ps → Going whole first ps bs n here w ks
    → whole ≡ all_ran w (states_kept ps ks)
going_ends whole first ps bs n here w ks as_many all g =
    sym g.run ∙ ran_end n (numbered first) 0 ps (states_kept ps ks) bs w all (states_length ps ks g.can.count) as_many
