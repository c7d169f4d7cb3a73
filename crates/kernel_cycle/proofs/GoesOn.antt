-- A cycle goes on behind the look.
use Rattle.std.proofs.Common.{◌≡◌, refl, ap, sym, ◌∙◌, subst, ℕ, Bool, List, map, length, Option, Result, Ok, Err}
use Rattle.std.specs.Prelude.{replicate, false}
use Rattle.std.proofs.lemmas.List.{length-replicate}
use Rattle.flat_design.specs.declared.objects.Objects.{Objects}
use Rattle.step_data.specs.declared.outcome.Refusal.{Refusal}
use Rattle.step_model.specs.System.{ProcessState, Digital, CycleOutcome}
use Rattle.cycle_meaning.specs.World.{World as CycleWorld, Context}
use Rattle.cycle_meaning.specs.Cycles.{context_at, resumes, run_all, ended}
use Rattle.statement_lists.specs.declared.fault.ListFault.{ListFault}
use Rattle.statement_lists.specs.declared.fault.ListFault.TheVariants as fault
use Rattle.proc_exec.specs.Running.{IsFront}
use Rattle.next_cycle.specs.Next.{timeouts_of}
use Rattle.process_runs.specs.Kept.{Kept, numbered, states_kept, CanRun}
use Rattle.process_callers.specs.Calling.{unless_due}
use Rattle.kernel_world.specs.Acting.{context_of, world_of}
use Rattle.kernel_world.specs.Reading.{domain_value}
use Rattle.cycle_parts.specs.Added.{RunsAddEvents}
use Rattle.kernel_state.specs.declared.parts.KernelParts.{KernelParts}
use Rattle.kernel_state.specs.State.{objects_of, IsBuilt}
use Rattle.kernel_cycle.specs.Ending.{CycleEnds, FindEnds, begun_outcome}
use Rattle.kernel_cycle.proofs.Fronts.{goes_on_front}
use Rattle.kernel_cycle.proofs.Leaving.{same_domain, lists_stay}
use Rattle.kernel_cycle.proofs.Found.{can_here, resumes_here, outcome_refused, outcome_found}

pub timed_stays : (a b : Bool) (w v : CycleWorld) → v ≡ w → w.domain.value ≡ domain_value a → v.domain.value ≡ domain_value b → b ≡ a
timed_stays a b w v e ea eb = same_domain b a (sym eb ∙ ap (λ (u : CycleWorld). u.domain.value) e ∙ ea)

pub built_stays : (j k : KernelParts) → objects_of k ≡ objects_of j → k.waits ≡ j.waits → k.callers ≡ j.callers → k.resumed.items ≡ j.resumed.items → IsBuilt j → IsBuilt k
built_stays j k eo ew ec er h = record {
  lists = lists_stay j k eo ew ec h.lists;
  resumed = er ∙ h.resumed ∙ ap (λ (o : Objects). replicate (length o.processes) false) (sym eo);
}

pub marks_count : (marks before : List Bool) (o p : Objects) → length marks ≡ length before → before ≡ replicate (length o.processes) false → p ≡ o → length marks ≡ length p.processes
marks_count marks before o p e h eo = e ∙ ap length h ∙ length-replicate (length o.processes) false ∙ ap (λ (q : Objects). length q.processes) (sym eo)

pub can_stays : (here later : Context) (w v : CycleWorld) (js ks : List Kept) → later ≡ here → v ≡ w → js ≡ ks → CanRun here w here.objects.processes ks → CanRun later v later.objects.processes js
can_stays here later w v js ks ec ew ek can = subst (λ (l : List Kept). CanRun later v later.objects.processes l) (sym ek) (can_here here later w v ks ec ew can)

pub resumes_stay : (here later : Context) (w v : CycleWorld) (js ks : List Kept) (r : Result (List Bool) Refusal) → later ≡ here → v ≡ w → js ≡ ks
    → resumes (numbered here) w 0 here.objects.processes (states_kept here.objects.processes ks) ≡ r
    → resumes (numbered later) v 0 later.objects.processes (states_kept later.objects.processes js) ≡ r
resumes_stay here later w v js ks r ec ew ek found =
    ap (λ (l : List Kept). resumes (numbered later) v 0 later.objects.processes (states_kept later.objects.processes l)) ek ∙ resumes_here here later w v ks ec ew ∙ found

pub times_stay : (here later : Context) (js ks : List Kept) (now : ℕ) (times before : List (Option ℕ)) → later ≡ here → js ≡ ks → here.t ≡ now → times ≡ map (unless_due now) before
    → before ≡ timeouts_of (states_kept here.objects.processes ks) → times ≡ map (unless_due later.t) (timeouts_of (states_kept later.objects.processes js))
times_stay here later js ks now times before ec ek moment e was =
    e ∙ ap (map (unless_due now)) was
    ∙ ap (λ (t : ℕ). map (unless_due t) (timeouts_of (states_kept here.objects.processes ks))) (sym moment)
    ∙ ap (λ (h : Context). map (unless_due h.t) (timeouts_of (states_kept h.objects.processes ks))) (sym ec)
    ∙ ap (λ (l : List Kept). map (unless_due later.t) (timeouts_of (states_kept later.objects.processes l))) (sym ek)

ended_stays : (d : Digital) (here later : Context) (a b : Bool) (w v : CycleWorld) (js ks : List Kept) (bs : List Bool) → later ≡ here → b ≡ a → v ≡ w → js ≡ ks
    → ended d later.t b (run_all (numbered later) 0 later.objects.processes (states_kept later.objects.processes js) bs v)
    ≡ ended d here.t a (run_all (numbered here) 0 here.objects.processes (states_kept here.objects.processes ks) bs w)
ended_stays d here later a b w v js ks bs ec eb ew ek =
    ap (λ (l : List Kept). ended d later.t b (run_all (numbered later) 0 later.objects.processes (states_kept later.objects.processes l) bs v)) ek
    ∙ ap (λ (h : Context). ended d h.t b (run_all (numbered h) 0 h.objects.processes (states_kept h.objects.processes ks) bs v)) ec
    ∙ ap (λ (z : Bool). ended d here.t z (run_all (numbered here) 0 here.objects.processes (states_kept here.objects.processes ks) bs v)) eb
    ∙ ap (λ (u : CycleWorld). ended d here.t a (run_all (numbered here) 0 here.objects.processes (states_kept here.objects.processes ks) bs u)) ew

-- the runs end as the cycle that began
pub run_ends : (d : Digital) (before k after : KernelParts) (r : Result Unit ListFault) → context_of k.world ≡ context_of before.world → world_of k.world ≡ world_of before.world → k.kept.items ≡ before.kept.items
    → d.processes ≡ states_kept (objects_of before).processes before.kept.items
    → resumes (numbered (context_of before.world)) (world_of before.world) 0 (objects_of before).processes (states_kept (objects_of before).processes before.kept.items) ≡ Ok k.resumed.items
    → CycleEnds (ended d (context_of k.world).t k.world.timed (run_all (numbered (context_of k.world)) 0 (objects_of k).processes (states_kept (objects_of k).processes k.kept.items) k.resumed.items (world_of k.world))) after r
    → CycleEnds (begun_outcome d before) after r
run_ends d before k after r ec ew ek es found ends =
    let b : k.world.timed ≡ before.world.timed = timed_stays before.world.timed k.world.timed (world_of before.world) (world_of k.world) ew refl refl in
    let e = ended_stays d (context_of before.world) (context_of k.world) before.world.timed k.world.timed (world_of before.world) (world_of k.world) k.kept.items before.kept.items k.resumed.items ec b ew ek in
    subst (λ (o : CycleOutcome). CycleEnds o after r) (e ∙ sym (outcome_found d before (states_kept (objects_of before).processes before.kept.items) k.resumed.items es found)) ends

-- so it does where the look fails
pub look_ends : RunsAddEvents → (d : Digital) (before k : KernelParts) (states : List ProcessState) (bs : List Bool) (left : Type 0) (f : ListFault) → world_of k.world ≡ world_of before.world → d.processes ≡ states
    → FindEnds (resumes (numbered (context_of before.world)) (world_of before.world) 0 (objects_of before).processes states) bs left (Err f) → CycleEnds (begun_outcome d before) k (Err f)
look_ends law d before k states bs left (fault.Refused r) ew es h =
    let e = outcome_refused d before states r es h in
    (ap (λ (o : CycleOutcome). o.ran) e, ap (λ (v : CycleWorld). v.events) ew ∙ sym (ap (λ (o : CycleOutcome). o.events) e))
look_ends law d before k states bs left fault.Memory ew es h =
    let here = context_of before.world in
    subst (λ (v : CycleWorld). IsFront v.events (begun_outcome d before).events) (sym ew)
    (goes_on_front law here.objects d here.t here.n here.x before.world.timed (world_of before.world) (resumes (context_at here.objects here.t here.n here.x) (world_of before.world) 0 here.objects.processes d.processes))
