-- Which processes resume, in a world whose events were lent out.
use Rattle.std.proofs.Common.{◌≡◌, refl, ap, sym, ◌∙◌, subst, ℕ, ◌<◌, Bool, List, [], ◌∷◌, map, length, Option, Result, Ok, Err, arith}
use Rattle.std.specs.Prelude.{slice_index_or, true, false}
use Rattle.std.specs.List.{All, Contains}
use Rattle.std.specs.List.Sorted.{IsStrictlyIncreasing}
use Rattle.flat_design.specs.declared.objects.Process.{Process}
use Rattle.step_data.specs.declared.event.Event.{Event}
use Rattle.step_data.specs.declared.outcome.Refusal.{Refusal}
use Rattle.step_model.specs.System.{ProcessState, Digital, CycleOutcome}
use Rattle.cycle_meaning.specs.World.{World as CycleWorld, Context}
use Rattle.cycle_meaning.specs.Cycles.{resumes, run_all, ended, after_resumption}
use Rattle.next_cycle.specs.Next.{timeouts_of}
use Rattle.process_runs.specs.Kept.{Kept, numbered, states_kept, CanRun}
use Rattle.process_runs.specs.Called.{MarksAreCalled}
use Rattle.process_runs.specs.Sleeping.{asleep}
use Rattle.resumption.specs.Sleeps.{Sleep, waits_of}
use Rattle.resumption.specs.Waits.{AreWaits, answered}
use Rattle.resumption.specs.declared.waits.Waits.{Waits}
use Rattle.resumption_calls.specs.Calls.{HaveCallers, AreCalled}
use Rattle.process_callers.specs.Callers.{Lists, callers_of}
use Rattle.process_callers.specs.Calling.{AreEvents}
use Rattle.kernel_world.specs.Acting.{context_of, world_of}
use Rattle.kernel_state.specs.declared.parts.KernelParts.{KernelParts}
use Rattle.kernel_cycle.specs.Ending.{begun_outcome}
use Rattle.kernel_cycle.proofs.Leaving.{states_length, times_length}

-- ---- as many

pub times_count : (ps : List Process) (ks : List Kept) (times : List (Option ℕ)) → length ks ≡ length ps → times ≡ timeouts_of (states_kept ps ks) → length times ≡ length ps
times_count ps ks times h e = ap length e ∙ times_length (states_kept ps ks) ∙ states_length ps ks h

-- the timeouts of those that sleep are those of the states
slept : (ps : List Process) (ks : List Kept) → length ks ≡ length ps → map (λ (z : Sleep). z.timeout) (map asleep ks) ≡ timeouts_of (states_kept ps ks)
slept [] [] h = refl
slept [] (k ∷ ks) h = absurd (omega arith)
slept (p ∷ ps) [] h = absurd (omega arith)
slept (p ∷ ps) (k ∷ ks) h = ap (λ (l : List (Option ℕ)). k.timeout ∷ l) (slept ps ks (omega arith))

pub slept_times : (ps : List Process) (ks : List Kept) (times : List (Option ℕ)) → length ks ≡ length ps → times ≡ timeouts_of (states_kept ps ks) → map (λ (z : Sleep). z.timeout) (map asleep ks) ≡ times
slept_times ps ks times h e = slept ps ks h ∙ sym e

-- ---- the same world

pub can_here : (here later : Context) (w v : CycleWorld) (ks : List Kept) → later ≡ here → v ≡ w → CanRun here w here.objects.processes ks → CanRun later v later.objects.processes ks
can_here here later w v ks ec ew can =
    subst (λ (h : Context). CanRun h v h.objects.processes ks) (sym ec) (subst (λ (u : CycleWorld). CanRun here u here.objects.processes ks) (sym ew) can)

pub have_here : (here later : Context) (c : Lists) (n : ℕ) → later ≡ here → n ≡ length here.objects.processes → HaveCallers (callers_of (length here.objects.processes) c) (map waits_of here.objects.processes)
    → HaveCallers (callers_of n c) (map waits_of later.objects.processes)
have_here here later c n ec en have =
    subst (λ (h : Context). HaveCallers (callers_of n c) (map waits_of h.objects.processes)) (sym ec)
    (subst (λ (m : ℕ). HaveCallers (callers_of m c) (map waits_of here.objects.processes)) (sym en) have)

pub events_here : (c : Lists) (w v : CycleWorld) (t n : ℕ) (events : List Event) → v ≡ w → AreEvents c w t n events → AreEvents c v t n events
events_here c w v t n events ew h = subst (λ (u : CycleWorld). AreEvents c u t n events) (sym ew) h

pub resumes_here : (here later : Context) (w v : CycleWorld) (ks : List Kept) → later ≡ here → v ≡ w
    → resumes (numbered later) v 0 later.objects.processes (states_kept later.objects.processes ks) ≡ resumes (numbered here) w 0 here.objects.processes (states_kept here.objects.processes ks)
resumes_here here later w v ks ec ew =
    ap (λ (h : Context). resumes (numbered h) v 0 h.objects.processes (states_kept h.objects.processes ks)) ec
    ∙ ap (λ (u : CycleWorld). resumes (numbered here) u 0 here.objects.processes (states_kept here.objects.processes ks)) ew

pub found_here : (here later : Context) (w v : CycleWorld) (ks : List Kept) (r : Result Unit Refusal) (resumed : List Bool) → later ≡ here → v ≡ w
    → answered r resumed ≡ resumes (numbered later) v 0 later.objects.processes (states_kept later.objects.processes ks)
    → resumes (numbered here) w 0 here.objects.processes (states_kept here.objects.processes ks) ≡ answered r resumed
found_here here later w v ks r resumed ec ew e = sym (e ∙ resumes_here here later w v ks ec ew)

-- ---- the outcome by what resumes

abbrev outcome_by : Digital → Context → Bool → CycleWorld → Result (List Bool) Refusal → CycleOutcome
outcome_by d h b w found = after_resumption h.objects d h.t h.n h.x b w found

pub outcome_refused : (d : Digital) (k : KernelParts) (states : List ProcessState) (r : Refusal) → d.processes ≡ states
    → resumes (numbered (context_of k.world)) (world_of k.world) 0 (context_of k.world).objects.processes states ≡ Err r
    → begun_outcome d k ≡ outcome_by d (context_of k.world) k.world.timed (world_of k.world) (Err r)
outcome_refused d k states r es e =
    ap (λ (l : List ProcessState). outcome_by d (context_of k.world) k.world.timed (world_of k.world) (resumes (numbered (context_of k.world)) (world_of k.world) 0 (context_of k.world).objects.processes l)) es
    ∙ ap (outcome_by d (context_of k.world) k.world.timed (world_of k.world)) e

pub outcome_found : (d : Digital) (k : KernelParts) (states : List ProcessState) (resumed : List Bool) → d.processes ≡ states
    → resumes (numbered (context_of k.world)) (world_of k.world) 0 (context_of k.world).objects.processes states ≡ Ok resumed
    → begun_outcome d k ≡ ended d (context_of k.world).t k.world.timed (run_all (numbered (context_of k.world)) 0 (context_of k.world).objects.processes states resumed (world_of k.world))
outcome_found d k states resumed es e =
    ap (λ (l : List ProcessState). outcome_by d (context_of k.world) k.world.timed (world_of k.world) (resumes (numbered (context_of k.world)) (world_of k.world) 0 (context_of k.world).objects.processes l)) es
    ∙ ap (outcome_by d (context_of k.world) k.world.timed (world_of k.world)) e
    ∙ ap (λ (l : List ProcessState). ended d (context_of k.world).t k.world.timed (run_all (numbered (context_of k.world)) 0 (context_of k.world).objects.processes l resumed (world_of k.world))) es

-- ---- what is asked before the look

pub waits_here : (here later : Context) (w : Waits) → later ≡ here → AreWaits here.objects.processes w → AreWaits later.objects.processes w
waits_here here later w ec h = subst (λ (c : Context). AreWaits c.objects.processes w) (sym ec) h

pub within_here : (ps : List Process) (ks : List Kept) (times : List (Option ℕ)) (called : List ℕ) → length ks ≡ length ps → times ≡ timeouts_of (states_kept ps ks) → All (λ (k : ℕ). k < length times) called
    → All (λ (k : ℕ). k < length ks) called
within_here ps ks times called count timeouts h = subst (λ (n : ℕ). All (λ (k : ℕ). k < n) called) (times_count ps ks times count timeouts ∙ sym count) h

pub called_here : (here later : Context) (w v : CycleWorld) (c : Lists) (ps : List Process) (ks : List Kept) (times : List (Option ℕ)) (now : ℕ) (called : List ℕ) → later ≡ here → v ≡ w → here.t ≡ now
    → length ks ≡ length ps → times ≡ timeouts_of (states_kept ps ks) → AreEvents c w now here.n w.events
    → ((at : ℕ → Context) (u : CycleWorld) (sleeps : List Sleep) (n : ℕ) → ((k : ℕ) → (at k).t ≡ now) → map (λ (z : Sleep). z.timeout) sleeps ≡ times → AreEvents c u now n w.events
    → AreCalled at u (callers_of (length times) c) sleeps called)
    → AreCalled (numbered later) v (callers_of (length ks) c) (map asleep ks) called
called_here here later w v c ps ks times now called ec ew moment count timeouts events calls =
    subst (λ (n : ℕ). AreCalled (numbered later) v (callers_of n c) (map asleep ks) called) (times_count ps ks times count timeouts ∙ sym count)
    (calls (numbered later) v (map asleep ks) here.n (λ k. ap (λ (h : Context). h.t) ec ∙ moment) (slept_times ps ks times count timeouts) (events_here c w v now here.n w.events ew events))

-- only those that are called are marked
pub marks_here : (here later : Context) (ps : List Process) (ks : List Kept) (times : List (Option ℕ)) (called slice : List ℕ) (new marks : List Bool) → later ≡ here → ps ≡ here.objects.processes → slice ≡ called → marks ≡ new
    → length ks ≡ length ps → times ≡ timeouts_of (states_kept ps ks) → IsStrictlyIncreasing called → All (λ (k : ℕ). k < length times) called
    → ((k : ℕ) → slice_index_or new k false ≡ true → Contains slice k) → MarksAreCalled (length later.objects.processes) called marks
marks_here here later ps ks times called slice new marks ec same es em count timeouts rises within marked = record {
  rises = rises;
  within = subst (λ (n : ℕ). All (λ (k : ℕ). k < n) called)
      (times_count ps ks times count timeouts ∙ ap (λ (l : List Process). length l) same ∙ ap (λ (h : Context). length h.objects.processes) (sym ec)) within;
  marked = subst (λ (l : List Bool). (k : ℕ) → slice_index_or l k false ≡ true → Contains called k) (sym em)
      (subst (λ (l : List ℕ). (k : ℕ) → slice_index_or new k false ≡ true → Contains l k) es marked);
}
