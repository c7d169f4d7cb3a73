-- The parts at the beginning of a cycle.
use Rattle.std.proofs.Common.{◌≡◌, refl, ap, sym, ◌∙◌, subst, ℕ, Bool, ◌||◌, ℤ, List, [], ◌++◌, map, length}
use Rattle.std.proofs.lemmas.List.{length-map}
use Rattle.ams_value.specs.Types.{type_of}
use Rattle.flat_design.specs.declared.objects.Objects.{Objects}
use Rattle.flat_design.specs.declared.objects.Process.{Process}
use Rattle.flat_design.specs.declared.objects.Signal.{Signal}
use Rattle.step_data.specs.declared.event.Event.{Event}
use Rattle.step_data.specs.declared.event.Event.TheVariants as event
use Rattle.step_model.specs.System.{Digital, CycleOutcome}
use Rattle.design_meaning.specs.Readings.{Seen}
use Rattle.cycle_meaning.specs.World.{World as CycleWorld, Context}
use Rattle.cycle_meaning.specs.Cycles.{context_at, world_of as begun_world, event_if, crossings, signal_events, resumes, after_resumption, cycle}
use Rattle.kernel_world.specs.Acting.{context_of, world_of}
use Rattle.kernel_world.specs.Reading.{domain_value}
use Rattle.kernel_world.specs.Beginning.{IsLeft, behind}
use Rattle.process_rest.specs.Resting.{IsWorld}
use Rattle.process_runs.specs.Kept.{Kept, IsWaiting, CanRun}
use Rattle.process_callers.specs.Callers.{Lists}
use Rattle.process_callers.specs.Calling.{AreEvents}
use Rattle.kernel_state.specs.declared.parts.KernelParts.{KernelParts}
use Rattle.kernel_state.specs.Lists.{AreCallers}
use Rattle.kernel_state.specs.State.{state_of}
use Rattle.kernel_cycle.specs.Ending.{begun_outcome}
use Rattle.kernel_cycle.proofs.Leaving.{same_domain}

-- the state that is kept is what the last cycle left
pub left : (k : KernelParts) → IsLeft (state_of k) (world_of k.world)
left k = record { kept = refl; signals = refl; timed = refl; queues = refl }

-- with nothing in front
pub behind_none : (events : List Event) (w : CycleWorld) → events ≡ [] → behind events w ≡ w
behind_none events w e = ap (λ (l : List Event). record w { events = l ++ w.events }) e

-- processes that wait can run in another world of the design
pub can_later : (here later : Context) (w v : CycleWorld) (ps : List Process) (ks : List Kept) → later.objects ≡ here.objects → IsWorld later v → CanRun here w ps ks → CanRun later v ps ks
can_later here later w v ps ks same world can = record {
  processes = can.processes ∙ ap (λ (o : Objects). o.processes) (sym same);
  few = can.few;
  count = can.count;
  world = world;
  waiting = λ i p k at_p at_k. subst (λ (o : Objects). IsWaiting o i p k) (sym same) (can.waiting i p k at_p at_k);
}

-- the world at the beginning is one of the design
pub world_begun : (objects : Objects) (t n : ℕ) (x : List ℤ) (here first : Context) (w v : CycleWorld) → here ≡ record first { t = t; n = n; x = x } → first.objects ≡ objects → w ≡ v
    → ((k : ℕ) → IsWorld (context_at objects t n x k) v) → IsWorld here w
world_begun objects t n x here first w v e eo ew h =
    subst (λ (c : Context). IsWorld c w) (sym (e ∙ ap (λ (o : Objects). context_at o t n x first.process) eo)) (subst (IsWorld (context_at objects t n x first.process)) (sym ew) (h first.process))

as_many : (seen : List Seen) (signals : List Signal) → map (λ (s : Seen). type_of s.value) seen ≡ map (λ (s : Signal). s.kind) signals → length seen ≡ length signals
as_many seen signals e = sym (length-map seen (λ (s : Seen). type_of s.value)) ∙ ap length e ∙ length-map signals (λ (s : Signal). s.kind)

-- the events at the beginning, as they stand in the world
abbrev given_in : ℕ → ℕ → CycleWorld → List Event
given_in t n w = event_if w.domain.event (event.Domain t n) ++ crossings t n 0 w.thresholds ++ signal_events t n 0 w.signals

-- the events are those of the lists
pub are_events : (objects : Objects) (d : Digital) (t n : ℕ) (x : List ℤ) (z : Bool) (here : Context) (w : CycleWorld) (c : Lists) → here.objects ≡ objects → here.n ≡ n → w ≡ begun_world objects d t n x z → IsWorld here w → AreCallers objects c
    → AreEvents c w t here.n w.events
are_events objects d t n x z here w c eo en ew typed callers = record {
  signals = as_many w.signals here.objects.signals typed.signals ∙ ap (λ (o : Objects). length o.signals) eo ∙ sym callers.signals;
  thresholds = typed.thresholds ∙ ap (λ (o : Objects). length o.thresholds) eo ∙ sym callers.thresholds;
  events_are = ap (λ (v : CycleWorld). v.events) ew ∙ sym (ap (given_in t here.n) ew ∙ ap (λ (m : ℕ). given_in t m (begun_world objects d t n x z)) en);
}

-- ---- the cycle

-- DOMAIN is that at the beginning
timed_so : (a b z : Bool) (w v : CycleWorld) → w ≡ v → w.domain.value ≡ domain_value a → v.domain.value ≡ domain_value (b || z) → a ≡ b || z
timed_so a b z w v e ea eb = same_domain a (b || z) (sym ea ∙ ap (λ (u : CycleWorld). u.domain.value) e ∙ eb)

-- what a cycle comes to from its moment, DOMAIN's turn and the world at the beginning
abbrev come_to : Digital → Context → Bool → CycleWorld → CycleOutcome
come_to d h b w = after_resumption h.objects d h.t h.n h.x b w (resumes (context_at h.objects h.t h.n h.x) w 0 h.objects.processes d.processes)

-- what the cycle that began comes to is the cycle
pub outcome : (objects : Objects) (d : Digital) (t n : ℕ) (x : List ℤ) (z : Bool) (first : Context) (k : KernelParts) → context_of k.world ≡ record first { t = t; n = n; x = x } → first.objects ≡ objects
    → world_of k.world ≡ begun_world objects d t n x z → begun_outcome d k ≡ cycle objects d t n x z
unfolding cycle
outcome objects d t n x z first k ec eo ew =
    let now : Context = context_at objects t n x first.process in
    ap (λ (h : Context). come_to d h k.world.timed (world_of k.world)) (ec ∙ ap (λ (o : Objects). context_at o t n x first.process) eo)
    ∙ ap (come_to d now k.world.timed) ew
    ∙ ap (λ (b : Bool). come_to d now b (begun_world objects d t n x z)) (timed_so k.world.timed d.timed z (world_of k.world) (begun_world objects d t n x z) ew refl refl)
