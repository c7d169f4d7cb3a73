-- The parts of a kernel whose events were taken out.
use Rattle.std.proofs.Common.{◌≡◌, ◌<◌, ◌^◌, refl, sym, ap, subst, ◌∙◌, Bool, true, false, List, [], length, replicate}
use Rattle.flat_design.specs.declared.objects.Process.{Process}
use Rattle.flat_design.specs.declared.objects.Objects.{Objects}
use Rattle.step_data.specs.declared.event.Event.{Event}
use Rattle.cycle_meaning.specs.World.{World as CycleWorld, Context, Local}
use Rattle.cycle_meaning.specs.Cycles.{digital_of, first_digital}
use Rattle.next_cycle.specs.Next.{timeouts_of}
use Rattle.process_rest.specs.Resting.{IsWorld}
use Rattle.process_runs.specs.Kept.{Kept, states_kept, CanRun}
use Rattle.resumption.specs.Waits.{AreWaits}
use Rattle.kernel_world.specs.Reading.{domain_value}
use Rattle.kernel_world.specs.Acting.{context_of, local_of, world_of}
use Rattle.kernel_world.specs.declared.world.World.{World}
use Rattle.kernel_state.specs.Lists.{AreCallers}
use Rattle.kernel_state.specs.State.{objects_of, states_of, state_of, IsGoing}
use Rattle.kernel_state.specs.declared.parts.KernelParts.{KernelParts}

-- DOMAIN has one of two values
pub same_domain : (a b : Bool) → domain_value a ≡ domain_value b → a ≡ b
same_domain true true e = refl
same_domain true false e = absurd (cc)
same_domain false true e = absurd (cc)
same_domain false false e = refl

-- nobody reads the events
silent_world : (here : Context) (w : CycleWorld) → IsWorld here w → IsWorld here (record w { events = [] })
silent_world here w h = record {
  signals = h.signals;
  signals_range = h.signals_range;
  thresholds = h.thresholds;
  thresholds_kind = h.thresholds_kind;
  domain = h.domain;
  domain_range = h.domain_range;
  quantities = h.quantities;
  references = h.references;
  dots = h.dots;
  now = h.now;
}

silent_can : (here : Context) (w : CycleWorld) (ps : List Process) (ks : List Kept) → CanRun here w ps ks → CanRun here (record w { events = [] }) ps ks
silent_can here w ps ks h = record {
  processes = h.processes;
  few = h.few;
  count = h.count;
  world = silent_world here w h.world;
  waiting = h.waiting;
}

-- the parts with another world and other events
abbrev pub moved : KernelParts → World → List Event → KernelParts
moved k w events = record k { world = w; events = events }

can_moved : (k : KernelParts) (w : World) → context_of w ≡ context_of k.world → world_of w ≡ record (world_of k.world) { events = [] }
    → CanRun (context_of k.world) (world_of k.world) (objects_of k).processes k.kept.items → CanRun (context_of w) (world_of w) (context_of w).objects.processes k.kept.items
can_moved k w ec ew h =
    subst (λ (here : Context). CanRun here (world_of w) here.objects.processes k.kept.items) (sym ec)
    (subst (λ (v : CycleWorld). CanRun (context_of k.world) v (objects_of k).processes k.kept.items) (sym ew)
    (silent_can (context_of k.world) (world_of k.world) (objects_of k).processes k.kept.items h))

pub going_moved : (k : KernelParts) (w : World) (events : List Event) → context_of w ≡ context_of k.world → world_of w ≡ record (world_of k.world) { events = [] } → IsGoing k → IsGoing (moved k w events)
going_moved k w events ec ew g =
    let eo : (context_of w).objects ≡ objects_of k = ap (λ (here : Context). here.objects) ec in
    record {
      built = record {
        lists = record {
          waits = subst (λ (o : Objects). AreWaits o.processes k.waits) (sym eo) g.built.lists.waits;
          callers = subst (λ (o : Objects). AreCallers o k.callers) (sym eo) g.built.lists.callers;
          few = subst (λ (o : Objects). length o.processes < 2 ^ 32) (sym eo) g.built.lists.few;
        };
        resumed = subst (λ (o : Objects). k.resumed.items ≡ replicate (length o.processes) false) (sym eo) g.built.resumed;
      };
      can = can_moved k w ec ew g.can;
      timeouts = subst (λ (o : Objects). k.timeouts ≡ timeouts_of (states_kept o.processes k.kept.items)) (sym eo) g.timeouts;
    }

-- the state between cycles is the same
pub state_moved : (k : KernelParts) (w : World) (events : List Event) → context_of w ≡ context_of k.world → world_of w ≡ record (world_of k.world) { events = [] } → state_of (moved k w events) ≡ state_of k
state_moved k w events ec ew =
    ap (λ (here : Context). digital_of (first_digital here.objects) here.t w.timed (world_of w) (states_kept here.objects.processes k.kept.items)) ec
    ∙ ap (λ (v : CycleWorld). digital_of (first_digital (objects_of k)) (context_of k.world).t w.timed v (states_of k)) ew
    ∙ ap (λ (b : Bool). digital_of (first_digital (objects_of k)) (context_of k.world).t b (world_of k.world) (states_of k))
    (same_domain w.timed k.world.timed (ap (λ (v : CycleWorld). v.domain.value) ew))

-- where no other events were put in their place
pub silenced : (k : KernelParts) (w : World) (own : List Event) → own ≡ [] → local_of w ≡ record (local_of k.world) { world = record (world_of k.world) { events = own } } → world_of w ≡ record (world_of k.world) { events = [] }
silenced k w own empty e =
    ap (λ (l : Local). l.world) e ∙ ap (λ (events : List Event). record (world_of k.world) { events = events }) empty
