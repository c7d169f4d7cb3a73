-- What the runs of processes leave.
use Rattle.std.proofs.Common.{◌≡◌, refl, ap, sym, ◌∙◌, subst, ℕ, suc, ◌<◌, ◌^◌, Bool, true, false, List, [], ◌∷◌, length, Err, arith}
use Rattle.std.specs.Prelude.{replicate}
use Rattle.flat_design.specs.declared.objects.Objects.{Objects}
use Rattle.flat_design.specs.declared.objects.Process.{Process}
use Rattle.step_model.specs.System.{ProcessState, Digital}
use Rattle.cycle_meaning.specs.World.{World as CycleWorld, Context}
use Rattle.cycle_meaning.specs.Cycles.{Ran_of, all_ran, one_refused, first_digital, digital_of, ended}
use Rattle.statement_lists.specs.declared.fault.ListFault.{ListFault}
use Rattle.statement_lists.specs.declared.fault.ListFault.TheVariants as fault
use Rattle.proc_exec.specs.Running.{IsFront}
use Rattle.kernel_world.specs.Acting.{context_of, world_of}
use Rattle.kernel_world.specs.Reading.{domain_value}
use Rattle.next_cycle.specs.Next.{timeouts_of}
use Rattle.process_runs.specs.Kept.{Kept, numbered, states_kept, CanRun}
use Rattle.process_runs.specs.Ran.{AllEnd, events_in}
use Rattle.resumption.specs.Waits.{AreWaits}
use Rattle.resumption.specs.declared.waits.Waits.{Waits}
use Rattle.process_callers.specs.Callers.{Lists}
use Rattle.cycle_parts.specs.Left.{IsStateLeft}
use Rattle.kernel_state.specs.declared.parts.KernelParts.{KernelParts}
use Rattle.kernel_state.specs.Lists.{AreCallers}
use Rattle.kernel_state.specs.State.{objects_of, state_of, HasLists, IsGoing}
use Rattle.kernel_cycle.specs.Ending.{IsCycled, CycleEnds}
use Rattle.kernel_cycle.proofs.Fronts.{front_is}

-- ---- the runs end early

events_so : (r : Ran_of) (d : Digital) (t : ℕ) (timed : Bool) → events_in r ≡ (ended d t timed r).events
events_so (all_ran w states) d t timed = refl
events_so (one_refused w r) d t timed = refl

pub ends_early : (d : Digital) (t : ℕ) (timed : Bool) (r : Ran_of) (k : KernelParts) (w : CycleWorld) (states : List ProcessState) (f : ListFault) → world_of k.world ≡ w → AllEnd r w states (Err f) → CycleEnds (ended d t timed r) k (Err f)
ends_early d t timed r k w states (fault.Refused x) e h =
    (ap (λ (q : Ran_of). (ended d t timed q).ran) h, ap (λ (v : CycleWorld). v.events) e ∙ sym (ap (λ (q : Ran_of). (ended d t timed q).events) h))
ends_early d t timed r k w states fault.Memory e h =
    subst (λ (v : CycleWorld). IsFront v.events (ended d t timed r).events) (sym e) (subst (IsFront w.events) (events_so r d t timed) h)

-- no memory behind the runs
pub ends_behind : (d : Digital) (t : ℕ) (timed : Bool) (r : Ran_of) (w : CycleWorld) (states : List ProcessState) → r ≡ all_ran w states → IsFront w.events (ended d t timed r).events
ends_behind d t timed r w states e = front_is w.events (ended d t timed r).events (ap (λ (q : Ran_of). (ended d t timed q).events) e)

-- ---- all wait again

pub moment_stays : (here first : Context) → numbered here 0 ≡ numbered first 0 → here.t ≡ first.t
moment_stays here first e = ap (λ (h : Context). h.t) e

pub objects_stay : (here first : Context) → numbered here 0 ≡ numbered first 0 → here.objects ≡ first.objects
objects_stay here first e = ap (λ (h : Context). h.objects) e

pub lists_stay : (j k : KernelParts) → objects_of k ≡ objects_of j → k.waits ≡ j.waits → k.callers ≡ j.callers → HasLists j → HasLists k
lists_stay j k eo ew ec h = record {
  waits = subst (λ (o : Objects). AreWaits o.processes k.waits) (sym eo) (subst (λ (w : Waits). AreWaits (objects_of j).processes w) (sym ew) h.waits);
  callers = subst (λ (o : Objects). AreCallers o k.callers) (sym eo) (subst (λ (c : Lists). AreCallers (objects_of j) c) (sym ec) h.callers);
  few = subst (λ (o : Objects). length o.processes < 2 ^ 32) (sym eo) h.few;
}

pub going : (objects : Objects) (k : KernelParts) → objects_of k ≡ objects → HasLists k → k.resumed.items ≡ replicate (length objects.processes) false
    → CanRun (context_of k.world) (world_of k.world) objects.processes k.kept.items → k.timeouts ≡ timeouts_of (states_kept objects.processes k.kept.items) → IsGoing k
going objects k eo lists resumed can timeouts = record {
  built = record { lists = lists; resumed = resumed ∙ ap (λ (o : Objects). replicate (length o.processes) false) (sym eo) };
  can = subst (λ (o : Objects). CanRun (context_of k.world) (world_of k.world) o.processes k.kept.items) (sym eo) can;
  timeouts = timeouts ∙ ap (λ (o : Objects). timeouts_of (states_kept o.processes k.kept.items)) (sym eo);
}

-- the state that is kept
state_so : (objects : Objects) (k : KernelParts) (t : ℕ) (timed : Bool) → objects_of k ≡ objects → (context_of k.world).t ≡ t → k.world.timed ≡ timed
    → state_of k ≡ digital_of (first_digital objects) t timed (world_of k.world) (states_kept objects.processes k.kept.items)
state_so objects k t timed eo et ed =
    ap (λ (o : Objects). digital_of (first_digital o) (context_of k.world).t k.world.timed (world_of k.world) (states_kept o.processes k.kept.items)) eo
    ∙ ap (λ (u : ℕ). digital_of (first_digital objects) u k.world.timed (world_of k.world) (states_kept objects.processes k.kept.items)) et
    ∙ ap (λ (b : Bool). digital_of (first_digital objects) t b (world_of k.world) (states_kept objects.processes k.kept.items)) ed

pub cycled : IsStateLeft → (objects : Objects) (d : Digital) (t : ℕ) (timed : Bool) (e : Ran_of) (k : KernelParts) → d.ramps ≡ (first_digital objects).ramps
    → objects_of k ≡ objects → (context_of k.world).t ≡ t → k.world.timed ≡ timed → e ≡ all_ran (world_of k.world) (states_kept objects.processes k.kept.items) → IsGoing k → IsCycled (ended d t timed e) k
cycled law objects d t timed e k ramps eo et ed ran goes =
    let left = law objects d t timed e (world_of k.world) (states_kept objects.processes k.kept.items) ramps ran in
    record {
      ran = left.ran;
      digital = state_so objects k t timed eo et ed ∙ left.digital;
      events = sym left.events;
      going = goes;
    }

-- ---- states

pub states_length : (ps : List Process) (ks : List Kept) → length ks ≡ length ps → length (states_kept ps ks) ≡ length ps
states_length [] ks h = refl
states_length (p ∷ ps) [] h = absurd (omega (arith, h))
states_length (p ∷ ps) (k ∷ ks) h = ap suc (states_length ps ks (omega (arith, h)))

pub times_length : (states : List ProcessState) → length (timeouts_of states) ≡ length states
times_length [] = refl
times_length (s ∷ states) = ap suc (times_length states)

-- DOMAIN has one of two values
pub same_domain : (a b : Bool) → domain_value a ≡ domain_value b → a ≡ b
same_domain true true e = refl
same_domain true false e = absurd (cc)
same_domain false true e = absurd (cc)
same_domain false false e = refl
