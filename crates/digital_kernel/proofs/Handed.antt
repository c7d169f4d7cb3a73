-- What was handed on, by how a start or a cycle ended.
use Rattle.std.proofs.Common.{◌≡◌, sym, ap, subst, ◌∙◌, List, [], ◌++◌, Result, Ok, Err, append_assoc}
use Rattle.std.specs.Prelude.{IsErr}
use Rattle.std.proofs.lemmas.List.{append-nil}
use Rattle.step_data.specs.declared.event.Event.{Event}
use Rattle.step_data.specs.declared.outcome.Refusal.{Refusal}
use Rattle.step_data.specs.declared.outcome.Ran.{Ran}
use Rattle.step_data.specs.declared.outcome.Ran.TheVariants.{Done, Refused}
use Rattle.step_model.specs.System.{CycleOutcome}
use Rattle.step_model.specs.Kernel.{AddsFront, IsPrefixOf}
use Rattle.cycle_meaning.specs.World.{World as CycleWorld}
use Rattle.statement_lists.specs.declared.fault.ListFault.{ListFault}
use Rattle.statement_lists.specs.declared.fault.ListFault.TheVariants as fault
use Rattle.kernel_world.specs.Acting.{world_of}
use Rattle.kernel_state.specs.State.{state_of, IsGoing}
use Rattle.kernel_state.specs.declared.parts.KernelParts.{KernelParts}
use Rattle.kernel_cycle.specs.Ending.{CycleEnds, IsCycled}
use Rattle.digital_kernel.specs.Handing.{IsAnswer, HandsOn}

-- the parts between two cycles before and behind it
pub record Moved (k after : KernelParts) : Type 0 where
  pub world : world_of after.world ≡ record (world_of k.world) { events = [] }
  pub state : state_of after ≡ state_of k
  pub going : IsGoing k → IsGoing after

when_done : {E : Type 0} (e : CycleOutcome) (k after : KernelParts) (old new : List Event) (r : Result Ran E) → IsCycled e k → r ≡ Ok (Done (world_of after.world).broke)
    → new ≡ old ++ (world_of k.world).events → Moved k after → HandsOn e after old new r
when_done {E} e k after old new r h is given m =
    let broke : (world_of after.world).broke ≡ (world_of k.world).broke = ap (λ (w : CycleWorld). w.broke) m.world in
    subst (λ (q : Result Ran E). HandsOn e after old new q) (sym is)
    (record {
      ran = ap Done broke ∙ sym h.ran;
      given = given ∙ ap (λ (l : List Event). old ++ l) h.events;
      front = tt;
      left = λ _. record {
        ran = h.ran ∙ ap Done (sym broke);
        digital = m.state ∙ h.digital;
        going = m.going h.going;
        idle = ap (λ (w : CycleWorld). w.events) m.world;
      };
    })

when_refused : {E : Type 0} (e : CycleOutcome) (k after : KernelParts) (old new : List Event) (r : Result Ran E) (f : Refusal) → e.ran ≡ Refused f → (world_of k.world).events ≡ e.events → r ≡ Ok (Refused f)
    → new ≡ old ++ (world_of k.world).events → HandsOn e after old new r
when_refused {E} e k after old new r f ran events is given =
    subst (λ (q : Result Ran E). HandsOn e after old new q) (sym is)
    (record {
      ran = sym ran;
      given = given ∙ ap (λ (l : List Event). old ++ l) events;
      front = tt;
      left = λ h. absurd (cc);
    })

when_lost : {E : Type 0} (e : CycleOutcome) (after : KernelParts) (old new : List Event) (r : Result Ran E) → IsErr r → AddsFront old new e.events → HandsOn e after old new r
when_lost e after old new (Ok a) is front = absurd (cc)
when_lost e after old new (Err x) is front = record { ran = tt; given = tt; front = front; left = λ h. absurd (cc) }

-- all events of the world are handed on
pub hands_all : {E : Type 0} (e : CycleOutcome) (k after : KernelParts) (old new : List Event) (ended : Result Unit ListFault) (r : Result Ran E) → CycleEnds e k ended → IsAnswer ended (world_of after.world).broke r
    → new ≡ old ++ (world_of k.world).events → Moved k after → HandsOn e after old new r
hands_all e k after old new (Ok u) r ends is given m = when_done e k after old new r ends is given m
hands_all e k after old new (Err (fault.Refused f)) r ends is given m = when_refused e k after old new r f ends.0 ends.1 is given
hands_all e k after old new (Err fault.Memory) r ends is given m =
    when_lost e after old new r is (record { front = (world_of k.world).events; is_front = (ends.0, sym ends.1); new_is = given })

-- those of the world are at the front of the definition's, however it ended
at_front : (e : CycleOutcome) (k : KernelParts) (ended : Result Unit ListFault) → CycleEnds e k ended → IsPrefixOf (world_of k.world).events e.events
at_front e k (Ok u) ends = ([], append-nil (world_of k.world).events ∙ ends.events)
at_front e k (Err (fault.Refused f)) ends = ([], append-nil (world_of k.world).events ∙ ends.1)
at_front e k (Err fault.Memory) ends = (ends.0, sym ends.1)

front_of_front : (a b c : List Event) → IsPrefixOf a b → IsPrefixOf b c → IsPrefixOf a c
front_of_front a b c f g = (f.0 ++ g.0, sym (append_assoc a f.0 g.0) ∙ ap (λ (l : List Event). l ++ g.0) f.1 ∙ g.1)

-- only a front of them was handed on
pub hands_front : {E : Type 0} (e : CycleOutcome) (k after : KernelParts) (old new : List Event) (ended : Result Unit ListFault) (r : Result Ran E) → CycleEnds e k ended → IsErr r
    → AddsFront old new (world_of k.world).events → HandsOn e after old new r
hands_front e k after old new ended r ends is added =
    when_lost e after old new r is
    (record { front = added.front; is_front = front_of_front added.front (world_of k.world).events e.events added.is_front (at_front e k ended ends); new_is = added.new_is })
