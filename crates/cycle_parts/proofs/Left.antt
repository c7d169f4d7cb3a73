-- What the runs of a cycle leave.
use Rattle.std.proofs.Common.{◌≡◌, refl, ap, sym, ◌∙◌, ℕ, Bool, true, false, List}
use Rattle.flat_design.specs.declared.objects.Objects.{Objects}
use Rattle.step_model.specs.System.{ProcessState, Digital}
use Rattle.design_meaning.specs.Readings.{Seen}
use Rattle.cycle_meaning.specs.World.{World, Local}
use Rattle.cycle_meaning.specs.Cycles.{Ran_of, digital_of, first_digital, ended}
use Rattle.run_laws.specs.Changes.{world_behind, RunsChange}
use Rattle.cycle_parts.specs.Left.{value_of_turn, with_events, EventsAreGivenBack, DomainStays, IsStateLeft}

pub given_back : EventsAreGivenBack
given_back a b z e f eb ef ez = ez ∙ ap (λ (l : Local). with_events l f) eb ∙ ap (with_events a) ef

-- DOMAIN has one of two values
same_domain : (a b : Bool) → value_of_turn a ≡ value_of_turn b → a ≡ b
same_domain true true e = refl
same_domain true false e = absurd (cc)
same_domain false true e = absurd (cc)
same_domain false false e = refl

pub stays : RunsChange → DomainStays
stays law at k ps states after bs w left a b e f ran before now =
    same_domain b a (ap (λ (s : Seen). s.value) (sym now ∙ sym (ap (λ r. (world_behind r).domain) ran) ∙ (law at k ps states bs w).domain ∙ before))

-- behind all that ran
left_by_all : (objects : Objects) (d : Digital) (t : ℕ) (timed : Bool) (w : World) (states : List ProcessState) → d.ramps ≡ (first_digital objects).ramps
    → digital_of (first_digital objects) t timed w states ≡ digital_of d t timed w states
left_by_all objects d t timed w states e = ap (λ (r : List Bool). record (digital_of (first_digital objects) t timed w states) { ramps = r }) (sym e)

pub state_left : IsStateLeft
state_left objects d t timed e w states ramps ran = record {
  digital = left_by_all objects d t timed w states ramps ∙ sym (ap (λ (q : Ran_of). (ended d t timed q).digital) ran);
  ran = ap (λ (q : Ran_of). (ended d t timed q).ran) ran;
  events = ap (λ (q : Ran_of). (ended d t timed q).events) ran;
}
