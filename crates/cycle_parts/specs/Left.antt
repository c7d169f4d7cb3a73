-- What the runs of a cycle leave.
use Rattle.std.specs.Prelude.{◌≡◌, ℕ, Bool, List, if◌then◌else◌}
use Rattle.flat_design.specs.declared.objects.Objects.{Objects}
use Rattle.flat_design.specs.declared.objects.Process.{Process}
use Rattle.step_data.specs.declared.event.Event.{Event}
use Rattle.step_data.specs.declared.outcome.Ran.TheVariants.{Done}
use Rattle.step_model.specs.System.{ProcessState, Digital}
use Rattle.cycle_meaning.specs.World.{World, Context, Local}
use Rattle.cycle_meaning.specs.Cycles.{Ran_of, all_ran, run_all, digital_of, first_digital, ended}
use Rattle.ams_value.specs.declared.val.Val.{Val}
use Rattle.design_meaning.specs.Reading.{quiescent_domain, time_domain}

-- ---- events that are lent out

abbrev pub with_events : Local → List Event → Local
with_events l events = record l { world = record l.world { events = events } }

-- while they are out there are others in their place
abbrev pub EventsAreGivenBack : Type 0
EventsAreGivenBack =
    (before lent after : Local) (others events : List Event) → lent ≡ with_events before others → events ≡ before.world.events → after ≡ with_events lent events → after ≡ before

-- ---- DOMAIN

-- its value, of which only the turn is kept (IEEE 1076.1, predefined signal DOMAIN)
abbrev pub value_of_turn : Bool → Val
value_of_turn timed = if timed then time_domain else quiescent_domain

-- whatever is kept of DOMAIN's value before and behind the runs, is the same
abbrev pub DomainStays : Type 0
DomainStays =
    (at : ℕ → Context) (k : ℕ) (ps : List Process) (states after : List ProcessState) (resumed : List Bool) (w left : World) (before behind event later : Bool)
    → run_all at k ps states resumed w ≡ all_ran left after → w.domain ≡ record { value = value_of_turn before; event = event } → left.domain ≡ record { value = value_of_turn behind; event = later } → behind ≡ before

-- ---- the state

-- the state that is known from its parts: of the state before nothing is kept, where its ramps are those before the start
abbrev pub state_from : Objects → ℕ → Bool → World → List ProcessState → Digital
state_from objects t timed w states = digital_of (first_digital objects) t timed w states

-- is that behind a cycle, which has run and broke what it says
pub record StateIsLeft (objects : Objects) (d : Digital) (t : ℕ) (timed : Bool) (e : Ran_of) (w : World) (states : List ProcessState) : Type 0 where
  pub digital : state_from objects t timed w states ≡ (ended d t timed e).digital
  pub ran : (ended d t timed e).ran ≡ Done w.broke
  pub events : (ended d t timed e).events ≡ w.events

abbrev pub IsStateLeft : Type 0
IsStateLeft =
    (objects : Objects) (d : Digital) (t : ℕ) (timed : Bool) (e : Ran_of) (w : World) (states : List ProcessState)
    → d.ramps ≡ (first_digital objects).ramps → e ≡ all_ran w states → StateIsLeft objects d t timed e w states
