-- Which processes the events and the timeouts of a cycle call.
use Rattle.std.specs.Prelude.{◌≡◌, ℕ, Bool, if◌then◌else◌, List, [], ◌++◌, length, map, drop, Option, None}
use Rattle.std.specs.List.{slice_index_or, flat_map}
use Rattle.step_data.specs.declared.event.Event.{Event}
use Rattle.step_data.specs.declared.event.Event.TheVariants as event
use Rattle.cycle_meaning.specs.World.{World}
use Rattle.cycle_meaning.specs.Cycles.{event_if, crossings, signal_events}
use Rattle.agenda.specs.Times.{is_time}
use Rattle.resumption.specs.Sleeps.{Sleep}
use Rattle.process_callers.specs.Callers.{Lists}

-- the list of the name that an event is of
abbrev pub heard : Lists → Event → List ℕ
heard c (event.Domain t n) = c.domain
heard c (event.Cross t n k on) = slice_index_or c.thresholds k []
heard c (event.Signal t n i value) = slice_index_or c.signals i []
heard c _ = []

-- those of the events from a place on
abbrev pub heard_from : Lists → ℕ → List Event → List ℕ
heard_from c from events = flat_map (heard c) (drop from events)

-- a time that is due is taken out
abbrev pub unless_due : ℕ → Option ℕ → Option ℕ
unless_due t at = if is_time at t then None else at

-- the events at the beginning of a cycle, whose lists these are
pub record AreEvents (c : Lists) (w : World) (t n : ℕ) (events : List Event) : Type 0 where
  pub signals : length w.signals ≡ length c.signals
  pub thresholds : length w.thresholds ≡ length c.thresholds
  pub events_are : events ≡ event_if w.domain.event (event.Domain t n) ++ crossings t n 0 w.thresholds ++ signal_events t n 0 w.signals
