-- The events at the beginning of a cycle.
use Rattle.std.specs.Prelude.{ℕ, Bool, List, ◌++◌}
use Rattle.step_data.specs.declared.event.Event.{Event}
use Rattle.step_data.specs.declared.event.Event.TheVariants.{Domain}
use Rattle.design_meaning.specs.Readings.{Seen}
use Rattle.cycle_meaning.specs.Cycles.{event_if, crossings, signal_events}

-- the events of DOMAIN, of the thresholds and of the signals
abbrev pub events_of : Bool → ℕ → ℕ → List Seen → List Seen → List Event
events_of to_time t n thresholds signals = event_if to_time (Domain t n) ++ crossings t n 0 thresholds ++ signal_events t n 0 signals
