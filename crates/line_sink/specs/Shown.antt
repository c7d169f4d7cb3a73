-- What a sink of lines shows, and what it took in.
use Rattle.std.specs.Prelude.{◌≡◌, ℕ, List, Option, Result, Ok, Err}
use Rattle.flat_design.specs.declared.objects.Enumeration.{Enumeration}
use Rattle.step_data.specs.declared.event.Event.{Event}
use Rattle.event_sink.specs.declared.SinkFault.{SinkFault}
use Rattle.event_sink.specs.declared.SinkFault.TheVariants as sink
use Rattle.trace_sink.specs.declared.TraceFault.{TraceFault}
use Rattle.trace_sink.specs.declared.TraceFault.TheVariants as trace
use Rattle.trace_sink.specs.Puts.{Puts}
use Rattle.trace_lines.specs.Lines.{event_lines}

-- the enumerations by which it writes, what its trace holds, and how often that failed
pub record Shown : Type 0 where
  pub enums : List Enumeration
  pub held : Option (List ℕ)
  pub faults : ℕ

abbrev pub shown : List Enumeration → Option (List ℕ) → ℕ → Shown
shown enums held faults = record { enums = enums; held = held; faults = faults }

-- a fault of the trace, and the other way round
abbrev pub fault_of : TraceFault → SinkFault
fault_of trace.WriteFault = sink.Failed
fault_of trace.Memory = sink.Memory

abbrev pub cause_of : SinkFault → TraceFault
cause_of sink.Failed = trace.WriteFault
cause_of sink.Memory = trace.Memory

abbrev pub told : Result (Unit {0}) TraceFault → Result (Unit {0}) SinkFault
told (Ok x) = Ok x
told (Err e) = Err (fault_of e)

-- the lines of these events were written
pub record Gained (a b : Shown) (events : List Event) : Type 0 where
  pub same : b.enums ≡ a.enums
  pub puts : Puts {T = Unit {0}} (Ok tt) (event_lines a.enums events) a.held b.held a.faults b.faults

-- a front of them was, until this fault
pub record Stopped (fault : SinkFault) (a b : Shown) (events : List Event) : Type 0 where
  pub same : b.enums ≡ a.enums
  pub puts : Puts {T = Unit {0}} (Err (cause_of fault)) (event_lines a.enums events) a.held b.held a.faults b.faults
