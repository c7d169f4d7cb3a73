use Rattle.std.proofs.Common.{◌≤◌, drop}
use Rattle.trace_sink.specs.Puts.{Written}
use Rattle.trace_lines.specs.Lines.{event_lines}
use Rattle.trace_lines.proofs.event_lines.put_events.Given as goal

-- the lines so far are written
abbrev pub invariant-loop-event : goal.invariant-loop-event
invariant-loop-event g l =
    let sink = g.K.Sink in
    record {
      written : Written (sink.held l.fn.sink) (sink.held l.sink) (event_lines l.enums l.events) (event_lines l.enums (drop l.event-index l.events));
      later : sink.faults l.fn.sink ≤ sink.faults l.sink;
    }
