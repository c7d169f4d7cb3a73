use Rattle.std.proofs.Common.{◌≤◌, drop}
use Rattle.trace_text.specs.Trace.{signal_line}
use Rattle.trace_sink.specs.Puts.{Written}
use Rattle.trace_lines.specs.Lines.{numbered_lines}
use Rattle.trace_lines.proofs.header_lines.put_signals.Given as goal

-- the lines so far are written
abbrev pub invariant-loop-number : goal.invariant-loop-number
invariant-loop-number g l =
    let sink = g.K.Sink in
    record {
      written : Written (sink.held l.fn.sink) (sink.held l.sink) (numbered_lines signal_line 0 l.signals) (numbered_lines signal_line l.number (drop l.number l.signals));
      later : sink.faults l.fn.sink ≤ sink.faults l.sink;
    }
