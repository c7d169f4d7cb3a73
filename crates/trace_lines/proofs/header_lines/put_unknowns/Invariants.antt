use Rattle.std.proofs.Common.{◌≤◌, drop}
use Rattle.flat_design.specs.Order.{unknowns}
use Rattle.trace_text.specs.Trace.{unknown_line}
use Rattle.trace_sink.specs.Puts.{Written}
use Rattle.trace_lines.specs.Lines.{numbered_lines}
use Rattle.trace_lines.proofs.header_lines.put_unknowns.Given as goal

-- the lines so far are written
abbrev pub invariant-loop-number : goal.invariant-loop-number
invariant-loop-number g l =
    let sink = g.K.Sink in
    record {
      written : Written (sink.held l.fn.sink) (sink.held l.sink) (numbered_lines (unknown_line l.flat) 0 (unknowns l.flat)) (numbered_lines (unknown_line l.flat) l.number (drop l.number (unknowns l.flat)));
      later : sink.faults l.fn.sink ≤ sink.faults l.sink;
    }
