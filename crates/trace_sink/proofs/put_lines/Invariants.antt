use Rattle.std.proofs.Common.{◌≤◌, map, drop, vec_items}
use Rattle.trace_sink.specs.Puts.{Written}
use Rattle.trace_sink.proofs.put_lines.Given as goal

-- the lines so far are written
abbrev pub invariant-loop-line : goal.invariant-loop-line
invariant-loop-line g l =
    let sink = g.K.Sink in
    record {
      written : Written (sink.held l.fn.sink) (sink.held l.sink) (map vec_items l.lines) (map vec_items (drop l.line-index l.lines));
      later : sink.faults l.fn.sink ≤ sink.faults l.sink;
    }
