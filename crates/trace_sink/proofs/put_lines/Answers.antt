use Rattle.trace_sink.specs.PutsLaws.{line_fails, written_line, written_rest, line_ahead}
use Rattle.std.proofs.Common.{arith}
use Rattle.trace_sink.proofs.put_lines.Goals as goal

pub returns-in-Err : goal.returns-in-Err
returns-in-Err g c =
    line_fails c.put_line.result c.in-Err.fault _ _ _ _ _ c.deref.result.now _ _ _
    (written_rest _ _ _ _ _ c.loop-line.invariant.written (line_ahead c.args.lines.now c.loop-line.line-index c.line-item.result c.deref.result.now c.loop-line-test.true c.line-item.is c.deref.ensures.value))
    c.put_line.ensures c.loop-line.invariant.later c.in-Err.is

pub loop-line-preserved : goal.loop-line-preserved
loop-line-preserved g c = record {
  written = written_line _ _ _ _ _ c.deref.result.now
      (written_rest _ _ _ _ _ c.loop-line.invariant.written (line_ahead c.args.lines.now c.loop-line.line-index c.line-item.result c.deref.result.now c.loop-line-test.true c.line-item.is c.deref.ensures.value))
      c.in-Ok.ensures.ok;
  later = let l = c.put_line.ensures.later in let m = c.loop-line.invariant.later in omega arith;
}
