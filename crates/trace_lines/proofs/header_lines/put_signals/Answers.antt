use Rattle.std.proofs.Common.{◌+◌, drop, arith}
use Rattle.trace_text.specs.Trace.{signal_line}
use Rattle.trace_sink.specs.PutsLaws.{line_fails, written_line, written_rest}
use Rattle.trace_lines.proofs.UnknownLines.{numbered_ahead}
use Rattle.trace_lines.proofs.header_lines.put_signals.Goals as goal

pub returns-in-Err : goal.returns-in-Err
returns-in-Err g c =
    line_fails c.put_signal.result c.in-Err.fault _ _ _ _ _ _ _ _ _
    (written_rest _ _ _ _ _ c.loop-number.invariant.written (numbered_ahead signal_line c.args.signals.now c.loop-number.number c.index-signals-number.result c.loop-number-test.true c.index-signals-number.is))
    c.put_signal.ensures c.loop-number.invariant.later c.in-Err.is

pub loop-number-preserved : goal.loop-number-preserved
loop-number-preserved g c = record {
  written = written_line _ _ _ _ _ _
      (written_rest _ _ _ _ _ c.loop-number.invariant.written (numbered_ahead signal_line c.args.signals.now c.loop-number.number c.index-signals-number.result c.loop-number-test.true c.index-signals-number.is))
      c.in-Ok.ensures.ok;
  later = let l = c.put_signal.ensures.later in let m = c.loop-number.invariant.later in omega arith;
}
