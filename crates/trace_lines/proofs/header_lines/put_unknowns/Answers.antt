use Rattle.std.proofs.Common.{◌≡◌, ◌<◌, arith}
use Rattle.flat_design.specs.Order.{unknown_count}
use Rattle.trace_sink.specs.PutsLaws.{line_fails, written_line, written_rest}
use Rattle.trace_lines.proofs.UnknownLines.{unknown_ahead}
use Rattle.trace_lines.proofs.header_lines.put_unknowns.Goals as goal

pub returns-in-Err : goal.returns-in-Err
returns-in-Err g c =
    let within : c.loop-number.number < unknown_count c.args.flat.now = omega arith in
    line_fails c.put_unknown.result c.in-Err.fault _ _ _ _ _ _ _ _ _
    (written_rest _ _ _ _ _ c.loop-number.invariant.written (unknown_ahead c.numbers_find_unknowns.ensures c.args.flat.now c.loop-number.number within))
    c.put_unknown.ensures c.loop-number.invariant.later c.in-Err.is

pub loop-number-preserved : goal.loop-number-preserved
loop-number-preserved g c =
    let within : c.loop-number.number < unknown_count c.args.flat.now = omega arith in
    record {
      written = written_line _ _ _ _ _ _
          (written_rest _ _ _ _ _ c.loop-number.invariant.written (unknown_ahead c.numbers_find_unknowns.ensures c.args.flat.now c.loop-number.number within))
          c.in-Ok.ensures.ok;
      later = let l = c.put_unknown.ensures.later in let m = c.loop-number.invariant.later in omega arith;
    }
