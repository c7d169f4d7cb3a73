use Rattle.std.proofs.Common.{◌+◌, drop, ap, sym, ◌∙◌, arith}
use Rattle.std.proofs.lemmas.List.{drop_more}
use Rattle.trace_text.specs.Trace.{event_line}
use Rattle.trace_sink.specs.PutsLaws.{line_fails, written_line, written_rest}
use Rattle.trace_lines.specs.Lines.{event_lines}
use Rattle.trace_lines.proofs.UnknownLines.{event_ahead}
use Rattle.trace_lines.proofs.event_lines.put_events.Goals as goal

pub returns-in-Err : goal.returns-in-Err
returns-in-Err g c =
    line_fails c.put_event.result c.in-Err.fault _ _ _ _ _ _ _ _ _
    (written_rest _ _ _ _ _ c.loop-event.invariant.written (event_ahead c.args.enums.now c.args.events.now c.loop-event.event-index c.event-item.result c.loop-event-test.true c.event-item.is))
    c.put_event.ensures c.loop-event.invariant.later c.in-Err.is

pub loop-event-preserved : goal.loop-event-preserved
loop-event-preserved g c = record {
  written = written_line _ _ _ _ _ _
      (written_rest _ _ _ _ _ c.loop-event.invariant.written (event_ahead c.args.enums.now c.args.events.now c.loop-event.event-index c.event-item.result c.loop-event-test.true c.event-item.is))
      c.in-Ok.ensures.ok;
  later = let l = c.put_event.ensures.later in let m = c.loop-event.invariant.later in omega arith;
}
