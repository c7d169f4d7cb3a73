use Rattle.lockstep_model.specs.Lockstep.{lockstep}
use Rattle.lockstep_model.specs.Works.{events_of}
use Rattle.std.proofs.Common.{◌∷◌, []}
use Rattle.trace_text.specs.Trace.{end_line}
use Rattle.trace_sink.specs.PutsLaws.{puts_stops}
use Rattle.trace_lines.specs.Lines.{event_lines}
use Rattle.threaded_lines.specs.EndLaws.{work_puts, work_end}
use Rattle.threaded_trace.specs.Fitting.{fits_if, fits_then, within_of}
use Rattle.threaded_trace.proofs.whole.write_works.Goals as goal

pub returns-in-Ok-clause-puts : goal.returns-in-Ok-clause-puts
returns-in-Ok-clause-puts g c =
    let run = lockstep (g.D.Design.system 0) in
    work_puts c.run_lines-lined.result.ended c.end_with-ended.result.0 c.in-Ok.end run.end (event_lines c.args.enums.now (events_of run.works)) _ _ _ _ _ _
    c.in-Ok.is c.run_lines-lined.ensures.end c.run_lines-lined.ensures.puts c.end_with-ended.ensures.puts

pub returns-in-Ok-clause-end : goal.returns-in-Ok-clause-end
returns-in-Ok-clause-end g c =
    work_end c.run_lines-lined.result.ended c.end_with-ended.result.0 c.in-Ok.end (lockstep (g.D.Design.system 0)).end c.in-Ok.is c.run_lines-lined.ensures.end c.end_with-ended.ensures.end

pub returns-in-Ok-clause-fits : goal.returns-in-Ok-clause-fits
returns-in-Ok-clause-fits g c =
    let lined = c.run_lines-lined.result in
    let told = c.run_lines-lined.ensures in
    let works = (lockstep (g.D.Design.system 0)).works in
    fits_then lined.ended c.end_with-ended.result.0 c.in-Ok.end works lined.own lined.counts c.in-Ok.is
    (fits_if lined.ended works lined.own lined.counts (g.D.Design.system 0) lined.timeline.line told.report told.published told.counts told.holds)

pub returns-in-Ok-clause-within : goal.returns-in-Ok-clause-within
returns-in-Ok-clause-within g c = within_of (g.D.Design.system 0) c.run_lines-lined.result.timeline.line c.run_lines-lined.ensures.holds

pub returns-in-Err-clause-within : goal.returns-in-Err-clause-within
returns-in-Err-clause-within g c = within_of (g.D.Design.system 0) c.run_lines-lined.result.timeline.line c.run_lines-lined.ensures.holds

pub returns-in-Err-clause-puts : goal.returns-in-Err-clause-puts
returns-in-Err-clause-puts g c =
    let run = lockstep (g.D.Design.system 0) in
    puts_stops c.run_lines-lined.result.ended c.in-Err.fault (event_lines c.args.enums.now (events_of run.works)) (end_line run.end ∷ []) _ _ _ _ c.run_lines-lined.ensures.puts c.in-Err.is
