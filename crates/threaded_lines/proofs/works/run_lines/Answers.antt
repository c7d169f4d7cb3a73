use Rattle.std.proofs.Common.{◌≡◌, Result, OnOk, IfOk, sym, subst}
use Rattle.step_data.specs.declared.outcome.End.{End}
use Rattle.lockstep_model.specs.Lockstep.{lockstep}
use Rattle.lockstep_model.specs.Works.{events_of}
use Rattle.trace_sink.specs.declared.TraceFault.{TraceFault}
use Rattle.trace_sink.specs.Puts.{Puts}
use Rattle.trace_lines.specs.Lines.{event_lines}
use Rattle.line_sink.specs.Shown.{shown}
use Rattle.threaded_run.specs.Telling.{Reported}
use Rattle.threaded_lines.specs.EndLaws.{run_puts, run_end, run_report}
use Rattle.threaded_lines.proofs.works.run_lines.Goals as goal

pub returns-clause-puts : goal.returns-clause-puts
returns-clause-puts g c =
    let sink = g.W.Sink in
    let ran = c.run-ran.result in
    let events = events_of (lockstep (g.D.Design.system 0)).works in
    let a = shown c.args.enums.now (sink.held c.args.trace) (sink.faults c.args.trace) in
    let b = shown ran.sink.enums.now (sink.held ran.sink.trace) (sink.faults ran.sink.trace) in
    subst (λ (r : Result End TraceFault). Puts r (event_lines a.enums events) a.held b.held a.faults b.faults) (sym c.ended_as-ended.ensures)
    (run_puts ran.ended a b events c.run-ran.ensures.told.events c.run-ran.ensures.told.front)

pub returns-clause-end : goal.returns-clause-end
returns-clause-end g c =
    let end = (lockstep (g.D.Design.system 0)).end in
    subst (λ (r : Result End TraceFault). IfOk r (λ told. told ≡ end)) (sym c.ended_as-ended.ensures) (run_end c.run-ran.result.ended end c.run-ran.ensures.told.end)

pub returns-clause-report : goal.returns-clause-report
returns-clause-report g c =
    let works = (lockstep (g.D.Design.system 0)).works in
    let ran = c.run-ran.result in
    subst (λ (r : Result End TraceFault). OnOk r (Reported works ran.own c.counts_of-counts.result)) (sym c.ended_as-ended.ensures)
    (run_report ran.ended works ran.own ran.timeline.line.journal.counts c.counts_of-counts.result c.counts_of-counts.ensures c.run-ran.ensures.report)
