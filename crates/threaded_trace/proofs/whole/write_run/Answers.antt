use Rattle.std.proofs.Common.{ap}
use Rattle.lockstep_model.specs.Lockstep.{lockstep}
use Rattle.lockstep_model.specs.Works.{events_of}
use Rattle.trace_sink.specs.PutsLaws.{puts_of, puts_then, puts_stops}
use Rattle.trace_lines.specs.Lines.{header_lines, work_lines}
use Rattle.threaded_trace.proofs.whole.write_run.Goals as goal

pub returns-in-Ok-clause-puts : goal.returns-in-Ok-clause-puts
returns-in-Ok-clause-puts g c =
    let run = lockstep (g.D.Design.system 0) in
    let head = header_lines c.args.flat.now c.args.top.now c.args.options.now in
    puts_then c.in-Ok.field-0 c.write_works.result.ended head (work_lines c.args.flat.now.enumerations (events_of run.works) run.end) _ _ _ _ _ _ c.in-Ok.ensures
    (puts_of _ _ _ _ _ _ _ c.write_works.ensures.puts (ap (λ enums. work_lines enums (events_of run.works) run.end) c.enumerations.ensures))

pub returns-in-Err-clause-puts : goal.returns-in-Err-clause-puts
returns-in-Err-clause-puts g c =
    let run = lockstep (g.D.Design.system 0) in
    puts_stops c.put_header.result c.in-Err.fault (header_lines c.args.flat.now c.args.top.now c.args.options.now) (work_lines c.args.flat.now.enumerations (events_of run.works) run.end) _ _ _ _ c.put_header.ensures c.in-Err.is
