use Rattle.std.proofs.Common.{◌++◌, ◌∷◌, [], ap}
use Rattle.lockstep_model.specs.Works.{events_of}
use Rattle.trace_text.specs.Trace.{end_line}
use Rattle.trace_sink.specs.PutsLaws.{puts_of, puts_line, puts_then, puts_stops}
use Rattle.trace_lines.specs.Lines.{event_lines}
use Rattle.replay_run.proofs.whole.write_works.Goals as goal

pub returns-in-Ok-clause-puts : goal.returns-in-Ok-clause-puts
returns-in-Ok-clause-puts g c =
    let es = event_lines c.args.enums.now (events_of c.args.core.now.led.walk.works) in
    puts_of _ (es ++ end_line c.in-Ok.end ∷ []) _ _ _ _ _
    (puts_then c.in-Ok.end c.end_with.result es (end_line c.in-Ok.end ∷ []) _ _ _ _ _ _ c.in-Ok.ensures.puts (puts_line _ _ _ _ _ _ c.end_with.ensures.puts))
    (ap (λ e. es ++ end_line e ∷ []) c.in-Ok.ensures.end)

pub returns-clause-puts : goal.returns-clause-puts
returns-clause-puts g c =
    puts_stops c.put_steps.result c.in-Err.fault (event_lines c.args.enums.now (events_of c.args.core.now.led.walk.works)) (end_line c.args.core.now.led.walk.end ∷ []) _ _ _ _ c.put_steps.ensures.puts c.in-Err.is
