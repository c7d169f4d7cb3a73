use Rattle.std.proofs.Common.{◌∷◌, []}
use Rattle.trace_sink.specs.PutsLaws.{puts_line, puts_then, puts_stops}
use Rattle.trace_lines.specs.Lines.{options_line}
use Rattle.trace_lines.proofs.header_lines.put_header.Goals as goal

pub returns-in-Ok : goal.returns-in-Ok
returns-in-Ok g c =
    puts_then c.in-Ok.field-0 c.put_objects.result (options_line c.args.top.now c.args.options.now ∷ []) _ _ _ _ _ _ _ (puts_line _ _ _ _ _ _ c.in-Ok.ensures) c.put_objects.ensures

pub returns-in-Err : goal.returns-in-Err
returns-in-Err g c =
    puts_stops c.put_options.result c.in-Err.fault (options_line c.args.top.now c.args.options.now ∷ []) _ _ _ _ _ (puts_line _ _ _ _ _ _ c.put_options.ensures) c.in-Err.is
