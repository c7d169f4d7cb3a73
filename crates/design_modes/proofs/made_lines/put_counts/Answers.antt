use Rattle.std.proofs.Common.{◌∷◌, []}
use Rattle.trace_text.specs.Trace.{end_line}
use Rattle.trace_sink.specs.PutsLaws.{puts_line, puts_then, puts_stops}
use Rattle.run_counts.specs.Counts.{counts_line}
use Rattle.design_modes.proofs.made_lines.put_counts.Goals as goal

pub returns-in-Ok : goal.returns-in-Ok
returns-in-Ok g c =
    puts_then c.in-Ok.field-0 c.put_end.result (counts_line c.args.size c.args.run.now.counts ∷ []) (end_line c.args.run.now.end ∷ []) _ _ _ _ _ _
    (puts_line _ _ _ _ _ _ c.in-Ok.ensures) (puts_line _ _ _ _ _ _ c.put_end.ensures)

pub returns : goal.returns
returns g c =
    puts_stops c.put_numbers.result c.in-Err.fault (counts_line c.args.size c.args.run.now.counts ∷ []) (end_line c.args.run.now.end ∷ []) _ _ _ _
    (puts_line _ _ _ _ _ _ c.put_numbers.ensures) c.in-Err.is
