use Rattle.std.proofs.Common.{◌∙◌, ap}
use Rattle.trace_text.specs.Trace.{signal_line, threshold_line}
use Rattle.trace_sink.specs.PutsLaws.{puts_of, puts_then, puts_stops}
use Rattle.trace_lines.specs.Lines.{numbered_lines}
use Rattle.trace_lines.proofs.header_lines.put_names.Goals as goal

pub returns-in-Ok : goal.returns-in-Ok
returns-in-Ok g c =
    puts_then c.in-Ok.field-0 c.put_thresholds.result _ _ _ _ _ _ _ _
    (puts_of _ _ _ _ _ _ _ c.in-Ok.ensures (ap (numbered_lines signal_line 0) c.signals.ensures))
    (puts_of _ _ _ _ _ _ _ c.put_thresholds.ensures (ap (numbered_lines threshold_line 0) c.thresholds.ensures))

pub returns-in-Err : goal.returns-in-Err
returns-in-Err g c =
    puts_stops c.put_signals.result c.in-Err.fault _ _ _ _ _ _ (puts_of _ _ _ _ _ _ _ c.put_signals.ensures (ap (numbered_lines signal_line 0) c.signals.ensures)) c.in-Err.is
