use Rattle.trace_sink.specs.PutsLaws.{puts_then, puts_stops}
use Rattle.trace_lines.proofs.header_lines.put_objects.Goals as goal

pub returns-in-Ok : goal.returns-in-Ok
returns-in-Ok g c = puts_then c.in-Ok.field-0 c.put_names.result _ _ _ _ _ _ _ _ c.in-Ok.ensures c.put_names.ensures

pub returns-in-Err : goal.returns-in-Err
returns-in-Err g c = puts_stops c.put_unknowns.result c.in-Err.fault _ _ _ _ _ _ c.put_unknowns.ensures c.in-Err.is
