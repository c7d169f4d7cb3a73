use Rattle.trace_sink.specs.PutsLaws.{puts_value}
use Rattle.design_modes.proofs.Runs.{puts_fault}
use Rattle.design_modes.proofs.made_lines.put_run.Goals as goal

pub returns-in-Ok-clause-puts : goal.returns-in-Ok-clause-puts
returns-in-Ok-clause-puts g c = puts_value c.in-Ok.field-0 _ _ _ _ _ _ c.in-Ok.ensures

pub returns-in-Err-clause-puts : goal.returns-in-Err-clause-puts
returns-in-Err-clause-puts g c = puts_fault c.put_counts.result c.in-Err.fault _ _ _ _ _ c.put_counts.ensures c.in-Err.is
