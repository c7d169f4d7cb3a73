use Rattle.system_model.specs.Trace.{run_of}
use Rattle.run_counts.specs.Counts.{counted}
use Rattle.design_modes.proofs.Runs.{puts_as, ends_as}
use Rattle.design_modes.proofs.making.make_design.Goals as goal

pub returns-in-Ok-clause-puts : goal.returns-in-Ok-clause-puts
returns-in-Ok-clause-puts g c =
    puts_as _ c.args.size c.in-Ok.run' (counted (run_of c.args.flat.now c.args.options.now)) _ _ _ _ c.in-Ok.ensures c.put_run.ensures.puts

pub returns-in-Ok-clause-end : goal.returns-in-Ok-clause-end
returns-in-Ok-clause-end g c =
    ends_as c.put_run.result c.in-Ok.run' (counted (run_of c.args.flat.now c.args.options.now)) c.in-Ok.ensures c.put_run.ensures.end
