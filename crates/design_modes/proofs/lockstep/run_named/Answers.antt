use Rattle.std.proofs.Common.{ℕ, List, ap}
use Rattle.trace_sink.specs.PutsLaws.{puts_of}
use Rattle.design_run.specs.Lines.{run_lines}
use Rattle.design_modes.proofs.lockstep.run_named.Goals as goal

pub returns-clause-puts : goal.returns-clause-puts
returns-clause-puts g c =
    puts_of _ _ _ _ _ _ _ c.run_whole.ensures.puts (ap (λ (t : List ℕ). run_lines c.args.flat.now t c.args.options.now) c.as_str.ensures.value)
