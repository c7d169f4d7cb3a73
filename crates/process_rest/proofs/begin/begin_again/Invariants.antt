use Rattle.process_rest.proofs.Begins.{HaveBegun}
use Rattle.cycle_meaning.specs.Processes.{parameters_at}
use Rattle.std.specs.List.{slice_get}
use Rattle.process_rest.proofs.begin.begin_again.Given as goal

abbrev pub invariant-loop-number : goal.invariant-loop-number
invariant-loop-number l = HaveBegun l.fn.process.variables (parameters_at (slice_get l.fn.process.waits l.fn.wait)) l.number l.fn.variables l.variables
