use Rattle.process_runs.proofs.Starts.{Laid}
use Rattle.process_runs.proofs.started.unstarted.Given as goal

abbrev pub invariant-loop-process : goal.invariant-loop-process
invariant-loop-process l = Laid l.processes l.all.items l.process-index
