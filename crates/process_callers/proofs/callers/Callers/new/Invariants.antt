use Rattle.std.proofs.Common.{length}
use Rattle.process_callers.proofs.Having.{IsBuilt}
use Rattle.process_callers.proofs.callers.Callers.new.Given as goal

abbrev pub invariant-loop-k : goal.invariant-loop-k
invariant-loop-k l = IsBuilt (length l.flat.processes) l.flat.processes l.k (length l.flat.signals) (length l.flat.thresholds) l.callers
