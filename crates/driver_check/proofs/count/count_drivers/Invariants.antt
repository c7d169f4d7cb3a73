use Rattle.std.proofs.Common.{◌≡◌, drop}
use Rattle.std.specs.List.{fold}
use Rattle.driver_check.specs.Counts.{with_process}
use Rattle.driver_check.proofs.count.count_drivers.Given as goal

abbrev pub invariant-loop-process : goal.invariant-loop-process
invariant-loop-process l = fold with_process l.counts (drop l.process-index l.processes) ≡ fold with_process l.fn.counts l.processes
