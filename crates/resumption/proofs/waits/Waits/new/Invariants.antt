use Rattle.std.proofs.Common.{◌≡◌, map, take}
use Rattle.resumption.specs.Sleeps.{waits_of}
use Rattle.resumption.specs.Waits.{rows_of}
use Rattle.resumption.proofs.waits.Waits.new.Given as goal

abbrev pub invariant-loop-process : goal.invariant-loop-process
invariant-loop-process l = rows_of l.rows.items ≡ map waits_of (take l.process-index l.processes)
