use Rattle.std.proofs.Common.{◌≡◌, []}
use Rattle.std.specs.Prelude.{replicate}
use Rattle.driver_set.specs.Queues.{queues_of}
use Rattle.driver_set.proofs.queues.idle_drivers.Given as goal

abbrev pub invariant-loop : goal.invariant-loop
invariant-loop l = queues_of l.drivers.items ≡ replicate l.counter []
