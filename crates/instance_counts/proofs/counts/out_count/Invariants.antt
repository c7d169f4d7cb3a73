use Rattle.std.proofs.Common.{◌≡◌, ◌+◌, drop}
use Rattle.unit_meaning.specs.Walk.{out_count}
use Rattle.instance_counts.proofs.counts.out_count.Given as goal

abbrev pub invariant-loop-port : goal.invariant-loop-port
invariant-loop-port l = l.count + out_count (drop l.port-index l.ports) ≡ out_count l.ports
