use Rattle.std.proofs.Common.{◌≡◌, ◌+◌, drop}
use Rattle.unit_meaning.specs.Walk.{process_count}
use Rattle.instance_counts.proofs.counts.process_count.Given as goal

abbrev pub invariant-loop-one : goal.invariant-loop-one
invariant-loop-one l = l.count + process_count (drop l.one-index l.statements) ≡ process_count l.statements
