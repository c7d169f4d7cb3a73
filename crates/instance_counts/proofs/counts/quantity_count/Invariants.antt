use Rattle.std.proofs.Common.{◌≡◌, ◌+◌, drop}
use Rattle.unit_meaning.specs.Walk.{quantity_count}
use Rattle.instance_counts.proofs.counts.quantity_count.Given as goal

abbrev pub invariant-loop-declaration : goal.invariant-loop-declaration
invariant-loop-declaration l = l.count + quantity_count (drop l.declaration-index l.declarations) ≡ quantity_count l.declarations
