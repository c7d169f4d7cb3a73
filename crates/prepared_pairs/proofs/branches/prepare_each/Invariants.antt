use Rattle.std.proofs.Common.{◌≡◌, take}
use Rattle.prepared_pairs.specs.Prepared.{prepared_each}
use Rattle.prepared_pairs.proofs.branches.prepare_each.Given as goal

abbrev pub invariant-loop-pair : goal.invariant-loop-pair
invariant-loop-pair l = l.all ≡ prepared_each l.unknowns (take l.pair-index l.pairs)
