use Rattle.std.proofs.Common.{◌≡◌}
use Rattle.unit_index.specs.Index.{known}
use Rattle.formal_index.proofs.index.FormalIndex.of.Given as goal

abbrev pub invariant-loop-written : goal.invariant-loop-written
invariant-loop-written l = l.index ≡ record { texts = l.names; units = known l.units }
