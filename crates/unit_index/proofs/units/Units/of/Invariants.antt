use Rattle.std.proofs.Common.{◌≡◌}
use Rattle.unit_index.proofs.units.Units.of.Given as goal

abbrev pub invariant-loop-i : goal.invariant-loop-i
invariant-loop-i l = l.units ≡ record { all = l.all; count = l.i }
