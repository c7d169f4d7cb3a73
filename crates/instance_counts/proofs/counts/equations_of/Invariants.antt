use Rattle.std.proofs.Common.{◌≡◌, ◌+◌, drop}
use Rattle.unit_meaning.specs.Walk.{equations_of}
use Rattle.instance_counts.proofs.counts.equations_of.Given as goal

abbrev pub invariant-loop-one : goal.invariant-loop-one
invariant-loop-one l = l.count + equations_of (drop l.one-index l.statements) ≡ equations_of l.statements
