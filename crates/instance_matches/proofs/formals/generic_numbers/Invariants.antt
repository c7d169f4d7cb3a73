use Rattle.std.proofs.Common.{◌≡◌, ◌++◌, drop}
use Rattle.unit_meaning.specs.Walk.{generic_numbers}
use Rattle.instance_matches.proofs.formals.generic_numbers.Given as goal

abbrev pub invariant-loop-generic : goal.invariant-loop-generic
invariant-loop-generic l = l.all ++ generic_numbers (drop l.generic-index l.generics) ≡ generic_numbers l.generics
