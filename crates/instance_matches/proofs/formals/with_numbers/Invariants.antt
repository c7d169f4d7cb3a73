use Rattle.std.proofs.Common.{◌≡◌, ◌++◌, drop}
use Rattle.unit_meaning.specs.Walk.{numbers}
use Rattle.instance_matches.proofs.formals.with_numbers.Given as goal

abbrev pub invariant-loop-name : goal.invariant-loop-name
invariant-loop-name l = l.all ++ numbers (drop l.name-index l.names) ≡ l.fn.list ++ numbers l.names
