use Rattle.std.proofs.Common.{◌≡◌, ◌++◌, drop}
use Rattle.unit_meaning.specs.Simultaneous as spec
use Rattle.dot_names.proofs.dots.selectors_of.Given as goal

abbrev pub invariant-loop-written : goal.invariant-loop-written
invariant-loop-written l = l.selectors ++ spec.selectors_of (drop l.written-index l.statements) ≡ spec.selectors_of l.statements
