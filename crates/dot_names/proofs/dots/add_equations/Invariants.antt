use Rattle.std.proofs.Common.{◌≡◌, ◌++◌, drop}
use Rattle.unit_meaning.specs.Simultaneous as spec
use Rattle.dot_names.proofs.dots.add_equations.Given as goal

abbrev pub invariant-loop-equation : goal.invariant-loop-equation
invariant-loop-equation l = l.dots ++ spec.dots_in_equations (drop l.equation-index l.equations) ≡ l.fn.dots ++ spec.dots_in_equations l.equations
