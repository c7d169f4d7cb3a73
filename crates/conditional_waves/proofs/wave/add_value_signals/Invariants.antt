use Rattle.std.proofs.Common.{◌≡◌, ◌++◌, drop}
use Rattle.unit_meaning.specs.Processes as spec
use Rattle.conditional_waves.proofs.wave.add_value_signals.Given as goal

abbrev pub invariant-loop-element : goal.invariant-loop-element
invariant-loop-element l = l.all ++ spec.value_signals (drop l.element-index l.elements) ≡ l.fn.all ++ spec.value_signals l.elements
