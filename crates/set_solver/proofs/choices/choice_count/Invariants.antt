use Rattle.std.proofs.Common.{◌≡◌, ◌+◌, ◌≤◌, length, drop}
use Rattle.design_meaning.specs.Steps.{selections_of}
use Rattle.set_solver.proofs.choices.choice_count.Given as goal

abbrev pub invariant-loop-i : goal.invariant-loop-i
invariant-loop-i l = record {
  counted : l.count + length (selections_of (drop l.i l.equations)) ≡ length (selections_of l.equations);
  small : l.count ≤ l.i;
}
