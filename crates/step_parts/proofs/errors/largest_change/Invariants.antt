use Rattle.std.proofs.Common.{◌≡◌, ◌*◌, ◌≤◌, length, drop}
use Rattle.fix_core.specs.Units.{most_units}
use Rattle.step_parts.specs.Changes.{largest_change}
use Rattle.step_parts.proofs.errors.largest_change.Given as goal

abbrev pub invariant-loop-i : goal.invariant-loop-i
invariant-loop-i l = record {
  within : l.i ≤ length l.before;
  value : l.largest ≡ largest_change (drop l.i l.before) (drop l.i l.after);
  bound : l.largest ≤ 2 * most_units;
}

abbrev pub decreases-loop-i : goal.decreases-loop-i
decreases-loop-i l = l.i
