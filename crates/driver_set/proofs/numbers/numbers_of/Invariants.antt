use Rattle.std.proofs.Common.{◌≡◌, ◌≤◌, length}
use Rattle.driver_set.proofs.NumberSteps.{AreFrom}
use Rattle.driver_set.proofs.numbers.numbers_of.Given as goal

abbrev pub invariant-loop-number : goal.invariant-loop-number
invariant-loop-number l = record {
  within : l.number ≤ length l.driven;
  count : length l.numbers.items ≡ l.signals;
  are : AreFrom l.number l.driven l.numbers.items;
}

abbrev pub decreases-loop-number : goal.decreases-loop-number
decreases-loop-number l = l.number
