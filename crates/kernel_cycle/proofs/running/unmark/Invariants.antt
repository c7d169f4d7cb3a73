use Rattle.kernel_cycle.proofs.Marks.{MarksLeft}
use Rattle.kernel_cycle.proofs.running.unmark.Given as goal

abbrev pub invariant-loop-number : goal.invariant-loop-number
invariant-loop-number l = MarksLeft l.called l.number-index l.resumed
