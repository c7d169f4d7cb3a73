use Rattle.driver_cases.proofs.Rising.{RisesUpto}
use Rattle.driver_cases.proofs.are_rising.Given as goal

abbrev pub invariant-loop-i : goal.invariant-loop-i
invariant-loop-i l = RisesUpto l.list l.i
