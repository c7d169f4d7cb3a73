use Rattle.std.proofs.Common.{take}
use Rattle.step_matrices.specs.Linear.{HasConstants}
use Rattle.step_matrices.proofs.linear.has_constants.Given as goal

abbrev pub invariant-loop-i : goal.invariant-loop-i
invariant-loop-i l = HasConstants (take l.i l.unknowns) l.pair
