use Rattle.std.proofs.Common.{take}
use Rattle.step_matrices.specs.Linear.{AreLinear}
use Rattle.step_matrices.proofs.linear.are_linear.Given as goal

abbrev pub invariant-loop-i : goal.invariant-loop-i
invariant-loop-i l = AreLinear l.unknowns (take l.i l.equations)
