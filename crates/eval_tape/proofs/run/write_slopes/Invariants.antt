use Rattle.eval_tape.specs.Tape.{AreSlopes}
use Rattle.eval_tape.proofs.run.write_slopes.Given as goal

abbrev pub invariant-loop-i : goal.invariant-loop-i
invariant-loop-i l = AreSlopes l.unknowns l.constants l.i l.code l.numbers l.out
