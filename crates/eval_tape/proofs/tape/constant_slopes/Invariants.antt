use Rattle.std.proofs.Common.{◌≡◌, take}
use Rattle.eval_tape.specs.Tape.{constants_of}
use Rattle.eval_tape.proofs.tape.constant_slopes.Given as goal

abbrev pub invariant-loop-i : goal.invariant-loop-i
invariant-loop-i l = l.constants.items ≡ constants_of l.expr (take l.i l.unknowns)
