use Rattle.tape_code.specs.Steps.{HasSlopes}
use Rattle.eval_tape.proofs.passes.fill_slopes.Given as goal

abbrev pub invariant-loop-place : goal.invariant-loop-place
invariant-loop-place l = HasSlopes l.unknown l.code l.numbers l.place l.slopes
