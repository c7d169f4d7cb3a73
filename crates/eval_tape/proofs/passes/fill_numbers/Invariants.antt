use Rattle.tape_code.specs.Steps.{HasNumbers}
use Rattle.eval_tape.proofs.passes.fill_numbers.Given as goal

abbrev pub invariant-loop-place : goal.invariant-loop-place
invariant-loop-place g l = HasNumbers (g.V.Values.readings l.values) l.code l.place l.numbers
