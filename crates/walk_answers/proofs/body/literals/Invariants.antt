use Rattle.std.proofs.Common.{◌≡◌, take}
use Rattle.walk_answers.proofs.body.literals.Given as goal

abbrev pub invariant-loop-literal : goal.invariant-loop-literal
invariant-loop-literal l = l.copy ≡ take l.literal-index l.all
