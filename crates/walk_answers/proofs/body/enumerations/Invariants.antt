use Rattle.std.proofs.Common.{◌≡◌, take}
use Rattle.walk_answers.proofs.body.enumerations.Given as goal

abbrev pub invariant-loop-written : goal.invariant-loop-written
invariant-loop-written l = l.copy ≡ take l.written-index l.all
