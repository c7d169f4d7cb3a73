use Rattle.std.proofs.Common.{◌≡◌, length}
use Rattle.word_rules.specs.Words.{texts, value_of}
use Rattle.word_rules.proofs.parts.value_of.Given as goal

-- the words left give what all words give
abbrev pub invariant-loop-rest : goal.invariant-loop-rest
invariant-loop-rest l = value_of l.name (texts l.rest) ≡ value_of l.name (texts l.words)

abbrev pub decreases-loop-rest : goal.decreases-loop-rest
decreases-loop-rest l = length l.rest
