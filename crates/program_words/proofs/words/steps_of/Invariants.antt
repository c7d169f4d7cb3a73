use Rattle.std.proofs.Common.{◌≡◌, map, take}
use Rattle.program_words.specs.Asked.{letter_of}
use Rattle.program_words.proofs.words.steps_of.Given as goal

-- the letters so far are read
abbrev pub invariant-loop-letter : goal.invariant-loop-letter
invariant-loop-letter l = map letter_of l.steps.items ≡ take l.letter-index l.letters
