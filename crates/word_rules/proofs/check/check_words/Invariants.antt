use Rattle.std.proofs.Common.{length, ◌-◌, ◌≤◌}
use Rattle.std.specs.Prelude.{option_copied}
use Rattle.word_rules.specs.Words.{texts}
use Rattle.word_rules.proofs.RefusalLemmas.{NoneRefused}
use Rattle.word_rules.proofs.check.check_words.Given as goal

-- none of the words so far is refused
abbrev pub invariant-loop-at : goal.invariant-loop-at
invariant-loop-at l = record {
  within : l.at ≤ length l.words;
  none : NoneRefused (texts l.words) l.at (option_copied l.waiting);
  few : l.at ≤ 24;
}

abbrev pub decreases-loop-at : goal.decreases-loop-at
decreases-loop-at l = length l.words - l.at
