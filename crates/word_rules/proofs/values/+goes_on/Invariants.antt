use Rattle.std.proofs.Common.{length}
use Rattle.word_rules.proofs.values.+goes_on.Given as goal

abbrev pub decreases-goes_on : goal.decreases-goes_on
decreases-goes_on l = length l.text.now
