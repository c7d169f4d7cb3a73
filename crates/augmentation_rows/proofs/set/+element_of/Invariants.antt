use Rattle.std.proofs.Common.{length}
use Rattle.augmentation_rows.proofs.set.+element_of.Given as goal

abbrev pub decreases-element_of : goal.decreases-element_of
decreases-element_of l = length l.elements.now
