use Rattle.std.proofs.Common.{length}
use Rattle.flat_design.proofs.names.+across_names.Given as goal

abbrev pub decreases-across_names : goal.decreases-across_names
decreases-across_names l = length l.quantities.now
