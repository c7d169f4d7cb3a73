use Rattle.std.proofs.Common.{length}
use Rattle.flat_design.proofs.names.+explicit_names.Given as goal

abbrev pub decreases-explicit_names : goal.decreases-explicit_names
decreases-explicit_names l = length l.equations.now
