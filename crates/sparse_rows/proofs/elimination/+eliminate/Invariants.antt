use Rattle.std.proofs.Common.{length}
use Rattle.sparse_rows.proofs.elimination.+eliminate.Given as goal

abbrev pub decreases-eliminate : goal.decreases-eliminate
decreases-eliminate l = length l.rows.now
