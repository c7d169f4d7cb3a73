use Rattle.std.proofs.Common.{length}
use Rattle.kept_rows.proofs.column.+eliminate.Given as goal

abbrev pub decreases-eliminate : goal.decreases-eliminate
decreases-eliminate l = length l.rows.now
