use Rattle.std.proofs.Common.{length}
use Rattle.common_rows.proofs.slopes.+sum_slope.Given as goal

abbrev pub decreases-sum_slope : goal.decreases-sum_slope
decreases-sum_slope l = length l.ends.now
