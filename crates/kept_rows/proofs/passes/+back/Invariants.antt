use Rattle.std.proofs.Common.{length}
use Rattle.kept_rows.proofs.passes.+back.Given as goal

abbrev pub decreases-back : goal.decreases-back
decreases-back l = length l.columns.now
