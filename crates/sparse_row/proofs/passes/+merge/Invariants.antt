use Rattle.std.proofs.Common.{◌-◌}
use Rattle.sparse_row.proofs.passes.+merge.Given as goal

abbrev pub decreases-merge : goal.decreases-merge
decreases-merge l = l.width - l.from
