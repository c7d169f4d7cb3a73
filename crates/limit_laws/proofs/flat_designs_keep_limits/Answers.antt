use Rattle.limit_laws.proofs.Whole.{flat_designs_keep_limits}
use Rattle.limit_laws.proofs.flat_designs_keep_limits.Goals as goal

pub returns : goal.returns
returns c = flat_designs_keep_limits
