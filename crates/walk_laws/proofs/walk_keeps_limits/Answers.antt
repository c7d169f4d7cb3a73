use Rattle.walk_laws.proofs.Limits.{walk_keeps_limits}
use Rattle.walk_laws.proofs.walk_keeps_limits.Goals as goal

pub returns : goal.returns
returns c = walk_keeps_limits
