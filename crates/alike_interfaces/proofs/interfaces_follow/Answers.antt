use Rattle.alike_interfaces.proofs.Whole.{interfaces_follow}
use Rattle.alike_interfaces.proofs.interfaces_follow.Goals as goal

pub returns : goal.returns
returns c = interfaces_follow
