use Rattle.alike_laws.proofs.Whole.{readings_follow}
use Rattle.alike_laws.proofs.readings_follow.Goals as goal

pub returns : goal.returns
returns c = readings_follow
