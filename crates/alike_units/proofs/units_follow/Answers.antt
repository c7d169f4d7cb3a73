use Rattle.alike_units.proofs.Whole.{units_follow}
use Rattle.alike_units.proofs.units_follow.Goals as goal

pub returns : goal.returns
returns c = units_follow
