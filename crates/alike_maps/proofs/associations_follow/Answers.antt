use Rattle.alike_maps.proofs.Whole.{associations_follow}
use Rattle.alike_maps.proofs.associations_follow.Goals as goal

pub returns : goal.returns
returns c = associations_follow
