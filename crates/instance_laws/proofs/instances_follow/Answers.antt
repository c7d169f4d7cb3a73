use Rattle.instance_laws.proofs.Whole.{instances_follow}
use Rattle.instance_laws.proofs.instances_follow.Goals as goal

pub returns : goal.returns
returns c = instances_follow
