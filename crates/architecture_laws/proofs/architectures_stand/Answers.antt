use Rattle.architecture_laws.proofs.Whole.{architectures_stand}
use Rattle.architecture_laws.proofs.architectures_stand.Goals as goal

pub returns : goal.returns
returns c = architectures_stand
