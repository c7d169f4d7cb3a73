use Rattle.body_laws.proofs.Whole.{bodies_stand}
use Rattle.body_laws.proofs.statements_stand.Goals as goal

pub returns : goal.returns
returns c = bodies_stand
