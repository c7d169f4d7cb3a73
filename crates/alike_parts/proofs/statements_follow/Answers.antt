use Rattle.alike_parts.proofs.Statements.{statements_follow}
use Rattle.alike_parts.proofs.statements_follow.Goals as goal

pub returns : goal.returns
returns c = statements_follow
