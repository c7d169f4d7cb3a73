use Rattle.allowed_laws.proofs.Simple.{simple_statements_are_allowed}
use Rattle.allowed_laws.proofs.simple_statements_are_allowed.Goals as goal

pub returns : goal.returns
returns c = simple_statements_are_allowed
