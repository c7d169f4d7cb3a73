use Rattle.declared_type_laws.proofs.Whole.{types_are_declared}
use Rattle.declared_type_laws.proofs.types_are_declared.Goals as goal

pub returns : goal.returns
returns c = types_are_declared
