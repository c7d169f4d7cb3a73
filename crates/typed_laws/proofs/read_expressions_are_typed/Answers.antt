use Rattle.typed_laws.proofs.Typing.{read_expressions_are_typed}
use Rattle.typed_laws.proofs.read_expressions_are_typed.Goals as goal

pub returns : goal.returns
returns c = read_expressions_are_typed
