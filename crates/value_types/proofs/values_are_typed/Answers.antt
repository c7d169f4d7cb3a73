use Rattle.value_types.proofs.Typing.{values_are_typed, read_values_are_typed}
use Rattle.value_types.proofs.values_are_typed.Goals as goal

pub returns-clause-whole : goal.returns-clause-whole
returns-clause-whole c = values_are_typed

pub returns-clause-read : goal.returns-clause-read
returns-clause-read c = read_values_are_typed
