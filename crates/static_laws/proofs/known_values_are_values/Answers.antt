use Rattle.static_laws.proofs.Known.{known_values_are_values}
use Rattle.static_laws.proofs.known_values_are_values.Goals as goal

pub returns : goal.returns
returns c = known_values_are_values
