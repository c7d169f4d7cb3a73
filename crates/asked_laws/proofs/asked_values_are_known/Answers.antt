use Rattle.asked_laws.proofs.Asked.{asked_values_are_known}
use Rattle.asked_laws.proofs.asked_values_are_known.Goals as goal

pub returns : goal.returns
returns c = asked_values_are_known
