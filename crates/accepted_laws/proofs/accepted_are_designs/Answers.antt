use Rattle.accepted_laws.proofs.Whole.{accepted_are_designs}
use Rattle.accepted_laws.proofs.accepted_are_designs.Goals as goal

pub returns : goal.returns
returns c = accepted_are_designs
