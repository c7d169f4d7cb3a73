-- The law.
use Rattle.cycle_parts.proofs.Left.{given_back}
use Rattle.cycle_parts.proofs.events_are_given_back.Goals as goal

pub returns : goal.returns
returns c = given_back
