-- The law.
use Rattle.cycle_parts.proofs.Left.{stays}
use Rattle.cycle_parts.proofs.domain_stays.Goals as goal

pub returns : goal.returns
returns c = stays
