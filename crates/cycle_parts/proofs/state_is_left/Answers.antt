-- The law.
use Rattle.cycle_parts.proofs.Left.{state_left}
use Rattle.cycle_parts.proofs.state_is_left.Goals as goal

pub returns : goal.returns
returns c = state_left
