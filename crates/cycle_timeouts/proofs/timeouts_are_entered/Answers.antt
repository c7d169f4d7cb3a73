-- The law of timeouts.
use Rattle.cycle_timeouts.proofs.Timeouts.{timeouts_entered}
use Rattle.cycle_timeouts.proofs.timeouts_are_entered.Goals as goal

pub returns : goal.returns
returns c = timeouts_entered
