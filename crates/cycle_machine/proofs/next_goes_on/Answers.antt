use Rattle.cycle_machine.specs.NextLaws.{next_is}
use Rattle.cycle_machine.proofs.next_goes_on.Goals as goal

pub returns : goal.returns
returns c = next_is
