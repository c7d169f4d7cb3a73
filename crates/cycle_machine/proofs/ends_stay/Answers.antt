use Rattle.cycle_machine.specs.RunLaws.{ends_again}
use Rattle.cycle_machine.proofs.ends_stay.Goals as goal

pub returns : goal.returns
returns c = ends_again
