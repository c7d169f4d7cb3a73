use Rattle.tally_laws.proofs.Whole.{walks_are_tallied}
use Rattle.tally_laws.proofs.walks_are_tallied.Goals as goal

pub returns : goal.returns
returns c = walks_are_tallied
