use Rattle.made_count_laws.proofs.Whole.{counts_are_made}
use Rattle.made_count_laws.proofs.counts_are_made.Goals as goal

pub returns : goal.returns
returns c = counts_are_made
