use Rattle.run_counts.specs.CountLaws.{counts_join}
use Rattle.run_counts.proofs.laws.counts_join.Goals as goal

pub returns : goal.returns
returns c = counts_join
