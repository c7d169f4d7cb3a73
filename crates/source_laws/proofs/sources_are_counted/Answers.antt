use Rattle.source_laws.proofs.Whole.{sources_are_counted}
use Rattle.source_laws.proofs.sources_are_counted.Goals as goal

pub returns : goal.returns
returns c = sources_are_counted
