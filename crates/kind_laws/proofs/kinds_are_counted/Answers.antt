use Rattle.kind_laws.proofs.Counted.{kinds_are_counted}
use Rattle.kind_laws.proofs.kinds_are_counted.Goals as goal

pub returns : goal.returns
returns c = kinds_are_counted
