use Rattle.declaration_laws.proofs.Whole.{declarations_hold}
use Rattle.declaration_laws.proofs.declarations_hold.Goals as goal

pub returns : goal.returns
returns c = declarations_hold
