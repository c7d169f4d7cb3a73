use Rattle.interface_laws.proofs.Whole.{interfaces_hold}
use Rattle.interface_laws.proofs.interfaces_hold.Goals as goal

pub returns : goal.returns
returns c = interfaces_hold
