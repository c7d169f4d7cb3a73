use Rattle.checked_laws.proofs.Whole.{flat_designs_are_checked}
use Rattle.checked_laws.proofs.flat_designs_are_checked.Goals as goal

pub returns : goal.returns
returns c = flat_designs_are_checked
