use Rattle.driven_signals.proofs.Laws.{ordered}
use Rattle.driven_signals.proofs.driven_are_ordered.Goals as goal

pub returns : goal.returns
returns c = ordered
