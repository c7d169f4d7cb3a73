use Rattle.driven_signals.proofs.Laws.{ordered}
use Rattle.world_of_design.proofs.Known.{driven_few}
use Rattle.world_of_design.proofs.numbers_of.Goals as goal

pub new-requires-clause-within : goal.new-requires-clause-within
new-requires-clause-within c = rw (c.in_ok-driven.ensures, c.signals.ensures) (ordered c.args.flat.now).within

pub new-requires-clause-count : goal.new-requires-clause-count
new-requires-clause-count c = rw c.in_ok-driven.ensures (driven_few c.args.flat.now c.requires)
