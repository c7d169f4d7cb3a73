use Rattle.core_rows.proofs.Room.{room}
use Rattle.core_rows.proofs.whole.replay_core.Goals as goal

pub replay-requires-clause-room : goal.replay-requires-clause-room
replay-requires-clause-room g c = room (g.D.Design.system 0) c.requires.budgets.tries
