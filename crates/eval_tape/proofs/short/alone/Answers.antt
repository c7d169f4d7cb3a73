use Rattle.std.proofs.Common.{sym}
use Rattle.eval_tape.proofs.ShortTapes.{alone_is}
use Rattle.eval_tape.proofs.short.alone.Goals as goal

pub returns-in-Ok : goal.returns-in-Ok
returns-in-Ok g c = alone_is (g.V.Values.readings c.args.values.now) c.args.instruction c.in-Ok.number (sym c.in-Ok.ensures)
