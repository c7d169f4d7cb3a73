use Rattle.above_events.proofs.Narrowing.{differs_any}
use Rattle.above_events.proofs.thresholds.differs.Goals as goal

pub returns : goal.returns
returns c = rw (← differs_any c.args.x.now c.args.thresholds.now, ← c.as_slice.ensures) c.some_unlike.ensures
