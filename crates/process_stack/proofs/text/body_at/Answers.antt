use Rattle.std.proofs.Common.{◌∙◌}
use Rattle.process_stack.proofs.Rounds.{walk_on}
use Rattle.process_stack.proofs.text.body_at.Goals as goal

pub loop-frame-preserved : goal.loop-frame-preserved
loop-frame-preserved c = c.body_inside-body.ensures ∙ walk_on c.args.text.now c.args.frames.now c.loop-frame.frame-index _ c.loop-frame-test.true c.loop-frame.body.now c.loop-frame.invariant
