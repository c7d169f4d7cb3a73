use Rattle.std.proofs.Common.{◌∙◌}
use Rattle.eval_tape.proofs.Results.{constants_more}
use Rattle.eval_tape.proofs.tape.constant_slopes.Goals as goal

pub loop-i-preserved : goal.loop-i-preserved
loop-i-preserved c =
    c.in_ok-push.ensures.items
    ∙ constants_more c.args.expr.now c.args.unknowns.now c.loop-i.i c.loop-i.constants.items c.constant_slope.result c.loop-i-test.true c.loop-i.invariant c.constant_slope.ensures
