use Rattle.std.proofs.Common.{length, ◌<◌, get_or, arith}
use Rattle.kernel_cycle.proofs.Marks.{all_left, one_taken, none_left}
use Rattle.kernel_cycle.proofs.running.unmark.Goals as goal

pub loop-number-init : goal.loop-number-init
loop-number-init c = all_left (length c.args.resumed.now) c.args.called.now c.args.resumed.now c.requires

pub bounds-resumed-number : goal.bounds-resumed-number
bounds-resumed-number c =
    let within : get_or c.args.called.now c.loop-number.number-index 0 < length c.args.resumed.now = c.requires.within c.loop-number.number-index 0 c.loop-number-test.true in omega (arith, within, c.loop-number.auto.resumed)

pub loop-number-preserved : goal.loop-number-preserved
loop-number-preserved c =
    let within : get_or c.args.called.now c.loop-number.number-index 0 < length c.args.resumed.now = c.requires.within c.loop-number.number-index 0 c.loop-number-test.true in
    one_taken c.args.called.now c.loop-number.number-index _ c.loop-number.resumed (omega arith) (omega (arith, within, c.loop-number.auto.resumed)) c.loop-number.invariant

pub returns : goal.returns
returns c = none_left c.args.called.now c.loop-number.number-index (length c.args.resumed.now) c.loop-number.resumed (omega arith) c.loop-number.auto.resumed c.loop-number.invariant
