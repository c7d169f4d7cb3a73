-- One time more rises.
use Rattle.std.proofs.Common.{◌<◌, ◌≤◌, length, arith}
use Rattle.driver_cases.proofs.Rising.{rises_more}
use Rattle.driver_cases.proofs.are_rising.Goals as goal

pub loop-i-preserved : goal.loop-i-preserved
loop-i-preserved c =
    let inside : c.loop-i.i < length c.args.list.now = omega arith in
    let some : 1 ≤ c.loop-i.i = omega arith in
    rises_more c.args.list.now c.loop-i.i c.index-list-i.result c.index-list-i-in-loop-i.result some inside c.index-list-i.is c.index-list-i-in-loop-i.is (omega arith) c.loop-i.invariant
