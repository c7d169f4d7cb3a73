use Rattle.std.proofs.Common.{arith}
use Rattle.sparse_row.proofs.Lookup.{place_here, place_later}
use Rattle.sparse_row.proofs.entry.place_of.Goals as goal

pub loop-place-preserved : goal.loop-place-preserved
loop-place-preserved c =
    let next = place_later c.args.column c.args.entries.now c.loop-place.place c.index-entries-place.result c.loop-place-test.true c.if-entries-place.true in
    (omega (arith, c.loop-place.invariant.0, next), omega (arith, c.loop-place-test.true))

pub returns-else-entries-place : goal.returns-else-entries-place
returns-else-entries-place c =
    let here = place_here c.args.column c.args.entries.now c.loop-place.place c.index-entries-place.result c.loop-place-test.true c.if-entries-place.false in
    omega (arith, c.loop-place.invariant.0, here)
