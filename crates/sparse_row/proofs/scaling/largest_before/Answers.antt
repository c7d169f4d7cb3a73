use Rattle.std.proofs.Common.{◌<◌, length, arith}
use Rattle.sparse_row.proofs.Raising.{largest_here, largest_later}
use Rattle.sparse_row.proofs.scaling.largest_before.Goals.{then-entry-column, else-entry-column}
use Rattle.sparse_row.proofs.scaling.largest_before.Goals as goal

pub loop-entry-preserved : goal.loop-entry-preserved
loop-entry-preserved c =
    let h : c.loop-entry.entry-index < length c.args.entries.now = omega arith in
    elim c.if-entry-column.branch [
      | then-entry-column w ↦
          let e = largest_here c.args.column c.args.entries.now c.loop-entry.entry-index c.entry-item.result h c.entry-item.is w.if-entry-column.true in
          omega (arith, e, w.largest-is, w.max-largest.ensures, w.magnitude.ensures.value, c.loop-entry.invariant)
      | else-entry-column w ↦
          let e = largest_later c.args.column c.args.entries.now c.loop-entry.entry-index c.entry-item.result h c.entry-item.is w.if-entry-column.false in
          omega (arith, e, w.largest-is, c.loop-entry.invariant)
    ]
