use Rattle.std.proofs.Common.{◌<◌, length, ◌∙◌, sym, arith}
use Rattle.sparse_row.proofs.Multiples.{left_here, left_skips_early, left_skips_late}
use Rattle.sparse_row.proofs.products.substitute.Goals.{then-column-entry+then-entry-numbers+in_ok-loss+in_ok-sum, else-column-entry, else-column-entry-via-then-column-entry+else-entry-numbers, else-column-entry-via-else-column-entry}
use Rattle.sparse_row.proofs.products.substitute.Goals as goal

pub loop-entry-preserved : goal.loop-entry-preserved
loop-entry-preserved c =
    let e = c.entry-item.result in
    let h : c.loop-entry.entry-index < length c.args.entries.now = omega arith in
    elim c.if-column-entry.branch [
      | then-column-entry+then-entry-numbers+in_ok-loss+in_ok-sum w ↦
          rw w.sum-is (c.loop-entry.invariant ∙ left_here c.args.column c.args.numbers.now c.loop-entry.sum c.args.entries.now c.loop-entry.entry-index e w.index-numbers-entry.result w.in_ok-loss.loss w.in_ok-sum.sum h c.entry-item.is w.if-column-entry.true w.if-entry-numbers.true w.index-numbers-entry.is (sym w.in_ok-loss.ensures) (sym w.in_ok-sum.ensures))
      | else-column-entry w ↦
          elim w.else-column-entry.branch [
            | else-column-entry-via-then-column-entry+else-entry-numbers v ↦
                rw w.sum-is (c.loop-entry.invariant ∙ left_skips_late c.args.column c.args.numbers.now c.loop-entry.sum c.args.entries.now c.loop-entry.entry-index e h c.entry-item.is v.if-entry-numbers.false)
            | else-column-entry-via-else-column-entry v ↦
                rw w.sum-is (c.loop-entry.invariant ∙ left_skips_early c.args.column c.args.numbers.now c.loop-entry.sum c.args.entries.now c.loop-entry.entry-index e h c.entry-item.is v.if-column-entry.false)
          ]
    ]
