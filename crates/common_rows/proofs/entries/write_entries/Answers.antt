use Rattle.std.proofs.Common.{◌<◌, ◌+◌, [], length, get_or, set, drop, ap, ◌∙◌, sym, arith}
use Rattle.std.proofs.lemmas.List.{length-set}
use Rattle.common_rows.specs.Entries.{with_entries}
use Rattle.common_rows.proofs.Filled.{entries_more, entries_end, others_stay}
use Rattle.common_rows.proofs.entries.write_entries.Goals as goal

pub loop-i-preserved : goal.loop-i-preserved
loop-i-preserved c =
    let row = c.args.row in
    let rows = c.loop-i.rows in
    let e = c.index-entries-i.result in
    let low : row < length rows = omega (arith, c.requires.row, c.loop-i.invariant.count) in
    record {
      told = c.loop-i.invariant.told
          ∙ entries_more c.args.entries.now rows row c.loop-i.i e c.loop-i-test.true c.index-entries-i.is low
          ∙ ap (λ r. with_entries (drop (c.loop-i.i + 1) c.args.entries.now) (get_or r row [])) (sym c.set.ensures);
      others = c.set.ensures ∙ others_stay c.args.rows.now rows row (set (get_or rows row []) e.place e.slope) low c.loop-i.invariant.others
          ∙ ap (λ r. set c.args.rows.now row (get_or r row [])) (sym c.set.ensures);
      count = ap length c.set.ensures ∙ length-set rows row (set (get_or rows row []) e.place e.slope) ∙ c.loop-i.invariant.count;
    }

pub returns-clause-written : goal.returns-clause-written
returns-clause-written c =
    c.loop-i.invariant.others
    ∙ ap (set c.args.rows.now c.args.row) (sym (c.loop-i.invariant.told ∙ entries_end c.args.entries.now (get_or c.loop-i.rows c.args.row []) c.loop-i.i c.loop-i-test.false))
