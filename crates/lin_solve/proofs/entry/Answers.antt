-- The row is long enough.
use Rattle.std.proofs.Common.{◌+◌, ◌<◌, ℤ, [], length, ap, ◌∙◌, sym, arith}
use Rattle.std.proofs.lemmas.List.{length-map}
use Rattle.std.specs.Global.{Vec}
use Rattle.lin_solve.specs.Entries.{items_of}
use Rattle.lin_solve.proofs.Steps.{item_at}
use Rattle.lin_solve.proofs.entry.Goals as goal

pub bounds-entries-column : goal.bounds-entries-column
bounds-entries-column c =
    let hi : c.args.row < length (items_of c.args.rows.now) = simp length-map c.requires.row in
    let e = item_at c.args.rows.now c.args.row c.index-rows-row.result [] c.requires.row in
    let l : c.args.column < length c.args.rows.now + 1 = omega arith in
    rw (c.as_slice-entries.ensures.value ∙ ap (λ (r : Vec ℤ). r.items) c.index-rows-row.is ∙ sym e, (c.requires.rows c.args.row [] hi).long) l
