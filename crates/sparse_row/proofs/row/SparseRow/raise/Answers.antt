use Rattle.std.proofs.Common.{◌≡◌, length, ap, sym, ◌∙◌}
use Rattle.std.proofs.lemmas.List.{with_items_is}
use Rattle.fix_core.specs.Passes.{answer, each}
use Rattle.sparse_row.specs.Entries.{filled}
use Rattle.sparse_row.specs.Reads.{tenfold_entry}
use Rattle.sparse_row.proofs.Sparse.{length-filled}
use Rattle.sparse_row.proofs.Whole.{row_raised, width_is}
use Rattle.sparse_row.proofs.row.SparseRow.raise.Goals as goal

pub returns-clause-answer : goal.returns-clause-answer
returns-clause-answer c =
    let kept : length c.raise.new.entries ≡ c.self.inside.entries.len = c.raise.auto.entries ∙ c.as_mut_slice.ensures.len in
    let items = with_items_is c.self.inside.entries c.raise.new.entries kept in
    let written = ap (each tenfold_entry) (sym c.as_mut_slice.ensures.value) ∙ c.raise.ensures.answer in
    row_raised c.raise.result c.self.inside.width c.self.inside.entries.items c.raise.new.entries c.args.self.now c.self.view_is c.self.invariant.sparse written
    ∙ ap (λ z. answer c.raise.result (filled 0 c.self.inside.width z)) (sym items)

pub returns-clause-width : goal.returns-clause-width
returns-clause-width c =
    length-filled 0 c.self.inside.width _ ∙ sym (width_is c.self.inside.width c.self.inside.entries.items c.args.self.now c.self.view_is)
