use Rattle.std.proofs.Common.{◌<◌, ℤ, pos, List, get_or, length, sym, ap, ◌∙◌, arith, zero-add}
use Rattle.sparse_row.specs.Entries.{value_in}
use Rattle.sparse_row.proofs.Sparse.{length-filled}
use Rattle.sparse_row.proofs.Lookup.{filled_value}
use Rattle.sparse_row.proofs.row.SparseRow.get.Goals as goal

pub returns : goal.returns
returns c =
    let wide = ap (λ (z : List ℤ). length z) (sym c.self.view_is) ∙ length-filled 0 c.self.inside.width c.self.inside.entries.items in
    let below : c.args.column < c.self.inside.width = omega (arith, c.requires, wide) in
    c.value_at.ensures ∙ ap (value_in c.args.column) c.as_slice.ensures.value
    ∙ sym (filled_value 0 c.self.inside.width c.self.inside.width c.args.column c.args.column c.self.inside.entries.items below (sym (zero-add c.args.column)) c.self.invariant.sparse)
    ∙ ap (λ (z : List ℤ). get_or z c.args.column (pos 0)) c.self.view_is
