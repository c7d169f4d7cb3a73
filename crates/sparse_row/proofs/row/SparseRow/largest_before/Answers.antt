use Rattle.std.proofs.Common.{ap, ◌∙◌}
use Rattle.sparse_row.specs.Reads.{largest_in}
use Rattle.sparse_row.proofs.Whole.{row_largest}
use Rattle.sparse_row.proofs.row.SparseRow.largest_before.Goals as goal

pub returns : goal.returns
returns c =
    c.largest_before.ensures ∙ ap (largest_in c.args.column) c.as_slice.ensures.value
    ∙ row_largest c.self.inside.width c.args.column c.self.inside.entries.items c.args.self.now c.self.view_is c.self.invariant.sparse c.requires
