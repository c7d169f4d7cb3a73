use Rattle.std.proofs.Common.{ap, ◌∙◌, arith}
use Rattle.fix_core.specs.Fixed.{IsInRange}
use Rattle.sparse_row.specs.Reads.{left_of}
use Rattle.sparse_row.proofs.Whole.{row_substituted}
use Rattle.sparse_row.proofs.row.SparseRow.substitute.Goals as goal

pub returns : goal.returns
returns c =
    let within : IsInRange c.args.sum = omega (arith, c.magnitude.ensures.value, c.magnitude.ensures.bound) in
    c.substitute.ensures ∙ ap (left_of c.args.column c.args.numbers.now c.args.sum) c.as_slice.ensures.value
    ∙ row_substituted c.self.inside.width c.args.column c.self.inside.entries.items c.args.self.now c.args.numbers.now c.args.sum c.self.view_is c.self.invariant.sparse c.requires.column c.requires.numbers within
