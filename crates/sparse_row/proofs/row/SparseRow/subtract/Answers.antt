use Rattle.std.proofs.Common.{◌≡◌, length, ap, sym, ◌∙◌}
use Rattle.sparse_row.specs.Reads.{lost_in}
use Rattle.sparse_row.proofs.Whole.{row_subtracted, width_is}
use Rattle.sparse_row.proofs.row.SparseRow.subtract.Goals as goal

pub subtract-requires-clause-columns : goal.subtract-requires-clause-columns
subtract-requires-clause-columns c =
    let wide : length c.args.numbers.now ≡ c.self.inside.width = c.requires.width ∙ width_is c.self.inside.width c.self.inside.entries.items c.args.self.now c.self.view_is in
    rw (wide, c.as_slice.ensures.value) c.self.invariant.sparse

pub returns-clause-answer : goal.returns-clause-answer
returns-clause-answer c =
    row_subtracted c.args.factor c.self.inside.width c.self.inside.entries.items c.args.self.now c.args.numbers.now c.self.view_is c.self.invariant.sparse c.requires.width c.requires.within
    ∙ ap (λ z. lost_in c.args.factor z c.args.numbers.now) (sym c.as_slice.ensures.value) ∙ c.subtract.ensures.answer
