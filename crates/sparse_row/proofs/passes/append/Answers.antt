use Rattle.std.proofs.Common.{List, [], ◌++◌, sym, ap, ◌∙◌}
use Rattle.std.proofs.lemmas.List.{append-nil}
use Rattle.sparse_row.specs.declared.entry.Entry.{Entry}
use Rattle.sparse_row.proofs.Edits.{before_none}
use Rattle.sparse_row.proofs.passes.append.Goals as goal

pub returns-else-magnitude-ne0-clause-items : goal.returns-else-magnitude-ne0-clause-items
returns-else-magnitude-ne0-clause-items c =
    let items = c.args.entries.now.items in
    sym (ap (λ (z : List Entry). items ++ z) (before_none c.args.column c.args.value [] (sym c.magnitude.ensures.value ∙ c.if-magnitude-ne0.false)) ∙ append-nil items)
