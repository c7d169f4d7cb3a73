use Rattle.std.proofs.Common.{sym, ◌∙◌}
use Rattle.sparse_row.proofs.Lookup.{value_here, value_later}
use Rattle.sparse_row.proofs.entry.value_at.Goals as goal

pub returns-then-entry-column : goal.returns-then-entry-column
returns-then-entry-column c = sym (c.loop-entry.invariant ∙ value_here c.args.column c.args.entries.now c.loop-entry.entry-index c.entry-item.result c.loop-entry-test.true c.entry-item.is c.if-entry-column.true)

pub loop-entry-preserved : goal.loop-entry-preserved
loop-entry-preserved c = c.loop-entry.invariant ∙ value_later c.args.column c.args.entries.now c.loop-entry.entry-index c.entry-item.result c.loop-entry-test.true c.entry-item.is c.if-entry-column.false
