use Rattle.std.proofs.Common.{◌≡◌, drop}
use Rattle.sparse_row.specs.Entries.{value_in}
use Rattle.sparse_row.proofs.entry.value_at.Given as goal

abbrev pub invariant-loop-entry : goal.invariant-loop-entry
invariant-loop-entry l = value_in l.column l.entries ≡ value_in l.column (drop l.entry-index l.entries)
