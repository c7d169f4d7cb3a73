use Rattle.std.proofs.Common.{◌≡◌, drop}
use Rattle.std.specs.Prelude.{max}
use Rattle.sparse_row.specs.Reads.{largest_in}
use Rattle.sparse_row.proofs.scaling.largest_before.Given as goal

abbrev pub invariant-loop-entry : goal.invariant-loop-entry
invariant-loop-entry l = max l.largest (largest_in l.column (drop l.entry-index l.entries)) ≡ largest_in l.column l.entries
