use Rattle.std.proofs.Common.{◌≡◌, drop}
use Rattle.sparse_row.specs.Reads.{left_of}
use Rattle.sparse_row.proofs.products.substitute.Given as goal

abbrev pub invariant-loop-entry : goal.invariant-loop-entry
invariant-loop-entry l = left_of l.column l.numbers l.fn.sum l.entries ≡ left_of l.column l.numbers l.sum (drop l.entry-index l.entries)
