use Rattle.std.proofs.Common.{◌≡◌, length, drop}
use Rattle.std.specs.List.{All}
use Rattle.fix_core.specs.Fixed.{IsInRange}
use Rattle.sparse_row.specs.Reads.{lost_in}
use Rattle.sparse_row.proofs.products.subtract.Given as goal

abbrev pub invariant-loop-entry : goal.invariant-loop-entry
invariant-loop-entry l = record {
  so_far : lost_in l.factor l.entries l.fn.numbers ≡ lost_in l.factor (drop l.entry-index l.entries) l.numbers;
  within : All IsInRange l.numbers;
}
