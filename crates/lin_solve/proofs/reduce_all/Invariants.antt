use Rattle.std.proofs.Common.{◌≡◌, length, take, drop}
use Rattle.std.specs.List.{All}
use Rattle.lin_solve.specs.Entries.{items_of, IsRow}
use Rattle.fix_core.specs.Passes.{each}
use Rattle.lin_solve.specs.Elimination.{reduced, reduced_all}
use Rattle.fix_core.specs.Passes.{joined}
use Rattle.lin_solve.proofs.reduce_all.Given as goal

abbrev pub invariant-loop-i : goal.invariant-loop-i
invariant-loop-i l = record {
  so_far : reduced_all l.column l.pivot (items_of l.fn.rows) ≡ joined (take l.i (items_of l.rows)) (each (reduced l.column l.pivot) (drop l.i (items_of l.rows)));
  rows : All (IsRow (length l.pivot)) (items_of l.rows);
}
