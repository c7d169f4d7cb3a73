use Rattle.std.proofs.Common.{◌≡◌, length, take, drop}
use Rattle.std.specs.List.{All}
use Rattle.fix_core.specs.Passes.{each, joined}
use Rattle.lin_solve.specs.Elimination.{reduced, reduced_all}
use Rattle.sparse_rows.proofs.elimination.reduce_all.Given as goal

abbrev pub invariant-loop-i : goal.invariant-loop-i
invariant-loop-i l = record {
  so_far : reduced_all l.column l.pivot l.fn.rows ≡ joined (take l.i l.rows) (each (reduced l.column l.pivot) (drop l.i l.rows));
  rows : All (λ row. length row ≡ length l.pivot) l.rows;
  spare : length l.spare ≡ length l.pivot;
}
