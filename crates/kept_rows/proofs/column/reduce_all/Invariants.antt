use Rattle.std.proofs.Common.{◌≡◌, length, take, drop}
use Rattle.std.specs.List.{All}
use Rattle.fix_core.specs.Passes.{each, joined}
use Rattle.kept_elimination.specs.Kept.{reduction}
use Rattle.kept_rows.specs.Told.{reductions}
use Rattle.kept_rows.proofs.column.reduce_all.Given as goal

abbrev pub invariant-loop-i : goal.invariant-loop-i
invariant-loop-i l = record {
  so_far : each (reduction l.column l.pivot) l.fn.rows ≡ joined (reductions (take l.i l.factors) (take l.i l.rows)) (each (reduction l.column l.pivot) (drop l.i l.rows));
  rows : All (λ row. length row ≡ length l.pivot) l.rows;
  factors : length l.factors ≡ length l.rows;
  spare : length l.spare ≡ length l.pivot;
}
