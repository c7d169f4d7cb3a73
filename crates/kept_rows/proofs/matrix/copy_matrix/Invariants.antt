use Rattle.std.proofs.Common.{◌≡◌, length, take}
use Rattle.std.specs.List.{All}
use Rattle.kept_elimination.specs.Kept.{matrix_of}
use Rattle.kept_rows.proofs.matrix.copy_matrix.Given as goal

abbrev pub invariant-loop-i : goal.invariant-loop-i
invariant-loop-i l = record {
  copied : take l.i l.matrix ≡ take l.i (matrix_of l.rows);
  matrix : All (λ row. length row ≡ length l.rows) l.matrix;
}
