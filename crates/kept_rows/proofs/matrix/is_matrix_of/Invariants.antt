use Rattle.std.proofs.Common.{◌≡◌, take}
use Rattle.kept_elimination.specs.Kept.{matrix_of}
use Rattle.kept_rows.proofs.matrix.is_matrix_of.Given as goal

abbrev pub invariant-loop-i : goal.invariant-loop-i
invariant-loop-i l = take l.i l.matrix ≡ take l.i (matrix_of l.rows)
