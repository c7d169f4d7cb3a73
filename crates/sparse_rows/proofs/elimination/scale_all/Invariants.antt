use Rattle.std.proofs.Common.{◌≡◌, length, take, drop}
use Rattle.std.specs.List.{All}
use Rattle.fix_core.specs.Passes.{each, joined}
use Rattle.lin_solve.specs.Elimination.{scaled, scaled_all}
use Rattle.sparse_rows.proofs.elimination.scale_all.Given as goal

abbrev pub invariant-loop-i : goal.invariant-loop-i
invariant-loop-i l = record {
  so_far : scaled_all l.fn.rows ≡ joined (take l.i l.rows) (each (scaled 12) (drop l.i l.rows));
  rows : All (λ row. length row ≡ l.width) l.rows;
}
