use Rattle.std.proofs.Common.{◌≡◌, take, drop}
use Rattle.std.specs.List.{All}
use Rattle.lin_solve.specs.Entries.{items_of, IsRow}
use Rattle.fix_core.specs.Passes.{each}
use Rattle.lin_solve.specs.Elimination.{scaled, scaled_all}
use Rattle.fix_core.specs.Passes.{joined}
use Rattle.lin_solve.proofs.scale_all.Given as goal

abbrev pub invariant-loop-i : goal.invariant-loop-i
invariant-loop-i l = record {
  so_far : scaled_all (items_of l.fn.rows) ≡ joined (take l.i (items_of l.rows)) (each (scaled 12) (drop l.i (items_of l.rows)));
  rows : All (IsRow l.width) (items_of l.rows);
}
