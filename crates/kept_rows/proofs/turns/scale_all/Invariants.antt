use Rattle.std.proofs.Common.{◌≡◌, length, take, drop}
use Rattle.std.specs.List.{All}
use Rattle.fix_core.specs.Passes.{each, joined}
use Rattle.kept_elimination.specs.Kept.{scaling}
use Rattle.kept_rows.specs.Told.{scalings}
use Rattle.kept_rows.proofs.turns.scale_all.Given as goal

abbrev pub invariant-loop-i : goal.invariant-loop-i
invariant-loop-i l = record {
  so_far : each (scaling 12) l.fn.rows ≡ joined (scalings (take l.i l.turns) (take l.i l.rows)) (each (scaling 12) (drop l.i l.rows));
  rows : All (λ row. length row ≡ l.width) l.rows;
}
