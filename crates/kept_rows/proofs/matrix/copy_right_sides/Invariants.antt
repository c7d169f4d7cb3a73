use Rattle.std.proofs.Common.{◌≡◌, take}
use Rattle.std.specs.List.{All}
use Rattle.fix_core.specs.Fixed.{IsInRange}
use Rattle.kept_elimination.specs.Kept.{right_sides}
use Rattle.kept_rows.proofs.matrix.copy_right_sides.Given as goal

abbrev pub invariant-loop-i : goal.invariant-loop-i
invariant-loop-i l = record {
  copied : take l.i l.numbers ≡ take l.i (right_sides l.rows);
  within : All IsInRange (take l.i l.numbers);
}
