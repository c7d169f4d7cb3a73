use Rattle.std.proofs.Common.{◌≡◌, take, drop}
use Rattle.std.specs.List.{All}
use Rattle.fix_core.specs.Fixed.{IsInRange}
use Rattle.lin_solve.specs.Elimination.{minus_row}
use Rattle.fix_core.specs.Passes.{joined}
use Rattle.lin_solve.proofs.minus_row.Given as goal

abbrev pub invariant-loop-i : goal.invariant-loop-i
invariant-loop-i l = record {
  so_far : minus_row l.factor l.pivot l.fn.row ≡ joined (take l.i l.row) (minus_row l.factor (drop l.i l.pivot) (drop l.i l.row));
  within : All IsInRange l.row;
}
