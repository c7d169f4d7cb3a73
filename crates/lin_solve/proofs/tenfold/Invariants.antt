use Rattle.std.proofs.Common.{◌≡◌, take, drop}
use Rattle.std.specs.List.{All}
use Rattle.fix_core.specs.Fixed.{IsInRange, tenfold_of}
use Rattle.fix_core.specs.Passes.{each}
use Rattle.lin_solve.specs.Elimination.{tenfold}
use Rattle.fix_core.specs.Passes.{joined}
use Rattle.lin_solve.proofs.tenfold.Given as goal

abbrev pub invariant-loop-i : goal.invariant-loop-i
invariant-loop-i l = record {
  so_far : tenfold l.fn.row ≡ joined (take l.i l.row) (each tenfold_of (drop l.i l.row));
  within : All IsInRange l.row;
}
