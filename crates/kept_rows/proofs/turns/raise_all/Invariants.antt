use Rattle.std.proofs.Common.{◌≡◌, take, drop}
use Rattle.std.specs.List.{All}
use Rattle.fix_core.specs.Fixed.{IsInRange}
use Rattle.fix_core.specs.Passes.{joined}
use Rattle.kept_elimination.specs.Kept.{raised_all}
use Rattle.kept_rows.proofs.turns.raise_all.Given as goal

abbrev pub invariant-loop-i : goal.invariant-loop-i
invariant-loop-i l = record {
  so_far : raised_all l.turns l.fn.numbers ≡ joined (take l.i l.numbers) (raised_all (drop l.i l.turns) (drop l.i l.numbers));
  within : All IsInRange l.numbers;
}
