use Rattle.std.proofs.Common.{take}
use Rattle.std.specs.List.{All}
use Rattle.fix_core.specs.Fixed.{IsInRange}
use Rattle.kept_rows.proofs.matrix.see_ranges.Given as goal

abbrev pub invariant-loop-i : goal.invariant-loop-i
invariant-loop-i l = All IsInRange (take l.i l.numbers)
