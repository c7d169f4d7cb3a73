use Rattle.std.proofs.Common.{◌≡◌, ◌+◌, drop}
use Rattle.lin_solve.specs.Elimination.{right_side, substituted}
use Rattle.lin_solve.proofs.first_unknown.Given as goal

abbrev pub invariant-loop-i : goal.invariant-loop-i
invariant-loop-i l = substituted (right_side l.row) (drop (l.column + 1) l.row) l.others ≡ substituted l.sum (drop l.i (drop (l.column + 1) l.row)) (drop l.i l.others)
