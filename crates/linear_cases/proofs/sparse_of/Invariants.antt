use Rattle.std.proofs.Common.{◌≡◌, length}
use Rattle.linear_cases.proofs.sparse_of.Given as goal

abbrev pub invariant-loop-column : goal.invariant-loop-column
invariant-loop-column l = length l.sparse ≡ l.n

abbrev pub invariant-loop-row : goal.invariant-loop-row
invariant-loop-row l = length l.sparse ≡ l.n
