use Rattle.std.proofs.Common.{◌≡◌, ◌+◌, pos, replicate}
use Rattle.sparse_rows.proofs.rows.SparseRows.new.Given as goal

abbrev pub invariant-loop-row : goal.invariant-loop-row
invariant-loop-row l = l.rows.items ≡ replicate l._row (replicate (l.n + 1) (pos 0))
