use Rattle.std.proofs.Common.{◌≡◌, length}
use Rattle.bench_layers.proofs.dense.fill.Given as goal

abbrev pub invariant-loop-column : goal.invariant-loop-column
invariant-loop-column l = length l.rows ≡ 45

abbrev pub invariant-loop-row : goal.invariant-loop-row
invariant-loop-row l = length l.rows ≡ 45

abbrev pub invariant-loop-row-2 : goal.invariant-loop-row-2
invariant-loop-row-2 l = length l.rows ≡ 45
