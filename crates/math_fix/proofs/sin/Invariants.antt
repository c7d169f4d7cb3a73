use Rattle.std.proofs.Common.{◌≡◌, ◌+◌}
use Rattle.math_fix.specs.Functions.{series, sin_term}
use Rattle.math_fix.proofs.sin.Given as goal

abbrev pub invariant-loop-k : goal.invariant-loop-k
invariant-loop-k l = record {
  term : l.term ≡ sin_term l.r l.k;
  sum : l.sum ≡ series (sin_term l.r) (l.k + 1);
}
