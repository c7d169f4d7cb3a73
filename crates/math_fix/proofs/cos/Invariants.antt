use Rattle.std.proofs.Common.{◌≡◌, ◌+◌}
use Rattle.math_fix.specs.Functions.{series, cos_term}
use Rattle.math_fix.proofs.cos.Given as goal

abbrev pub invariant-loop-k : goal.invariant-loop-k
invariant-loop-k l = record {
  term : l.term ≡ cos_term l.r l.k;
  sum : l.sum ≡ series (cos_term l.r) (l.k + 1);
}
