use Rattle.std.proofs.Common.{◌≡◌, ◌+◌}
use Rattle.math_fix.specs.Functions.{series, exp_term}
use Rattle.math_fix.proofs.exp_series.Given as goal

abbrev pub invariant-loop-k : goal.invariant-loop-k
invariant-loop-k l = record {
  term : l.term ≡ exp_term l.f l.k;
  sum : l.sum ≡ series (exp_term l.f) (l.k + 1);
}
