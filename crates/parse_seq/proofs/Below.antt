-- The levels inside a statement, as the code computes them.
use Rattle.std.proofs.Common.{◌≡◌, ℕ, zero, suc, ◌-◌, arith}
use Rattle.ams_tree.specs.Expressions.{below}

pub one_less : (n : ℕ) → below n ≡ n - 1
one_less zero = omega arith
one_less (suc n) = omega arith
