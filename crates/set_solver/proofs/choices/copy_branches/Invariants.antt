use Rattle.std.proofs.Common.{◌≡◌, length, take}
use Rattle.set_solver.proofs.choices.copy_branches.Given as goal

abbrev pub invariant-loop-k : goal.invariant-loop-k
invariant-loop-k l = record {
  written : take l.k l.out ≡ take l.k l.branches;
  count : length l.out ≡ length l.fn.out;
}
