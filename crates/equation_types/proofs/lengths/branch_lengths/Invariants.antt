use Rattle.std.proofs.Common.{◌≡◌, ◌++◌, length, map, drop}
use Rattle.ams_tree.specs.declared.concurrent.SimultaneousBranch.{SimultaneousBranch}
use Rattle.equation_types.proofs.lengths.branch_lengths.Given as goal

abbrev pub invariant-loop-branch : goal.invariant-loop-branch
invariant-loop-branch l =
    l.lengths ++ map (λ (b : SimultaneousBranch). length b.equations) (drop l.branch-index l.branches) ≡ map (λ (b : SimultaneousBranch). length b.equations) l.branches
