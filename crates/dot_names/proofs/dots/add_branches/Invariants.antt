use Rattle.std.proofs.Common.{◌≡◌, ◌++◌, drop}
use Rattle.std.specs.List.{flat_map}
use Rattle.ams_tree.specs.declared.concurrent.SimultaneousBranch.{SimultaneousBranch}
use Rattle.unit_meaning.specs.Simultaneous as spec
use Rattle.dot_names.proofs.dots.add_branches.Given as goal

abbrev pub invariant-loop-branch : goal.invariant-loop-branch
invariant-loop-branch l =
    l.dots ++ spec.dots_in_equations (flat_map (λ (b : SimultaneousBranch). b.equations) (drop l.branch-index l.branches))
    ≡ l.fn.dots ++ spec.dots_in_equations (flat_map (λ (b : SimultaneousBranch). b.equations) l.branches)
