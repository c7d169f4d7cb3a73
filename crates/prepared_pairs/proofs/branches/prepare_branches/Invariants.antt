use Rattle.std.proofs.Common.{◌≡◌, map, take}
use Rattle.prepared_pairs.specs.Prepared.{prepared_by_branch}
use Rattle.prepared_pairs.proofs.branches.prepare_branches.Given as goal

abbrev pub invariant-loop-equation : goal.invariant-loop-equation
invariant-loop-equation l = l.all ≡ map (prepared_by_branch l.unknowns) (take l.equation-index l.equations)
