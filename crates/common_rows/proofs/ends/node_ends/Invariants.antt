use Rattle.std.proofs.Common.{◌≡◌, ◌++◌, drop}
use Rattle.design_meaning.specs.Equations.{ends_from}
use Rattle.common_rows.proofs.ends.node_ends.Given as goal

abbrev pub invariant-loop-i : goal.invariant-loop-i
invariant-loop-i l = ends_from l.node 0 l.quantities ≡ l.ends ++ ends_from l.node l.i (drop l.i l.quantities)
