use Rattle.std.proofs.Common.{◌≡◌, drop, pos}
use Rattle.design_meaning.specs.Equations.{balance_from}
use Rattle.equation_values.specs.Reading.{readings_in}
use Rattle.common_rows.proofs.residual.sum_residual.Given as goal

abbrev pub invariant-loop-i : goal.invariant-loop-i
invariant-loop-i l = balance_from (readings_in l.values) (pos 0) l.ends ≡ balance_from (readings_in l.values) l.total (drop l.i l.ends)
