use Rattle.std.proofs.Common.{◌≡◌, ◌+◌, map, take, drop}
use Rattle.fix_core.specs.Passes.{each, joined}
use Rattle.design_meaning.specs.Equations.{row_of}
use Rattle.equation_values.specs.Residuals.{residual_at}
use Rattle.equation_values.specs.Reading.{readings_in}
use Rattle.explicit_rows.proofs.residual.write_residuals.Given as goal

abbrev pub invariant-loop-i : goal.invariant-loop-i
invariant-loop-i l =
    let row = residual_at (readings_in l.values) in
    joined (take l.first l.fn.out) (each row (map row_of l.pairs)) ≡ joined (take (l.first + l.i) l.out) (each row (map row_of (drop l.i l.pairs)))
