use Rattle.std.proofs.Common.{◌≡◌, take, drop}
use Rattle.flat_expr.specs.declared.expr.Unknown.{Unknown}
use Rattle.fix_core.specs.Passes.{each, joined}
use Rattle.design_meaning.specs.Value.{slope_of}
use Rattle.slope.proofs.partial.write_slopes.Given as goal

abbrev pub invariant-loop-i : goal.invariant-loop-i
invariant-loop-i g l =
    let by = λ (u : Unknown). slope_of l.expr u (g.V.Values.readings l.values) in
    each by l.unknowns ≡ joined (take l.i l.out) (each by (drop l.i l.unknowns))
