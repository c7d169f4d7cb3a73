use Rattle.std.proofs.Common.{[], ◌∷◌, ◌<◌, length, subst, arith}
use Rattle.flat_design.specs.declared.objects.Equation.{Equation}
use Rattle.step_matrices.specs.Linear.{AreLinear}
use Rattle.step_matrices.proofs.Growing.{linear_more}
use Rattle.step_matrices.proofs.linear.are_linear.Goals as goal

pub loop-i-preserved : goal.loop-i-preserved
loop-i-preserved c =
    let us = c.args.unknowns.now in
    let es = c.args.equations.now in
    let h : c.loop-i.i < length es = omega arith in
    let one = subst (λ (e : Equation). AreLinear us (e ∷ [])) c.index-equations-i.is (c.is_linear.ensures c.if-not-is_linear.false) in
    linear_more us es c.loop-i.i c.index-equations-i.result h one c.loop-i.invariant
