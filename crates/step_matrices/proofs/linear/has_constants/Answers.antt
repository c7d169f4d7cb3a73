use Rattle.std.proofs.Common.{◌<◌, length, take, arith, subst}
use Rattle.std.proofs.lemmas.List.{take_all}
use Rattle.step_matrices.specs.Linear.{HasConstants}
use Rattle.step_matrices.proofs.Growing.{constants_more}
use Rattle.step_matrices.proofs.linear.has_constants.Goals as goal

pub loop-i-preserved : goal.loop-i-preserved
loop-i-preserved c =
    let us = c.args.unknowns.now in
    let h : c.loop-i.i < length us = omega arith in
    constants_more c.args.pair.now us c.loop-i.i _ c.constant_in_row.result c.is_none.result h c.constant_in_row.ensures c.is_none.ensures c.if-is_none.false c.loop-i.invariant

pub returns : goal.returns
returns c = λ h. subst (λ us. HasConstants us c.args.pair.now) (take_all c.loop-i.i c.args.unknowns.now (omega arith)) c.loop-i.invariant
