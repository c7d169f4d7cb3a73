use Rattle.std.proofs.Common.{◌≡◌, ◌<◌, ℤ, length, get_or, Option, subst, arith}
use Rattle.flat_expr.specs.declared.expr.Unknown.TheVariants.{Quantity}
use Rattle.eval_tape.specs.Tape.{IsSlope}
use Rattle.eval_tape.proofs.Results.{slopes_written}
use Rattle.eval_tape.proofs.run.write_slopes.Goals as goal

pub loop-i-preserved : goal.loop-i-preserved
loop-i-preserved c =
    let z = c.in_ok-out.field-0 in
    let unknowns = c.args.unknowns.now in
    let within : c.loop-i.i < length c.loop-i.out = omega (arith, c.loop-i.auto.out, c.requires.places, c.loop-i-test.true) in
    slopes_written unknowns c.args.constants.now c.loop-i.i c.args.code.now c.args.numbers.now c.loop-i.out z within c.loop-i.invariant
    (subst (λ (d : Option ℤ). IsSlope (get_or unknowns c.loop-i.i (Quantity 0)) d c.args.code.now c.args.numbers.now z) c.constant_at-constant.ensures c.in_ok-out.ensures)
