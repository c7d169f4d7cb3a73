use Rattle.std.proofs.Common.{rules, ◌≡◌, sym, ◌∙◌, arith, Err}
use Rattle.flat_expr.specs.declared.expr.Unknown.{Unknown}
use Rattle.flat_expr.specs.declared.expr.Unknown.TheVariants.{Quantity}
use Rattle.fix_core.specs.Passes.{each}
use Rattle.design_meaning.specs.Value.{slope_of}
use Rattle.slope.proofs.Places.{each_next, each_stops, each_last}
use Rattle.slope.proofs.partial.write_slopes.Goals as goal

pub returns-in_err-out : goal.returns-in_err-out
returns-in_err-out g c =
    let by = λ (u : Unknown). slope_of c.args.expr.now u (g.V.Values.readings c.args.values.now) in
    let stops : each by c.args.unknowns.now ≡ Err c.in_err-out.field-0.0 = c.loop-i.invariant ∙ each_stops by c.args.unknowns.now c.loop-i.out c.loop-i.i (Quantity 0) c.in_err-out.field-0.0 c.loop-i-test.true (sym c.slope.ensures ∙ c.in_err-out.was) in
    rw stops (search rules)

pub loop-i-preserved : goal.loop-i-preserved
loop-i-preserved g c =
    let by = λ (u : Unknown). slope_of c.args.expr.now u (g.V.Values.readings c.args.values.now) in
    c.loop-i.invariant ∙ each_next by c.args.unknowns.now c.loop-i.out c.loop-i.i (Quantity 0) c.in_ok-out.field-0 (omega (arith, c.loop-i.auto.out, c.requires.places)) c.loop-i-test.true (sym c.slope.ensures ∙ c.in_ok-out.was)

pub returns : goal.returns
returns g c = c.loop-i.invariant ∙ each_last _ _ _ _ (omega (arith, c.loop-i.auto.out, c.requires.places)) c.loop-i-test.false
