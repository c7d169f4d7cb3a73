use Rattle.std.proofs.Common.{rules, ◌≡◌, Err, pos, sym, ◌∙◌}
use Rattle.design_meaning.specs.Equations.{balance_from}
use Rattle.equation_values.specs.Reading.{readings_in}
use Rattle.common_rows.proofs.Structural.{balance_next, balance_stops, balance_end}
use Rattle.common_rows.proofs.residual.sum_residual.Goals as goal

pub returns-in_err-total : goal.returns-in_err-total
returns-in_err-total c =
    let r = readings_in c.args.values.now in
    let stops : balance_from r (pos 0) c.args.ends.now ≡ Err c.in_err-total.field-0.0 =
    c.loop-i.invariant ∙ balance_stops r c.loop-i.total c.args.ends.now c.loop-i.i c.index-ends-i.result c.in_err-total.field-0.0 c.loop-i-test.true c.index-ends-i.is (sym c.with_end.ensures ∙ c.in_err-total.was) in
    rw stops (search rules)

pub loop-i-preserved : goal.loop-i-preserved
loop-i-preserved c =
    c.loop-i.invariant
    ∙ balance_next (readings_in c.args.values.now) c.loop-i.total c.args.ends.now c.loop-i.i c.index-ends-i.result c.in_ok-total.total c.loop-i-test.true c.index-ends-i.is (sym c.with_end.ensures ∙ c.in_ok-total.was)

pub returns : goal.returns
returns c = sym (c.loop-i.invariant ∙ balance_end (readings_in c.args.values.now) c.loop-i.total c.args.ends.now c.loop-i.i c.loop-i-test.false)
