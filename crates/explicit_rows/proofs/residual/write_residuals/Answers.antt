use Rattle.std.proofs.Common.{rules, ◌≡◌, ◌+◌, Err, map, take, sym, ◌∙◌, arith}
use Rattle.fix_core.specs.Passes.{each, joined}
use Rattle.design_meaning.specs.Equations.{row_of}
use Rattle.equation_values.specs.Residuals.{residual_at}
use Rattle.equation_values.proofs.Segments.{loop_more, loop_stops, loop_end}
use Rattle.equation_values.specs.Reading.{readings_in}
use Rattle.explicit_rows.proofs.residual.write_residuals.Goals as goal

pub returns-in_err-out-clause-answer : goal.returns-in_err-out-clause-answer
returns-in_err-out-clause-answer c =
    let row = residual_at (readings_in c.args.values.now) in
    let stops : joined (take c.args.first c.args.out.now) (each row (map row_of c.args.pairs.now)) ≡ Err c.in_err-out.field-0.0 =
    c.loop-i.invariant ∙ loop_stops row row_of c.args.pairs.now (take (c.args.first + c.loop-i.i) c.loop-i.out) c.loop-i.i c.index-pairs-i.result c.in_err-out.field-0.0 c.loop-i-test.true c.index-pairs-i.is (sym c.pair_residual.ensures ∙ c.in_err-out.was) in
    rw stops (search rules)

pub loop-i-preserved : goal.loop-i-preserved
loop-i-preserved c =
    let row = residual_at (readings_in c.args.values.now) in
    c.loop-i.invariant
    ∙ loop_more row row_of c.args.pairs.now c.loop-i.out c.args.first c.loop-i.i c.index-pairs-i.result c.in_ok-out.field-0 c.loop-i-test.true c.index-pairs-i.is (omega (arith, c.loop-i.auto.out, c.requires.room)) (sym c.pair_residual.ensures ∙ c.in_ok-out.was)

pub returns-clause-answer : goal.returns-clause-answer
returns-clause-answer c =
    c.loop-i.invariant ∙ loop_end (residual_at (readings_in c.args.values.now)) row_of c.args.pairs.now c.loop-i.out c.args.first c.loop-i.i c.loop-i-test.false c.loop-i.auto.i-end
