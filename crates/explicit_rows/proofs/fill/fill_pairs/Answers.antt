use Rattle.std.proofs.Common.{rules, ◌≡◌, ◌+◌, Err, map, take, ap, ◌∙◌, arith}
use Rattle.fix_core.specs.Passes.{each, joined, answer}
use Rattle.design_meaning.specs.Equations.{row_of}
use Rattle.design_meaning.specs.Newton.{linear_row}
use Rattle.equation_values.specs.Reading.{readings_in}
use Rattle.equation_values.proofs.Segments.{rows_more, rows_stop, loop_end}
use Rattle.explicit_rows.proofs.fill.fill_pairs.Goals as goal

pub returns-in_err-fill_pair-clause-answer : goal.returns-in_err-fill_pair-clause-answer
returns-in_err-fill_pair-clause-answer c =
    let row = linear_row c.args.unknowns.now (readings_in c.args.values.now) in
    let stops : joined (take c.args.first c.args.rows.now) (each row (map row_of c.args.pairs.now)) ≡ Err c.in_err-fill_pair.field-0.0 =
    c.loop-i.invariant.told
    ∙ rows_stop row row_of c.args.pairs.now c.loop-i.rows (take (c.args.first + c.loop-i.i) c.loop-i.rows) (c.args.first + c.loop-i.i) c.loop-i.i c.index-pairs-i.result c.in_err-fill_pair.field-0.0 c.loop-i-test.true c.index-pairs-i.is
    (c.fill_pair.ensures.answer ∙ ap (λ m. answer m c.fill_pair.new.rows) c.in_err-fill_pair.was) in
    rw stops (search rules)

pub loop-i-preserved : goal.loop-i-preserved
loop-i-preserved c =
    let row = linear_row c.args.unknowns.now (readings_in c.args.values.now) in
    record {
      told = c.loop-i.invariant.told
          ∙ rows_more row row_of c.args.pairs.now c.loop-i.rows c.fill_pair.new.rows c.args.first c.loop-i.i c.index-pairs-i.result c.loop-i-test.true c.index-pairs-i.is
          (omega (arith, c.requires.room, c.loop-i.invariant.count)) (c.fill_pair.ensures.answer ∙ ap (λ m. answer m c.fill_pair.new.rows) c.in_ok-fill_pair.was);
      count = c.fill_pair.ensures.count ∙ c.loop-i.invariant.count;
    }

pub returns-clause-answer : goal.returns-clause-answer
returns-clause-answer c =
    c.loop-i.invariant.told ∙ loop_end (linear_row c.args.unknowns.now (readings_in c.args.values.now)) row_of c.args.pairs.now c.loop-i.rows c.args.first c.loop-i.i c.loop-i-test.false c.loop-i.auto.i-end
