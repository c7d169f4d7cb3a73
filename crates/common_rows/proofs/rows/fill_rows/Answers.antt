use Rattle.std.proofs.Common.{rules, ◌≡◌, ◌+◌, Err, map, take, ap, ◌∙◌, arith}
use Rattle.fix_core.specs.Passes.{each, joined, answer}
use Rattle.design_meaning.specs.Newton.{linear_row}
use Rattle.equation_values.specs.Reading.{readings_in}
use Rattle.equation_values.proofs.Segments.{rows_more, rows_stop, loop_end}
use Rattle.common_rows.specs.Forms.{row_by}
use Rattle.common_rows.proofs.rows.fill_rows.Goals as goal

pub returns-in_err-fill_row-clause-answer : goal.returns-in_err-fill_row-clause-answer
returns-in_err-fill_row-clause-answer c =
    let row = linear_row c.args.unknowns.now (readings_in c.args.values.now) in
    let stops : joined (take c.args.first c.args.rows.now) (each row (map row_by c.args.forms.now)) ≡ Err c.in_err-fill_row.field-0.0 =
    c.loop-i.invariant.told
    ∙ rows_stop row row_by c.args.forms.now c.loop-i.rows (take (c.args.first + c.loop-i.i) c.loop-i.rows) (c.args.first + c.loop-i.i) c.loop-i.i c.index-forms-i.result c.in_err-fill_row.field-0.0 c.loop-i-test.true c.index-forms-i.is
    (c.fill_row.ensures.answer ∙ ap (λ m. answer m c.fill_row.new.rows) c.in_err-fill_row.was) in
    rw stops (search rules)

pub loop-i-preserved : goal.loop-i-preserved
loop-i-preserved c =
    let row = linear_row c.args.unknowns.now (readings_in c.args.values.now) in
    record {
      told = c.loop-i.invariant.told
          ∙ rows_more row row_by c.args.forms.now c.loop-i.rows c.fill_row.new.rows c.args.first c.loop-i.i c.index-forms-i.result c.loop-i-test.true c.index-forms-i.is
          (omega (arith, c.requires.room, c.loop-i.invariant.count)) (c.fill_row.ensures.answer ∙ ap (λ m. answer m c.fill_row.new.rows) c.in_ok-fill_row.was);
      count = c.fill_row.ensures.count ∙ c.loop-i.invariant.count;
    }

pub returns-clause-answer : goal.returns-clause-answer
returns-clause-answer c =
    c.loop-i.invariant.told ∙ loop_end (linear_row c.args.unknowns.now (readings_in c.args.values.now)) row_by c.args.forms.now c.loop-i.rows c.args.first c.loop-i.i c.loop-i-test.false c.loop-i.auto.i-end
