use Rattle.std.proofs.Common.{rules, ◌≡◌, ◌<◌, ◌+◌, Err, length, take, get_or, ap, subst, ◌∙◌, arith}
use Rattle.fix_core.specs.Passes.{each, joined, answer}
use Rattle.flat_design.specs.Order.{unknowns}
use Rattle.design_meaning.specs.Equations.{augmentations_from}
use Rattle.design_meaning.specs.Newton.{linear_row}
use Rattle.equation_values.specs.Reading.{readings_in}
use Rattle.augmentation_rows.specs.Sets.{set_by}
use Rattle.augmentation_rows.specs.Forms.{row_by, dot_row}
use Rattle.augmentation_rows.proofs.Elements.{rows_more, rows_stop, dots_end, dot_below, known_row, short_row}
use Rattle.augmentation_rows.proofs.fill.fill_augmentations.Goals as goal

pub fill_row-requires-clause-known : goal.fill_row-requires-clause-known
fill_row-requires-clause-known c =
    let objects = c.args.flat.now in
    let i = c.loop-i.i in
    let lt : i < length objects.dots = subst (λ ds. i < length ds) c.dots-dots.ensures c.loop-i-test.true in
    known_row objects c.args.set.now c.args.elements.now i (get_or objects.dots i 0) c.requires.elements (dot_below objects i c.requires.design.dots lt) lt (row_by c.dot_form-form.result)
    (c.dot_form-form.ensures ∙ ap (λ ds. dot_row (set_by c.args.set.now) c.args.elements.now i (get_or ds i 0)) c.dots-dots.ensures)

pub fill_row-requires-clause-short : goal.fill_row-requires-clause-short
fill_row-requires-clause-short c =
    short_row c.args.set.now c.args.elements.now c.loop-i.i (get_or c.dots-dots.result.now c.loop-i.i 0) c.requires.step (row_by c.dot_form-form.result) c.dot_form-form.ensures

pub returns-in_err-fill_row-clause-answer : goal.returns-in_err-fill_row-clause-answer
returns-in_err-fill_row-clause-answer c =
    let f = linear_row (unknowns c.args.flat.now) (readings_in c.args.values.now) in
    let s = set_by c.args.set.now in
    let es = c.args.elements.now in
    let dots = c.args.flat.now.dots in
    let i = c.loop-i.i in
    let lt : i < length dots = subst (λ ds. i < length ds) c.dots-dots.ensures c.loop-i-test.true in
    let is : row_by c.dot_form-form.result ≡ dot_row s es i (get_or dots i 0) = c.dot_form-form.ensures ∙ ap (λ ds. dot_row s es i (get_or ds i 0)) c.dots-dots.ensures in
    let stops : joined (take c.args.first c.args.rows.now) (each f (augmentations_from s es 0 dots)) ≡ Err c.in_err-fill_row.field-0.0 =
    c.loop-i.invariant.told
    ∙ rows_stop f s es dots c.loop-i.rows (take (c.args.first + i) c.loop-i.rows) (c.args.first + i) i (row_by c.dot_form-form.result) c.in_err-fill_row.field-0.0 lt is
    (c.fill_row.ensures.answer ∙ ap (λ m. answer m c.fill_row.new.rows) c.in_err-fill_row.was) in
    rw stops (search rules)

pub loop-i-preserved : goal.loop-i-preserved
loop-i-preserved c =
    let f = linear_row (unknowns c.args.flat.now) (readings_in c.args.values.now) in
    let s = set_by c.args.set.now in
    let es = c.args.elements.now in
    let dots = c.args.flat.now.dots in
    let i = c.loop-i.i in
    let lt : i < length dots = subst (λ ds. i < length ds) c.dots-dots.ensures c.loop-i-test.true in
    let is : row_by c.dot_form-form.result ≡ dot_row s es i (get_or dots i 0) = c.dot_form-form.ensures ∙ ap (λ ds. dot_row s es i (get_or ds i 0)) c.dots-dots.ensures in
    record {
      told = c.loop-i.invariant.told
          ∙ rows_more f s es dots c.loop-i.rows c.fill_row.new.rows c.args.first i (row_by c.dot_form-form.result) lt is
          (omega (arith, c.requires.room, c.loop-i.invariant.count)) (c.fill_row.ensures.answer ∙ ap (λ m. answer m c.fill_row.new.rows) c.in_ok-fill_row.was);
      count = c.fill_row.ensures.count ∙ c.loop-i.invariant.count;
    }

pub returns-clause-answer : goal.returns-clause-answer
returns-clause-answer c =
    c.loop-i.invariant.told
    ∙ dots_end (linear_row (unknowns c.args.flat.now) (readings_in c.args.values.now)) (set_by c.args.set.now) c.args.elements.now c.args.flat.now.dots c.loop-i.rows c.args.first c.loop-i.i (length c.dots-dots.result.now) (ap length c.dots-dots.ensures) c.loop-i-test.false c.loop-i.auto.i-end
