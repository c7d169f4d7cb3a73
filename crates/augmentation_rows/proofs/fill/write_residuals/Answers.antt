use Rattle.std.proofs.Common.{rules, ◌≡◌, ◌<◌, ◌+◌, Err, length, take, get_or, sym, ap, subst, ◌∙◌, arith}
use Rattle.fix_core.specs.Passes.{each, joined}
use Rattle.design_meaning.specs.Equations.{augmentations_from}
use Rattle.equation_values.specs.Residuals.{residual_at}
use Rattle.equation_values.specs.Reading.{readings_in}
use Rattle.augmentation_rows.specs.Sets.{set_by}
use Rattle.augmentation_rows.specs.Forms.{row_by, dot_row}
use Rattle.augmentation_rows.proofs.Elements.{dots_more, dots_stop, dots_end, short_row}
use Rattle.augmentation_rows.proofs.fill.write_residuals.Goals as goal

pub residual-requires : goal.residual-requires
residual-requires c =
    short_row c.args.set.now c.args.elements.now c.loop-i.i (get_or c.dots-dots.result.now c.loop-i.i 0) c.requires.step (row_by c.dot_form-form.result) c.dot_form-form.ensures

pub returns-in_err-out-clause-answer : goal.returns-in_err-out-clause-answer
returns-in_err-out-clause-answer c =
    let f = residual_at (readings_in c.args.values.now) in
    let s = set_by c.args.set.now in
    let es = c.args.elements.now in
    let dots = c.args.flat.now.dots in
    let i = c.loop-i.i in
    let lt : i < length dots = subst (λ ds. i < length ds) c.dots-dots.ensures c.loop-i-test.true in
    let is : row_by c.dot_form-form.result ≡ dot_row s es i (get_or dots i 0) = c.dot_form-form.ensures ∙ ap (λ ds. dot_row s es i (get_or ds i 0)) c.dots-dots.ensures in
    let stops : joined (take c.args.first c.args.out.now) (each f (augmentations_from s es 0 dots)) ≡ Err c.in_err-out.field-0.0 =
    c.loop-i.invariant ∙ dots_stop f s es dots (take (c.args.first + i) c.loop-i.out) i (row_by c.dot_form-form.result) c.in_err-out.field-0.0 lt is (sym c.residual.ensures ∙ c.in_err-out.was) in
    rw stops (search rules)

pub loop-i-preserved : goal.loop-i-preserved
loop-i-preserved c =
    let f = residual_at (readings_in c.args.values.now) in
    let s = set_by c.args.set.now in
    let es = c.args.elements.now in
    let dots = c.args.flat.now.dots in
    let i = c.loop-i.i in
    let lt : i < length dots = subst (λ ds. i < length ds) c.dots-dots.ensures c.loop-i-test.true in
    let is : row_by c.dot_form-form.result ≡ dot_row s es i (get_or dots i 0) = c.dot_form-form.ensures ∙ ap (λ ds. dot_row s es i (get_or ds i 0)) c.dots-dots.ensures in
    c.loop-i.invariant
    ∙ dots_more f s es dots c.loop-i.out c.args.first i (row_by c.dot_form-form.result) c.in_ok-out.field-0 lt is (omega (arith, c.loop-i.auto.out, c.requires.room)) (sym c.residual.ensures ∙ c.in_ok-out.was)

pub returns-clause-answer : goal.returns-clause-answer
returns-clause-answer c =
    c.loop-i.invariant
    ∙ dots_end (residual_at (readings_in c.args.values.now)) (set_by c.args.set.now) c.args.elements.now c.args.flat.now.dots c.loop-i.out c.args.first c.loop-i.i (length c.dots-dots.result.now) (ap length c.dots-dots.ensures) c.loop-i-test.false c.loop-i.auto.i-end
