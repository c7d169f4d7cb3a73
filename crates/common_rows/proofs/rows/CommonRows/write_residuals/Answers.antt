use Rattle.std.proofs.Common.{◌≡◌, ◌+◌, length, map, take, sym, ap, subst, ◌∙◌, arith}
use Rattle.fix_core.specs.Passes.{each, joined, answer}
use Rattle.flat_design.specs.declared.objects.Objects.{Objects}
use Rattle.equation_values.specs.Reading.{readings_in}
use Rattle.equation_values.specs.Residuals.{residual_at}
use Rattle.common_rows.specs.Forms.{row_by, structural_set}
use Rattle.common_rows.proofs.Structural.{rows_are, count_is}
use Rattle.common_rows.proofs.rows.CommonRows.write_residuals.Goals as goal

pub write_each-requires : goal.write_each-requires
write_each-requires c =
    let count = count_is c.self.inside.flat.now c.as_slice.result.now (c.as_slice.ensures ∙ c.self.invariant.forms_are) ∙ ap (λ o. length (structural_set o)) c.self.view_is in
    omega (arith, count, c.requires)

pub returns-clause-answer : goal.returns-clause-answer
returns-clause-answer c =
    let forms = c.as_slice.result.now in
    let is = c.as_slice.ensures ∙ c.self.invariant.forms_are in
    let rows = ap (map row_by) is ∙ rows_are c.self.inside.flat.now in
    let count = count_is c.self.inside.flat.now forms is in
    let P : Objects → Type 0 = λ o. joined (take c.args.first c.args.out.now) (each (residual_at (readings_in c.args.values.now)) (structural_set o)) ≡ answer c.write_each.result (take (c.args.first + length (structural_set o)) c.write_each.new.out) in
    subst P c.self.view_is
    (ap (λ rs. joined (take c.args.first c.args.out.now) (each (residual_at (readings_in c.args.values.now)) rs)) (sym rows)
    ∙ c.write_each.ensures.answer
    ∙ ap (λ n. answer c.write_each.result (take (c.args.first + n) c.write_each.new.out)) count)
