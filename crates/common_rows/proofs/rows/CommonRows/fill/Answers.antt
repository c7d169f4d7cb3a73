use Rattle.std.proofs.Common.{◌≡◌, ◌+◌, length, map, take, sym, ap, subst, ◌∙◌, arith}
use Rattle.fix_core.specs.Passes.{each, joined, answer}
use Rattle.flat_design.specs.declared.objects.Objects.{Objects}
use Rattle.flat_design.specs.Order.{unknowns, unknown_count}
use Rattle.flat_design.proofs.OrderLaws.{laws}
use Rattle.design_meaning.specs.Newton.{linear_row}
use Rattle.equation_values.specs.Reading.{readings_in}
use Rattle.common_rows.specs.Forms.{row_by, structural_set}
use Rattle.common_rows.proofs.Structural.{rows_are, count_is}
use Rattle.common_rows.proofs.rows.CommonRows.fill.Goals as goal

pub fill_rows-requires-clause-room : goal.fill_rows-requires-clause-room
fill_rows-requires-clause-room c =
    let count = count_is c.self.inside.flat.now c.as_slice.result.now (c.as_slice.ensures ∙ c.self.invariant.forms_are) ∙ ap (λ o. length (structural_set o)) c.self.view_is in
    omega (arith, count, c.requires.room)

pub fill_rows-requires-clause-size : goal.fill_rows-requires-clause-size
fill_rows-requires-clause-size c =
    ap length (c.as_slice-3.ensures ∙ c.self.invariant.unknowns_are) ∙ laws.count c.self.inside.flat.now ∙ ap unknown_count c.self.view_is ∙ sym c.requires.size

pub returns-clause-answer : goal.returns-clause-answer
returns-clause-answer c =
    let forms = c.as_slice.result.now in
    let r = readings_in c.args.values.now in
    let front = take c.args.first c.args.rows.now in
    let is = c.as_slice.ensures ∙ c.self.invariant.forms_are in
    let rows = ap (map row_by) is ∙ rows_are c.self.inside.flat.now in
    let count = count_is c.self.inside.flat.now forms is in
    let P : Objects → Type 0 = λ o. joined front (each (linear_row (unknowns o) r) (structural_set o)) ≡ answer c.fill_rows.result (take (c.args.first + length (structural_set o)) c.fill_rows.new.rows) in
    subst P c.self.view_is
    (ap (λ us. joined front (each (linear_row us r) (structural_set c.self.inside.flat.now))) (sym (c.as_slice-3.ensures ∙ c.self.invariant.unknowns_are))
    ∙ ap (λ rs. joined front (each (linear_row c.as_slice-3.result.now r) rs)) (sym rows)
    ∙ c.fill_rows.ensures.answer
    ∙ ap (λ n. answer c.fill_rows.result (take (c.args.first + n) c.fill_rows.new.rows)) count)
