use Rattle.std.proofs.Common.{rules, ◌≡◌, ◌+◌, ◌-◌, Ok, Err, length, take, ◌++◌, refl, sym, ap, ◌∙◌, arith}
use Rattle.fix_core.specs.Passes.{each, joined, answer}
use Rattle.flat_design.specs.declared.objects.Objects.{Objects}
use Rattle.flat_design.specs.Order.{unknowns}
use Rattle.flat_design.proofs.OrderLaws.{laws}
use Rattle.design_meaning.specs.Equations.{rows_of, chosen_pairs, augmentations_from}
use Rattle.design_meaning.specs.Newton.{linear_row}
use Rattle.equation_values.specs.Reading.{readings_in}
use Rattle.common_rows.specs.Forms.{structural_set}
use Rattle.augmentation_rows.specs.Sets.{set_by}
use Rattle.equation_system.proofs.Whole.{explicit_set, parts_are, counted, places_found, told_first, told_second, told_third, all_written, first_stops, second_stops}
use Rattle.equation_system.proofs.system.EquationSystem.fill.Goals as goal

pub overflow_sub-common : goal.overflow_sub-common
overflow_sub-common c =
    let objects = c.args.self.now in
    let bs = c.args.branches.now in
    let ec = c.self.invariant.common_is ∙ c.self.view_is in
    let counts = counted objects c.flat-flat.ensures.rules bs c.requires.branches in
    let at = places_found objects c.flat-flat.result.now c.self.inside.common bs c.dots.result.now c.unknown_count.result c.len.result counts c.flat-flat.ensures.design ec c.dots.ensures c.unknown_count.ensures c.len.ensures in
    at.enough

pub fill_equations-requires-clause-size : goal.fill_equations-requires-clause-size
fill_equations-requires-clause-size c =
    ap length (c.unknowns-unknowns.ensures ∙ ap unknowns (c.self.invariant.common_is ∙ c.self.view_is)) ∙ laws.count c.args.self.now ∙ sym c.requires.size

pub fill_equations-requires-clause-room : goal.fill_equations-requires-clause-room
fill_equations-requires-clause-room c =
    let objects = c.args.self.now in
    let bs = c.args.branches.now in
    let ec = c.self.invariant.common_is ∙ c.self.view_is in
    let counts = counted objects c.flat-flat.ensures.rules bs c.requires.branches in
    let at = places_found objects c.flat-flat.result.now c.self.inside.common bs c.dots.result.now c.unknown_count.result c.len.result counts c.flat-flat.ensures.design ec c.dots.ensures c.unknown_count.ensures c.len.ensures in
    let is = c.equations.ensures ∙ ap (λ (o : Objects). o.equations) c.flat-flat.ensures.design in
    let n = ap (λ xs. length (chosen_pairs xs bs)) is in
    omega (arith, n, at.third, at.last, c.requires.size)

pub returns-in_err-fill_equations-clause-answer : goal.returns-in_err-fill_equations-clause-answer
returns-in_err-fill_equations-clause-answer c =
    let objects = c.args.self.now in
    let bs = c.args.branches.now in
    let ec = c.self.invariant.common_is ∙ c.self.view_is in
    let is = c.equations.ensures ∙ ap (λ (o : Objects). o.equations) c.flat-flat.ensures.design in
    let r = readings_in c.args.values.now in
    let s = set_by c.args.set.now in
    let es = c.args.elements.now in
    let f = linear_row (unknowns objects) r in
    let E = explicit_set objects bs in
    let S = structural_set objects in
    let A = augmentations_from s es 0 objects.dots in
    let n = length (chosen_pairs objects.equations bs) in
    let first : joined (take 0 c.args.rows.now) (each f E) ≡ Err c.in_err-fill_equations.field-0.0 = told_first f (linear_row c.unknowns-unknowns.result.now r) objects.equations c.equations.result.now bs c.args.rows.now c.fill_equations.new.rows c.fill_equations.result (ap (λ us. linear_row us r) (c.unknowns-unknowns.ensures ∙ ap unknowns ec)) is c.fill_equations.ensures.answer ∙ ap (λ m. answer m (take n c.fill_equations.new.rows)) c.in_err-fill_equations.was in
    let stops : each f (rows_of objects bs s es) ≡ Err c.in_err-fill_equations.field-0.0 = ap (each f) (parts_are objects bs s es) ∙ first_stops f E (S ++ A) c.args.rows.now c.in_err-fill_equations.field-0.0 first in
    rw stops (search rules)

pub fill-requires-clause-room : goal.fill-requires-clause-room
fill-requires-clause-room c =
    let objects = c.args.self.now in
    let bs = c.args.branches.now in
    let ec = c.self.invariant.common_is ∙ c.self.view_is in
    let counts = counted objects c.flat-flat.ensures.rules bs c.requires.branches in
    let at = places_found objects c.flat-flat.result.now c.self.inside.common bs c.dots.result.now c.unknown_count.result c.len.result counts c.flat-flat.ensures.design ec c.dots.ensures c.unknown_count.ensures c.len.ensures in
    let n = ap (λ o. length (structural_set o)) ec in
    omega (arith, n, at.second, at.third, at.last, c.fill_equations.ensures.count, c.requires.size)

pub returns-in_err-fill-clause-answer : goal.returns-in_err-fill-clause-answer
returns-in_err-fill-clause-answer c =
    let objects = c.args.self.now in
    let bs = c.args.branches.now in
    let ec = c.self.invariant.common_is ∙ c.self.view_is in
    let counts = counted objects c.flat-flat.ensures.rules bs c.requires.branches in
    let at = places_found objects c.flat-flat.result.now c.self.inside.common bs c.dots.result.now c.unknown_count.result c.len.result counts c.flat-flat.ensures.design ec c.dots.ensures c.unknown_count.ensures c.len.ensures in
    let is = c.equations.ensures ∙ ap (λ (o : Objects). o.equations) c.flat-flat.ensures.design in
    let r = readings_in c.args.values.now in
    let s = set_by c.args.set.now in
    let es = c.args.elements.now in
    let f = linear_row (unknowns objects) r in
    let E = explicit_set objects bs in
    let S = structural_set objects in
    let A = augmentations_from s es 0 objects.dots in
    let n = length (chosen_pairs objects.equations bs) in
    let first : joined (take 0 c.args.rows.now) (each f E) ≡ Ok (take n c.fill_equations.new.rows) = told_first f (linear_row c.unknowns-unknowns.result.now r) objects.equations c.equations.result.now bs c.args.rows.now c.fill_equations.new.rows c.fill_equations.result (ap (λ us. linear_row us r) (c.unknowns-unknowns.ensures ∙ ap unknowns ec)) is c.fill_equations.ensures.answer ∙ ap (λ m. answer m (take n c.fill_equations.new.rows)) c.in_ok-fill_equations.was in
    let second : joined (take n c.fill_equations.new.rows) (each f S) ≡ Err c.in_err-fill.field-0.0 = told_second (λ (o : Objects). linear_row (unknowns o) r) objects c.self.inside.common c.fill_equations.new.rows c.fill.new.rows (c.unknown_count.result - length c.dots.result.now - c.len.result) n (n + length S) c.fill.result ec at.second refl c.fill.ensures.answer ∙ ap (λ m. answer m (take (n + length S) c.fill.new.rows)) c.in_err-fill.was in
    let stops : each f (rows_of objects bs s es) ≡ Err c.in_err-fill.field-0.0 = ap (each f) (parts_are objects bs s es) ∙ second_stops f E S A c.args.rows.now c.fill_equations.new.rows n c.in_err-fill.field-0.0 first second in
    rw stops (search rules)

pub returns-clause-answer : goal.returns-clause-answer
returns-clause-answer c =
    let objects = c.args.self.now in
    let bs = c.args.branches.now in
    let ec = c.self.invariant.common_is ∙ c.self.view_is in
    let counts = counted objects c.flat-flat.ensures.rules bs c.requires.branches in
    let at = places_found objects c.flat-flat.result.now c.self.inside.common bs c.dots.result.now c.unknown_count.result c.len.result counts c.flat-flat.ensures.design ec c.dots.ensures c.unknown_count.ensures c.len.ensures in
    let is = c.equations.ensures ∙ ap (λ (o : Objects). o.equations) c.flat-flat.ensures.design in
    let r = readings_in c.args.values.now in
    let s = set_by c.args.set.now in
    let es = c.args.elements.now in
    let f = linear_row (unknowns objects) r in
    let E = explicit_set objects bs in
    let S = structural_set objects in
    let A = augmentations_from s es 0 objects.dots in
    let n = length (chosen_pairs objects.equations bs) in
    let first : joined (take 0 c.args.rows.now) (each f E) ≡ Ok (take n c.fill_equations.new.rows) = told_first f (linear_row c.unknowns-unknowns.result.now r) objects.equations c.equations.result.now bs c.args.rows.now c.fill_equations.new.rows c.fill_equations.result (ap (λ us. linear_row us r) (c.unknowns-unknowns.ensures ∙ ap unknowns ec)) is c.fill_equations.ensures.answer ∙ ap (λ m. answer m (take n c.fill_equations.new.rows)) c.in_ok-fill_equations.was in
    let second : joined (take n c.fill_equations.new.rows) (each f S) ≡ Ok (take (n + length S) c.fill.new.rows) = told_second (λ (o : Objects). linear_row (unknowns o) r) objects c.self.inside.common c.fill_equations.new.rows c.fill.new.rows (c.unknown_count.result - length c.dots.result.now - c.len.result) n (n + length S) c.fill.result ec at.second refl c.fill.ensures.answer ∙ ap (λ m. answer m (take (n + length S) c.fill.new.rows)) c.in_ok-fill.was in
    let d = c.unknown_count.result - length c.dots.result.now in
    let third : joined (take (n + length S) c.fill.new.rows) (each f A) ≡ answer c.fill_augmentations.result (take (d + length objects.dots) c.fill_augmentations.new.rows) = told_third (λ (o : Objects). linear_row (unknowns o) r) objects c.flat-flat.result.now s es c.fill.new.rows c.fill_augmentations.new.rows (c.unknown_count.result - length c.dots.result.now) (n + length S) c.fill_augmentations.result c.flat-flat.ensures.design at.third c.fill_augmentations.ensures.answer in
    ap (each f) (parts_are objects bs s es)
    ∙ all_written f E S A c.args.rows.now c.fill_equations.new.rows c.fill.new.rows c.fill_augmentations.new.rows n (n + length S) (d + length objects.dots) c.fill_augmentations.result first second third
    (omega (arith, at.last, c.fill_equations.ensures.count, c.fill.ensures.count, c.fill_augmentations.ensures.count, c.requires.size))
