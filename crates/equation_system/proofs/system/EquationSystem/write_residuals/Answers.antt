use Rattle.std.proofs.Common.{rules, ◌≡◌, ◌+◌, ◌-◌, Ok, Err, length, take, ◌++◌, refl, ap, ◌∙◌, arith}
use Rattle.fix_core.specs.Passes.{each, joined, answer}
use Rattle.flat_design.specs.declared.objects.Objects.{Objects}
use Rattle.design_meaning.specs.Equations.{rows_of, chosen_pairs, augmentations_from}
use Rattle.equation_values.specs.Residuals.{residual_at}
use Rattle.equation_values.specs.Reading.{readings_in}
use Rattle.common_rows.specs.Forms.{structural_set}
use Rattle.augmentation_rows.specs.Sets.{set_by}
use Rattle.equation_system.proofs.Whole.{explicit_set, parts_are, counted, places_found, told_first, told_second, told_third, all_written, first_stops, second_stops}
use Rattle.equation_system.proofs.system.EquationSystem.write_residuals.Goals as goal

pub overflow_sub-common : goal.overflow_sub-common
overflow_sub-common c =
    let objects = c.args.self.now in
    let bs = c.args.branches.now in
    let ec = c.self.invariant.common_is ∙ c.self.view_is in
    let counts = counted objects c.flat-flat.ensures.rules bs c.requires.branches in
    let at = places_found objects c.flat-flat.result.now c.self.inside.common bs c.dots.result.now c.unknown_count.result c.len.result counts c.flat-flat.ensures.design ec c.dots.ensures c.unknown_count.ensures c.len.ensures in
    at.enough

pub write_residuals-requires-clause-room : goal.write_residuals-requires-clause-room
write_residuals-requires-clause-room c =
    let objects = c.args.self.now in
    let bs = c.args.branches.now in
    let ec = c.self.invariant.common_is ∙ c.self.view_is in
    let counts = counted objects c.flat-flat.ensures.rules bs c.requires.branches in
    let at = places_found objects c.flat-flat.result.now c.self.inside.common bs c.dots.result.now c.unknown_count.result c.len.result counts c.flat-flat.ensures.design ec c.dots.ensures c.unknown_count.ensures c.len.ensures in
    let is = c.equations.ensures ∙ ap (λ (o : Objects). o.equations) c.flat-flat.ensures.design in
    let n = ap (λ xs. length (chosen_pairs xs bs)) is in
    omega (arith, n, at.third, at.last, c.requires.room)

pub returns-in_err-write_residuals-clause-answer : goal.returns-in_err-write_residuals-clause-answer
returns-in_err-write_residuals-clause-answer c =
    let objects = c.args.self.now in
    let bs = c.args.branches.now in
    let is = c.equations.ensures ∙ ap (λ (o : Objects). o.equations) c.flat-flat.ensures.design in
    let r = readings_in c.args.values.now in
    let s = set_by c.args.set.now in
    let es = c.args.elements.now in
    let f = residual_at r in
    let E = explicit_set objects bs in
    let S = structural_set objects in
    let A = augmentations_from s es 0 objects.dots in
    let n = length (chosen_pairs objects.equations bs) in
    let first : joined (take 0 c.args.out.now) (each f E) ≡ Err c.in_err-write_residuals.field-0.0 = told_first f (residual_at r) objects.equations c.equations.result.now bs c.args.out.now c.write_residuals.new.out c.write_residuals.result refl is c.write_residuals.ensures.answer ∙ ap (λ m. answer m (take n c.write_residuals.new.out)) c.in_err-write_residuals.was in
    let stops : each f (rows_of objects bs s es) ≡ Err c.in_err-write_residuals.field-0.0 = ap (each f) (parts_are objects bs s es) ∙ first_stops f E (S ++ A) c.args.out.now c.in_err-write_residuals.field-0.0 first in
    rw stops (search rules)

pub write_residuals-requires-2 : goal.write_residuals-requires-2
write_residuals-requires-2 c =
    let objects = c.args.self.now in
    let bs = c.args.branches.now in
    let ec = c.self.invariant.common_is ∙ c.self.view_is in
    let counts = counted objects c.flat-flat.ensures.rules bs c.requires.branches in
    let at = places_found objects c.flat-flat.result.now c.self.inside.common bs c.dots.result.now c.unknown_count.result c.len.result counts c.flat-flat.ensures.design ec c.dots.ensures c.unknown_count.ensures c.len.ensures in
    let n = ap (λ o. length (structural_set o)) ec in
    omega (arith, n, at.second, at.third, at.last, c.write_residuals.ensures.count, c.requires.room)

pub returns-in_err-write_residuals-2-clause-answer : goal.returns-in_err-write_residuals-2-clause-answer
returns-in_err-write_residuals-2-clause-answer c =
    let objects = c.args.self.now in
    let bs = c.args.branches.now in
    let ec = c.self.invariant.common_is ∙ c.self.view_is in
    let counts = counted objects c.flat-flat.ensures.rules bs c.requires.branches in
    let at = places_found objects c.flat-flat.result.now c.self.inside.common bs c.dots.result.now c.unknown_count.result c.len.result counts c.flat-flat.ensures.design ec c.dots.ensures c.unknown_count.ensures c.len.ensures in
    let is = c.equations.ensures ∙ ap (λ (o : Objects). o.equations) c.flat-flat.ensures.design in
    let r = readings_in c.args.values.now in
    let s = set_by c.args.set.now in
    let es = c.args.elements.now in
    let f = residual_at r in
    let E = explicit_set objects bs in
    let S = structural_set objects in
    let A = augmentations_from s es 0 objects.dots in
    let n = length (chosen_pairs objects.equations bs) in
    let first : joined (take 0 c.args.out.now) (each f E) ≡ Ok (take n c.write_residuals.new.out) = told_first f (residual_at r) objects.equations c.equations.result.now bs c.args.out.now c.write_residuals.new.out c.write_residuals.result refl is c.write_residuals.ensures.answer ∙ ap (λ m. answer m (take n c.write_residuals.new.out)) c.in_ok-write_residuals.was in
    let second : joined (take n c.write_residuals.new.out) (each f S) ≡ Err c.in_err-write_residuals-2.field-0.0 = told_second (λ (o : Objects). residual_at r) objects c.self.inside.common c.write_residuals.new.out c.write_residuals-2.new.out (c.unknown_count.result - length c.dots.result.now - c.len.result) n (n + length S) c.write_residuals-2.result ec at.second refl c.write_residuals-2.ensures.answer ∙ ap (λ m. answer m (take (n + length S) c.write_residuals-2.new.out)) c.in_err-write_residuals-2.was in
    let stops : each f (rows_of objects bs s es) ≡ Err c.in_err-write_residuals-2.field-0.0 = ap (each f) (parts_are objects bs s es) ∙ second_stops f E S A c.args.out.now c.write_residuals.new.out n c.in_err-write_residuals-2.field-0.0 first second in
    rw stops (search rules)

pub returns-clause-answer : goal.returns-clause-answer
returns-clause-answer c =
    let objects = c.args.self.now in
    let bs = c.args.branches.now in
    let ec = c.self.invariant.common_is ∙ c.self.view_is in
    let counts = counted objects c.flat-flat.ensures.rules bs c.requires.branches in
    let at = places_found objects c.flat-flat.result.now c.self.inside.common bs c.dots.result.now c.unknown_count.result c.len.result counts c.flat-flat.ensures.design ec c.dots.ensures c.unknown_count.ensures c.len.ensures in
    let is = c.equations.ensures ∙ ap (λ (o : Objects). o.equations) c.flat-flat.ensures.design in
    let r = readings_in c.args.values.now in
    let s = set_by c.args.set.now in
    let es = c.args.elements.now in
    let f = residual_at r in
    let E = explicit_set objects bs in
    let S = structural_set objects in
    let A = augmentations_from s es 0 objects.dots in
    let n = length (chosen_pairs objects.equations bs) in
    let first : joined (take 0 c.args.out.now) (each f E) ≡ Ok (take n c.write_residuals.new.out) = told_first f (residual_at r) objects.equations c.equations.result.now bs c.args.out.now c.write_residuals.new.out c.write_residuals.result refl is c.write_residuals.ensures.answer ∙ ap (λ m. answer m (take n c.write_residuals.new.out)) c.in_ok-write_residuals.was in
    let second : joined (take n c.write_residuals.new.out) (each f S) ≡ Ok (take (n + length S) c.write_residuals-2.new.out) = told_second (λ (o : Objects). residual_at r) objects c.self.inside.common c.write_residuals.new.out c.write_residuals-2.new.out (c.unknown_count.result - length c.dots.result.now - c.len.result) n (n + length S) c.write_residuals-2.result ec at.second refl c.write_residuals-2.ensures.answer ∙ ap (λ m. answer m (take (n + length S) c.write_residuals-2.new.out)) c.in_ok-write_residuals-2.was in
    let d = c.unknown_count.result - length c.dots.result.now in
    let third : joined (take (n + length S) c.write_residuals-2.new.out) (each f A) ≡ answer c.write_residuals-3.result (take (d + length objects.dots) c.write_residuals-3.new.out) = told_third (λ (o : Objects). residual_at r) objects c.flat-flat.result.now s es c.write_residuals-2.new.out c.write_residuals-3.new.out (c.unknown_count.result - length c.dots.result.now) (n + length S) c.write_residuals-3.result c.flat-flat.ensures.design at.third c.write_residuals-3.ensures.answer in
    ap (each f) (parts_are objects bs s es)
    ∙ all_written f E S A c.args.out.now c.write_residuals.new.out c.write_residuals-2.new.out c.write_residuals-3.new.out n (n + length S) (d + length objects.dots) c.write_residuals-3.result first second third
    (omega (arith, at.last, c.write_residuals.ensures.count, c.write_residuals-2.ensures.count, c.write_residuals-3.ensures.count, c.requires.room))
