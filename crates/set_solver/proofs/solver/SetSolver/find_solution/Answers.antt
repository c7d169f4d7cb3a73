-- The parts of a solution at one time, joined.
use Rattle.std.proofs.Common.{rules, ◌≡◌, ℤ, List, Ok, Err, sym, ap, ◌∙◌}
use Rattle.std.proofs.lemmas.List.{with_items_is}
use Rattle.flat_design.specs.declared.objects.Objects.{Objects}
use Rattle.step_data.specs.declared.breaks.Element.{Element}
use Rattle.step_data.specs.declared.outcome.ChooseKind.{ChooseKind}
use Rattle.design_meaning.specs.Newton.{newton}
use Rattle.design_meaning.specs.Solutions.{settled_problem}
use Rattle.design_meaning.specs.Steps.{choose, rounds, kind_of_set, settle}
use Rattle.set_solver.proofs.Solving.{settle_not_chosen, settle_is}
use Rattle.set_solver.proofs.solver.SetSolver.find_solution.Goals as goal

pub returns-in_err-choose-clause-answer : goal.returns-in_err-choose-clause-answer
returns-in_err-choose-clause-answer c =
    let none : choose c.self.inside.system c.args.frame.now c.args.t (kind_of_set c.args.set) c.args.x.now ≡ Err c.in_err-choose.field-0.0 =
    ap (λ (z : List ℤ). choose c.self.inside.system c.args.frame.now c.args.t (kind_of_set c.args.set) z) (sym c.copy_from.ensures)
    ∙ ap (λ (k : ChooseKind). choose c.self.inside.system c.args.frame.now c.args.t k c.copy_from.new.self) (sym c.kind_of.ensures)
    ∙ c.in_err-choose.ensures.answer in
    let stops : settle c.args.self.now c.args.options.now c.args.frame.now c.args.t c.args.set c.args.breaks.now c.args.x.now ≡ Err c.in_err-choose.field-0.0 =
    ap (λ (o : Objects). settle o c.args.options.now c.args.frame.now c.args.t c.args.set c.args.breaks.now c.args.x.now) (sym c.self.view_is)
    ∙ settle_not_chosen c.self.inside.system c.args.options.now c.args.frame.now c.args.t c.args.set c.args.breaks.now c.args.x.now c.in_err-choose.field-0.0 none in
    rw stops (search rules)

pub returns-clause-answer : goal.returns-clause-answer
returns-clause-answer c =
    let chosen_is : c.as_slice.result.now ≡ c.choose.new.out = c.as_slice.ensures.value ∙ with_items_is c.self.inside.branches c.choose.new.out (c.choose.auto.out ∙ c.as_mut_slice-branches.ensures.len) in
    let chose : choose c.self.inside.system c.args.frame.now c.args.t (kind_of_set c.args.set) c.args.x.now ≡ Ok c.as_slice.result.now =
    ap (λ (z : List ℤ). choose c.self.inside.system c.args.frame.now c.args.t (kind_of_set c.args.set) z) (sym c.copy_from.ensures)
    ∙ ap (λ (k : ChooseKind). choose c.self.inside.system c.args.frame.now c.args.t k c.copy_from.new.self) (sym c.kind_of.ensures)
    ∙ c.in_ok-choose.ensures.answer ∙ ap Ok (sym chosen_is) in
    ap (λ (o : Objects). settle o c.args.options.now c.args.frame.now c.args.t c.args.set c.args.breaks.now c.args.x.now) (sym c.self.view_is)
    ∙ settle_is c.self.inside.system c.args.options.now c.args.frame.now c.args.t c.args.set c.args.breaks.now c.args.x.now c.as_slice.result.now chose
    ∙ ap (λ (es : List Element). newton rounds (settled_problem c.self.inside.system c.args.options.now c.args.frame.now c.args.t c.args.set es c.args.x.now c.as_slice.result.now) c.args.x.now) (sym c.as_slice-elements.ensures)
    ∙ ap (λ (z : List ℤ). newton rounds (settled_problem c.self.inside.system c.args.options.now c.args.frame.now c.args.t c.args.set c.as_slice-elements.result.now z c.as_slice.result.now) z) (sym c.copy_from.ensures)
    ∙ c.solve_at.ensures.answer
