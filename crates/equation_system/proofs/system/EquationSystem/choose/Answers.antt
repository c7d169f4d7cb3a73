use Rattle.std.proofs.Common.{◌≡◌, ◌+◌, length, sym, ap, ◌∙◌, arith}
use Rattle.fix_core.specs.Passes.{each, answer}
use Rattle.flat_design.specs.declared.objects.Objects.{Objects}
use Rattle.design_meaning.specs.Newton.{of_evaluation}
use Rattle.design_meaning.specs.Steps.{choose, branch_chosen, selections_of}
use Rattle.equation_values.specs.Reading.{readings_in}
use Rattle.equation_system.proofs.Whole.{chosen, chosen_branches}
use Rattle.equation_system.proofs.system.EquationSystem.choose.Goals as goal

pub returns-clause-answer : goal.returns-clause-answer
unfolding choose
returns-clause-answer c =
    let objects = c.args.self.now in
    let r = readings_in c.values-values.result in
    let es = c.equations.result.now in
    let out = c.choose_branches.new.out in
    let is : es ≡ objects.equations = c.equations.ensures ∙ ap (λ (o : Objects). o.equations) c.flat-flat.ensures.design in
    let long = ap (λ xs. length (selections_of xs)) is in
    ap (λ s. of_evaluation (each (branch_chosen s) (selections_of objects.equations))) (sym c.values-values.ensures.readings)
    ∙ ap (λ xs. of_evaluation (each (branch_chosen r) (selections_of xs))) (sym is)
    ∙ chosen (branch_chosen r) (selections_of es) c.args.out.now out c.choose_branches.result (0 + length (selections_of es)) c.choose_branches.ensures.answer (omega (arith, long, c.choose_branches.ensures.count, c.requires.room))
    ∙ ap (λ m. answer m out) (sym c.of_evaluation.ensures)

pub returns-clause-branches : goal.returns-clause-branches
returns-clause-branches c =
    chosen_branches c.args.self.now c.flat-flat.ensures.rules c.args.frame.now c.args.time c.args.kind c.args.point.now c.choose_branches.new.out c.of_evaluation.result (returns-clause-answer c)
