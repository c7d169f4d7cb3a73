-- The parts of a step, joined.
use Rattle.std.proofs.Common.{rules, ◌≡◌, Ok, Err, sym, ap, ◌∙◌}
use Rattle.std.proofs.lemmas.List.{with_items_is}
use Rattle.flat_design.specs.declared.objects.Objects.{Objects}
use Rattle.step_data.specs.declared.outcome.ChooseKind.TheVariants.{Timed}
use Rattle.design_meaning.specs.Reading.{dots_in}
use Rattle.design_meaning.specs.Steps.{choose, step_error, landed, trial}
use Rattle.set_solver.proofs.Solving.{trial_not_chosen, trial_not_solved, trial_is, judged_bad, judged_good}
use Rattle.set_solver.proofs.solver.SetSolver.step.Goals as goal

pub returns-in_err-choose-clause-answer : goal.returns-in_err-choose-clause-answer
returns-in_err-choose-clause-answer c =
    let stops : trial c.args.self.now c.args.options.now c.args.frame.now c.args.tip.now c.args.s ≡ Err c.in_err-choose.field-0.0 =
    ap (λ (o : Objects). trial o c.args.options.now c.args.frame.now c.args.tip.now c.args.s) (sym c.self.view_is)
    ∙ trial_not_chosen c.self.inside.system c.args.options.now c.args.frame.now c.args.tip.now c.args.s c.in_err-choose.field-0.0 c.in_err-choose.ensures.answer in
    rw stops (search rules)

pub returns-in_err-solve_step-clause-answer : goal.returns-in_err-solve_step-clause-answer
returns-in_err-solve_step-clause-answer c =
    let chosen_is : c.as_slice.result.now ≡ c.choose.new.out = c.as_slice.ensures.value ∙ with_items_is c.self.inside.branches c.choose.new.out (c.choose.auto.out ∙ c.as_mut_slice-branches.ensures.len) in
    let chose : choose c.self.inside.system c.args.frame.now c.args.tip.now.t Timed c.args.tip.now.x ≡ Ok c.as_slice.result.now = c.in_ok-choose.ensures.answer ∙ ap Ok (sym chosen_is) in
    let stops : trial c.args.self.now c.args.options.now c.args.frame.now c.args.tip.now c.args.s ≡ Err c.in_err-solve_step.field-0.0 =
    ap (λ (o : Objects). trial o c.args.options.now c.args.frame.now c.args.tip.now c.args.s) (sym c.self.view_is)
    ∙ trial_not_solved c.self.inside.system c.args.options.now c.args.frame.now c.args.tip.now c.args.s c.as_slice.result.now c.in_err-solve_step.field-0.0 chose c.in_err-solve_step.ensures.answer in
    rw stops (search rules)

pub returns-in_err-judge_error-clause-answer : goal.returns-in_err-judge_error-clause-answer
returns-in_err-judge_error-clause-answer c =
    let y = c.solve_step.new.out in
    let err = c.error_between-err.result in
    let chosen_is : c.as_slice.result.now ≡ c.choose.new.out = c.as_slice.ensures.value ∙ with_items_is c.self.inside.branches c.choose.new.out (c.choose.auto.out ∙ c.as_mut_slice-branches.ensures.len) in
    let chose : choose c.self.inside.system c.args.frame.now c.args.tip.now.t Timed c.args.tip.now.x ≡ Ok c.as_slice.result.now = c.in_ok-choose.ensures.answer ∙ ap Ok (sym chosen_is) in
    let err_is : err ≡ step_error c.args.s (dots_in c.self.inside.system c.args.tip.now.x) (dots_in c.self.inside.system y) =
    c.error_between-err.ensures ∙ ap (λ (o : Objects). step_error c.args.s (dots_in o c.args.tip.now.x) (dots_in o y)) c.flat.ensures.design in
    let stops : trial c.args.self.now c.args.options.now c.args.frame.now c.args.tip.now c.args.s ≡ Err c.in_err-judge_error.field-0.0 =
    ap (λ (o : Objects). trial o c.args.options.now c.args.frame.now c.args.tip.now c.args.s) (sym c.self.view_is)
    ∙ trial_is c.self.inside.system c.args.options.now c.args.frame.now c.args.tip.now c.args.s c.as_slice.result.now y chose c.in_ok-solve_step.ensures.answer
    ∙ ap (λ k. landed c.args.options.now.ltol k y) (sym err_is) ∙ c.judge_error.ensures y ∙ judged_bad c.judge_error.result y err c.in_err-judge_error.field-0.0 c.in_err-judge_error.was in
    rw stops (search rules)

pub returns-clause-answer : goal.returns-clause-answer
returns-clause-answer c =
    let y = c.solve_step.new.out in
    let err = c.error_between-err.result in
    let chosen_is : c.as_slice.result.now ≡ c.choose.new.out = c.as_slice.ensures.value ∙ with_items_is c.self.inside.branches c.choose.new.out (c.choose.auto.out ∙ c.as_mut_slice-branches.ensures.len) in
    let chose : choose c.self.inside.system c.args.frame.now c.args.tip.now.t Timed c.args.tip.now.x ≡ Ok c.as_slice.result.now = c.in_ok-choose.ensures.answer ∙ ap Ok (sym chosen_is) in
    let err_is : err ≡ step_error c.args.s (dots_in c.self.inside.system c.args.tip.now.x) (dots_in c.self.inside.system y) =
    c.error_between-err.ensures ∙ ap (λ (o : Objects). step_error c.args.s (dots_in o c.args.tip.now.x) (dots_in o y)) c.flat.ensures.design in
    ap (λ (o : Objects). trial o c.args.options.now c.args.frame.now c.args.tip.now c.args.s) (sym c.self.view_is)
    ∙ trial_is c.self.inside.system c.args.options.now c.args.frame.now c.args.tip.now c.args.s c.as_slice.result.now y chose c.in_ok-solve_step.ensures.answer
    ∙ ap (λ k. landed c.args.options.now.ltol k y) (sym err_is) ∙ c.judge_error.ensures y ∙ judged_good c.judge_error.result y err c.in_ok-judge_error.field-0 c.in_ok-judge_error.was
