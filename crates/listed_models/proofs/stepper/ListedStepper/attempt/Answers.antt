use Rattle.std.proofs.Common.{sym, ap, ◌∙◌, List}
use Rattle.step_model.specs.System.{attempt_by}
use Rattle.listed_models.specs.declared.rows.StepRow.{StepRow}
use Rattle.listed_models.specs.Listing.{step}
use Rattle.listed_models.proofs.One.{attempt_is}
use Rattle.listed_models.proofs.stepper.ListedStepper.attempt.Goals as goal

pub returns-clause-value : goal.returns-clause-value
returns-clause-value g c =
    c.attempt.ensures.value
    ∙ ap (λ (steps : List StepRow). attempt_by c.self.inside.options c.args.tip.now (step steps c.args.tip.now.t c.args.tip.now.h)) c.as_slice.ensures.value
    ∙ sym (attempt_is (g.D.Design.system 0) c.self.inside.steps.items c.self.inside.solutions.items c.self.inside.reads c.self.inside.options c.args._frame.now c.args.tip.now c.self.invariant)
