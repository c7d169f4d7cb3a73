-- The attempt is that of the system's trial.
use Rattle.std.proofs.Common.{ℕ, List, Result, sym, ap}
use Rattle.ams_value.specs.declared.val.Val.{Val}
use Rattle.step_data.specs.declared.tip.Tip.{Tip}
use Rattle.step_data.specs.declared.outcome.Cause.{Cause}
use Rattle.step_model.specs.System.{Landing}
use Rattle.design_meaning.specs.Steps.{trial}
use Rattle.fixed_solver.proofs.Attempting.{attempt_is}
use Rattle.fixed_solver.proofs.solver.FixedSolverStepper.attempt.Goals as goal

pub returns-clause-value : goal.returns-clause-value
returns-clause-value g c =
    attempt_is (g.D.Design.system 0) c.args.frame.now c.args.tip.now c.self.inside.options (trial c.self.inside.sets c.self.inside.options c.args.frame.now c.args.tip.now c.args.tip.now.h) c.record_attempt.new.out
    (c.record_attempt.ensures (trial c.self.inside.sets c.self.inside.options c.args.frame.now c.args.tip.now c.args.tip.now.h) c.trial-trial.ensures.answer c.trial-trial.ensures.point)
    (ap (λ (f : List Val → Tip → ℕ → Result Landing Cause). f c.args.frame.now c.args.tip.now c.args.tip.now.h) (sym c.self.invariant.trial)) (sym c.self.invariant.options_are)
