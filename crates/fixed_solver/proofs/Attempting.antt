-- The attempt of a system by what a trial gave.
use Rattle.std.proofs.Common.{◌≡◌, List, Result, ap, ◌∙◌}
use Rattle.ams_value.specs.declared.val.Val.{Val}
use Rattle.step_data.specs.declared.tip.Tip.{Tip}
use Rattle.step_data.specs.declared.tip.Attempt.{Attempt}
use Rattle.step_data.specs.declared.outcome.Cause.{Cause}
use Rattle.step_data.specs.declared.outcome.Options.{Options}
use Rattle.step_model.specs.System.{System, Landing, attempt, attempt_by}

pub attempt_is : (sys : System) (frame : List Val) (tip : Tip) (o : Options) (r : Result Landing Cause) (a : Attempt) → a ≡ attempt_by o tip r → r ≡ sys.trial frame tip tip.h → o ≡ sys.options → a ≡ attempt sys frame tip
unfolding attempt
attempt_is sys frame tip o r a e er eo = e ∙ ap (λ (q : Result Landing Cause). attempt_by o tip q) er ∙ ap (λ (p : Options). attempt_by p tip (sys.trial frame tip tip.h)) eo
