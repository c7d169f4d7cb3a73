-- The branches that were chosen, by what the choice answered.
use Rattle.std.specs.Prelude.{◌≡◌, ℕ, Bool, true, false, List, Result, Ok, Err}
use Rattle.std.proofs.Common.{ap, ◌∙◌}
use Rattle.step_data.specs.declared.outcome.Cause.{Cause}
use Rattle.step_data.specs.declared.outcome.Settled.{Settled}
use Rattle.step_data.specs.declared.outcome.Settled.TheVariants.{Good, Refused}
use Rattle.step_model.specs.Answers.{settled_answer, settled_value}
use Rattle.lockstep_model.specs.Lockstep.{branches_or}
use Rattle.run_place.specs.Giving.{chosen_of}

abbrev pub is_good : Settled → Bool
is_good Good = true
is_good (Refused c) = false

pub chosen_is : (o : Result (List ℕ) Cause) (old new olds : List ℕ) (s : Settled) (b : Bool) → s ≡ settled_answer o → new ≡ settled_value old o → b ≡ is_good s → chosen_of b new olds ≡ branches_or olds o
chosen_is (Ok bs) old new olds s b answer value good =
    ap (λ t. chosen_of t new olds) (good ∙ ap is_good answer) ∙ value
chosen_is (Err c) old new olds s b answer value good = ap (λ t. chosen_of t new olds) (good ∙ ap is_good answer)
