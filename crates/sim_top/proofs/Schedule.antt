-- The steps of a schedule's letters.
use Rattle.std.proofs.Common.{◌≡◌, ℕ, List, [], ◌∷◌, map, refl, ap, subst, ◌∙◌}
use Rattle.step_data.specs.declared.outcome.Options.{Options}
use Rattle.step_schedule.specs.declared.Step.{Step}
use Rattle.step_schedule.specs.declared.Step.TheVariants as steps
use Rattle.program_words.specs.Asked.{letter_of}
use Rattle.program_output.specs.Port.{Port}
use Rattle.program_output.specs.declared.status.Status.{Status}
use Rattle.text_modes.specs.TextReplay.{ReplaysText}
use Rattle.sim_top.specs.Outcome.{step_of}

step_again : (step : Step) → step ≡ step_of (letter_of step)
step_again steps.D = refl
step_again steps.W = refl

pub steps_again : (schedule : List Step) → schedule ≡ map step_of (map letter_of schedule)
steps_again [] = refl
steps_again (step ∷ schedule) = ap (λ (s : Step). s ∷ schedule) (step_again step) ∙ ap (λ (l : List Step). step_of (letter_of step) ∷ l) (steps_again schedule)

-- the replay of a text, both kept in other places
pub replays_same : (s : Status) (text other top : List ℕ) (options : Options) (given schedule : List Step) (trace notes : Port) → text ≡ other → given ≡ schedule →
    ReplaysText s text top options given trace notes → ReplaysText s other top options (map step_of (map letter_of schedule)) trace notes
replays_same s text other top options given schedule trace notes e f h =
    subst (λ (l : List Step). ReplaysText s other top options l trace notes) (f ∙ steps_again schedule)
    (subst (λ (t : List ℕ). ReplaysText s t top options given trace notes) e h)
