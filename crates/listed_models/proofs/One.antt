-- Points have one value.
use Rattle.std.proofs.Common.{◌≡◌, Bool, List, [], ◌∷◌, length, slice_set, refl, arith}
use Rattle.ams_value.specs.declared.val.Val.{Val}
use Rattle.step_data.specs.declared.tip.Tip.{Tip}
use Rattle.step_data.specs.declared.outcome.Options.{Options}
use Rattle.step_model.specs.System.{System, attempt, attempt_by}
use Rattle.listed_models.specs.declared.rows.StepRow.{StepRow}
use Rattle.listed_models.specs.declared.rows.SolutionRow.{SolutionRow}
use Rattle.listed_models.specs.Listing.{SolvesAs, step}

pub set_first : {A : Type 0} (xs : List A) (v : A) → length xs ≡ 1 → slice_set xs 0 v ≡ v ∷ []
set_first [] v h = grind arith
set_first (x ∷ []) v h = refl
set_first (x ∷ y ∷ xs) v h = absurd (grind arith)

-- an attempt is made by the listed step
pub attempt_is : (sys : System) (steps : List StepRow) (solutions : List SolutionRow) (reads : Bool) (options : Options) (frame : List Val) (tip : Tip) → SolvesAs sys steps solutions reads options → attempt sys frame tip ≡ attempt_by options tip (step steps tip.t tip.h)
unfolding attempt
attempt_is sys steps solutions reads options frame tip s = rw (s.options_are, s.trial frame tip tip.h) refl
