-- Points and frames of the system of a plan have one value.
use Rattle.std.proofs.Common.{◌≡◌, List, [], ◌∷◌, length, slice_set, refl, arith}
use Rattle.ams_value.specs.declared.val.Val.{Val}
use Rattle.step_data.specs.declared.tip.Tip.{Tip}
use Rattle.step_model.specs.System.{System, attempt, attempt_by}
use Rattle.mini_models.specs.declared.plan.Plan.{Plan}
use Rattle.mini_models.specs.Mini.{step}

pub set_first : {A : Type 0} (xs : List A) (v : A) → length xs ≡ 1 → slice_set xs 0 v ≡ v ∷ []
set_first [] v h = grind arith
set_first (x ∷ []) v h = refl
set_first (x ∷ y ∷ xs) v h = absurd (grind arith)

-- an attempt is made by the step of a plan
pub attempt_is : (sys : System) (plan : Plan) (frame : List Val) (tip : Tip) → sys.options ≡ plan.options → sys.trial ≡ step plan → attempt sys frame tip ≡ attempt_by plan.options tip (step plan frame tip tip.h)
unfolding attempt
attempt_is sys plan frame tip options trial = rw (options, trial) refl
