-- Steps and solutions at one time, by their parts.
use Rattle.std.proofs.Common.{◌≡◌, ℕ, ℤ, List, Result, Ok, Err, refl, ap}
use Rattle.ams_value.specs.declared.val.Val.{Val}
use Rattle.flat_design.specs.declared.objects.Objects.{Objects}
use Rattle.step_data.specs.declared.tip.Tip.{Tip}
use Rattle.step_data.specs.declared.breaks.Element.{Element}
use Rattle.step_data.specs.declared.outcome.Cause.{Cause}
use Rattle.step_data.specs.declared.outcome.Options.{Options}
use Rattle.step_data.specs.declared.outcome.SetKind.{SetKind}
use Rattle.step_data.specs.declared.outcome.ChooseKind.TheVariants.{Timed}
use Rattle.design_meaning.specs.Newton.{newton}
use Rattle.design_meaning.specs.Reading.{dots_in}
use Rattle.design_meaning.specs.Solutions.{stepped_problem, settled_problem}
use Rattle.design_meaning.specs.Steps.{choose, rounds, kind_of_set, step_error, landed, trial, settle}
use Rattle.step_parts.specs.Judged.{landed_by}
use Rattle.set_solver.specs.Stepped.{stepped}

module _ (objects : Objects) (options : Options) (frame : List Val) (tip : Tip) (s : ℕ) where
  pub trial_not_chosen : (c : Cause) → choose objects frame tip.t Timed tip.x ≡ Err c → trial objects options frame tip s ≡ Err c
  unfolding trial
  trial_not_chosen c h = rw h refl

  pub trial_not_solved : (branches : List ℕ) (c : Cause) → choose objects frame tip.t Timed tip.x ≡ Ok branches → newton rounds (stepped_problem objects options frame tip s branches) tip.x ≡ Err c → trial objects options frame tip s ≡ Err c
  unfolding trial
  trial_not_solved branches c h e = rw (h, e) refl

  pub trial_is : (branches : List ℕ) (y : List ℤ) → choose objects frame tip.t Timed tip.x ≡ Ok branches → newton rounds (stepped_problem objects options frame tip s branches) tip.x ≡ Ok y
      → trial objects options frame tip s ≡ landed options.ltol (step_error s (dots_in objects tip.x) (dots_in objects y)) y
  unfolding trial
  trial_is branches y h e = rw (h, e) refl

-- the error was judged
pub judged_bad : (r : Result (Unit {0}) Cause) (x : List ℤ) (err : ℕ) (c : Cause) → r ≡ Err c → landed_by r x err ≡ Err c
judged_bad r x err c h = ap (λ (q : Result (Unit {0}) Cause). landed_by q x err) h

pub judged_good : (r : Result (Unit {0}) Cause) (x : List ℤ) (err : ℕ) (u : Unit {0}) → r ≡ Ok u → landed_by r x err ≡ stepped (Ok err) x
judged_good r x err u h = ap (λ (q : Result (Unit {0}) Cause). landed_by q x err) h

module _ (objects : Objects) (options : Options) (frame : List Val) (t : ℕ) (set : SetKind) (elements : List Element) (x : List ℤ) where
  pub settle_not_chosen : (c : Cause) → choose objects frame t (kind_of_set set) x ≡ Err c → settle objects options frame t set elements x ≡ Err c
  unfolding settle
  settle_not_chosen c h = rw h refl

  pub settle_is : (branches : List ℕ) → choose objects frame t (kind_of_set set) x ≡ Ok branches → settle objects options frame t set elements x ≡ newton rounds (settled_problem objects options frame t set elements x branches) x
  unfolding settle
  settle_is branches h = rw h refl
