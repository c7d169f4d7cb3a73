-- Solutions are within the tolerance.
use Rattle.std.specs.Prelude.{◌≡◌, ℕ, ◌+◌, ◌≤◌, ℤ, unsigned_abs, List, [], Ok, IsOkAnd}
use Rattle.std.specs.List.{All}
use Rattle.ams_value.specs.declared.val.Val.{Val}
use Rattle.flat_design.specs.declared.objects.Objects.{Objects}
use Rattle.step_data.specs.declared.breaks.Element.{Element}
use Rattle.step_data.specs.declared.tip.Tip.{Tip}
use Rattle.step_data.specs.declared.outcome.Options.{Options}
use Rattle.step_data.specs.declared.outcome.ChooseKind.TheVariants.{Timed}
use Rattle.step_data.specs.declared.outcome.SetKind.{SetKind}
use Rattle.step_model.specs.System.{Landing}
use Rattle.design_meaning.specs.Equations.{Row, residual_of, time_domain}
use Rattle.design_meaning.specs.Reading.{readings_of}
use Rattle.design_meaning.specs.Newton.{Problem, newton}
use Rattle.design_meaning.specs.Steps.{choose, problem, kind_of_set, augmentation_of, trial, settle}

-- the equation has a residual at the point, which is within the tolerance
abbrev pub IsWithinTolerance : Problem → List ℤ → Row → Type 0
IsWithinTolerance p x row = IsOkAnd (residual_of row (p.reads x)) (λ z. unsigned_abs z ≤ p.tol)

-- so has every equation of the set
abbrev pub Solves : Problem → List ℤ → Type 0
Solves p x = All (IsWithinTolerance p x) p.rows

-- the set of a solution at one time, and that of a step from a tip, with the branches that were chosen
abbrev pub settled_problem : Objects → Options → List Val → ℕ → SetKind → List Element → List ℤ → List ℕ → Problem
settled_problem objects options frame t set elements x branches =
    problem objects options frame (kind_of_set set) t (augmentation_of set (readings_of objects frame (kind_of_set set) t x)) elements branches

abbrev pub stepped_problem : Objects → Options → List Val → Tip → ℕ → List ℕ → Problem
stepped_problem objects options frame tip s branches =
    problem objects options frame Timed (tip.t + s) (time_domain (readings_of objects frame Timed tip.t tip.x) tip.fresh s) [] branches

-- a step is within both tolerances
pub record LandsWithin (objects : Objects) (options : Options) (frame : List Val) (tip : Tip) (s : ℕ) (branches : List ℕ) (l : Landing) : Type 0 where
  pub chosen : choose objects frame tip.t Timed tip.x ≡ Ok branches
  pub solved : Solves (stepped_problem objects options frame tip s branches) l.x
  pub error : l.err ≤ options.ltol

pub record SettlesWithin (objects : Objects) (options : Options) (frame : List Val) (t : ℕ) (set : SetKind) (elements : List Element) (x : List ℤ) (branches : List ℕ) (y : List ℤ) : Type 0 where
  pub chosen : choose objects frame t (kind_of_set set) x ≡ Ok branches
  pub solved : Solves (settled_problem objects options frame t set elements x branches) y

pub record SolutionsAreWithinTolerance : Type 0 where
  pub by_newton : (n : ℕ) (p : Problem) (x y : List ℤ) → newton n p x ≡ Ok y → Solves p y
  pub settled : (objects : Objects) (options : Options) (frame : List Val) (t : ℕ) (set : SetKind) (elements : List Element) (x y : List ℤ)
      → settle objects options frame t set elements x ≡ Ok y → (branches : List ℕ) × SettlesWithin objects options frame t set elements x branches y
  pub stepped : (objects : Objects) (options : Options) (frame : List Val) (tip : Tip) (s : ℕ) (l : Landing)
      → trial objects options frame tip s ≡ Ok l → (branches : List ℕ) × LandsWithin objects options frame tip s branches l
