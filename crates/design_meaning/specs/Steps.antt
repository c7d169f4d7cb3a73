-- The branches chosen, a trial step and a settled point (own).
use Rattle.std.specs.Prelude.{ℕ, ◌+◌, ◌*◌, max, nat_le, Bool, true, false, ℤ, ◌-ℤ◌, unsigned_abs, if◌then◌else◌, List, [], ◌∷◌, Option, Some, None, Result, Ok, Err}
use Rattle.std.specs.List.{list_any}
use Rattle.message_codes.specs.Codes.{error_too_large}
use Rattle.fix_core.specs.Units.{units_per_one}
use Rattle.fix_core.specs.Passes.{and_then, each, ◌>>=◌}
use Rattle.fix_core.specs.Rounding.{nearest}
use Rattle.ams_value.specs.declared.val.Val.{Val}
use Rattle.ams_value.specs.Values.{equals, is_true}
use Rattle.flat_design.specs.declared.objects.IfArm.{IfArm}
use Rattle.flat_design.specs.declared.objects.CaseArm.{CaseArm}
use Rattle.flat_design.specs.declared.objects.Selection.{Selection}
use Rattle.flat_design.specs.declared.objects.Selection.TheVariants as selection
use Rattle.flat_design.specs.declared.objects.Equation.{Equation}
use Rattle.flat_design.specs.declared.objects.Equation.TheVariants as equation
use Rattle.flat_design.specs.declared.objects.Objects.{Objects}
use Rattle.flat_design.specs.Order.{unknowns}
use Rattle.step_data.specs.declared.breaks.Element.{Element}
use Rattle.step_data.specs.declared.tip.Tip.{Tip}
use Rattle.step_data.specs.declared.outcome.Cause.{Cause}
use Rattle.step_data.specs.declared.outcome.Options.{Options}
use Rattle.step_data.specs.declared.outcome.ChooseKind.{ChooseKind}
use Rattle.step_data.specs.declared.outcome.ChooseKind.TheVariants.{Quiet, Timed}
use Rattle.step_data.specs.declared.outcome.SetKind.{SetKind}
use Rattle.step_data.specs.declared.outcome.SetKind.TheVariants.{Quiescent, Discontinuity}
use Rattle.step_model.specs.System.{Landing}
use Rattle.design_meaning.specs.declared.fault.EvalFault.{EvalFault}
use Rattle.design_meaning.specs.Readings.{Readings}
use Rattle.design_meaning.specs.Reading.{readings_of, dots_in}
use Rattle.design_meaning.specs.Value.{value_of}
use Rattle.design_meaning.specs.Equations.{rows_of, Augmentation, quiescent, discontinuity, time_domain}
use Rattle.design_meaning.specs.Newton.{Problem, newton, cause, of_evaluation}

-- ---- the branches

-- this branch where its condition is TRUE, else what comes next
abbrev pub taken : Bool → ℕ → Result ℕ EvalFault → Result ℕ EvalFault
taken true b next = Ok b
taken false b next = next

-- the first branch whose condition is TRUE, else the last branch; branches are numbered from b on
unfoldable pub if_chosen : ℕ → List IfArm → Readings → Result ℕ EvalFault
if_chosen b [] r = Ok b
if_chosen b (arm ∷ more) r = value_of arm.condition r >>= (λ v. taken (is_true v) b (if_chosen (b + 1) more r))

-- the first number at which the test holds
abbrev pub first_place : {A : Type 0} → (A → Bool) → ℕ → List A → Option ℕ
first_place test b [] = None
first_place test b (x ∷ more) = if test x then Some b else first_place test (b + 1) more

abbrev pub or_else : Option ℕ → Option ℕ → ℕ
or_else (Some b) other = b
or_else None (Some b) = b
or_else None None = 0

-- the branch that names the value, else that of `others`
abbrev pub case_chosen : List CaseArm → Val → ℕ
case_chosen arms v =
    or_else (first_place (λ (arm : CaseArm). list_any (equals v) arm.choices) 0 arms) (first_place (λ (arm : CaseArm). arm.others) 0 arms)

abbrev pub branch_chosen : Readings → Selection → Result ℕ EvalFault
branch_chosen r (selection.If arms last) = if_chosen 0 arms r
branch_chosen r (selection.Case expression arms) = do
  v ← value_of expression r
  Ok (case_chosen arms v)

-- the simultaneous if and case statements in walk order
abbrev pub selections_of : List Equation → List Selection
selections_of [] = []
selections_of (equation.Pair p ∷ more) = selections_of more
selections_of (equation.Choice c ∷ more) = c.selection ∷ selections_of more

-- the branch of each choice under a frame, at a time and a point
unfoldable pub choose : Objects → List Val → ℕ → ChooseKind → List ℤ → Result (List ℕ) Cause
choose objects frame t kind x = of_evaluation (each (branch_chosen (readings_of objects frame kind t x)) (selections_of objects.equations))

-- ---- steps and solutions

-- a set under a frame at a time, with the branches that were chosen
abbrev pub problem : Objects → Options → List Val → ChooseKind → ℕ → Augmentation → List Element → List ℕ → Problem
problem objects options frame kind t set elements branches =
    record {
      rows = rows_of objects branches set elements;
      unknowns = unknowns objects;
      reads = readings_of objects frame kind t;
      tol = options.tol;
    }

-- the most rounds of a solution
abbrev pub rounds : ℕ
rounds = 20

-- the error of a step: the greatest of half the step times the change of a dot, in units; 0 without dots
abbrev pub step_error : ℕ → List ℤ → List ℤ → ℕ
step_error s [] after = 0
step_error s (d ∷ before) [] = 0
step_error s (d ∷ before) (e ∷ after) = max (nearest (s * unsigned_abs (e -ℤ d)) (2 * units_per_one)) (step_error s before after)

-- a solution is refused where its error is above the limit
abbrev pub landed : ℕ → ℕ → List ℤ → Result Landing Cause
landed limit err x = if nat_le err limit then Ok (record { x = x; err = err }) else Err (cause error_too_large)

-- a step of a size from a tip: by backward Euler from a fresh tip, else by the trapezoidal rule
unfoldable pub trial : Objects → Options → List Val → Tip → ℕ → Result Landing Cause
trial objects options frame tip s =
    and_then (λ branches. and_then (λ y. landed options.ltol (step_error s (dots_in objects tip.x) (dots_in objects y)) y)
    (newton rounds (problem objects options frame Timed (tip.t + s) (time_domain (readings_of objects frame Timed tip.t tip.x) tip.fresh s) [] branches) tip.x))
    (choose objects frame tip.t Timed tip.x)

abbrev pub kind_of_set : SetKind → ChooseKind
kind_of_set Quiescent = Quiet
kind_of_set Discontinuity = Timed

-- the augmentation of a solution at one time, from the values just before
abbrev pub augmentation_of : SetKind → Readings → Augmentation
augmentation_of Quiescent before = quiescent
augmentation_of Discontinuity before = discontinuity before

-- the solution at a time by a set with its break elements, from a point
unfoldable pub settle : Objects → Options → List Val → ℕ → SetKind → List Element → List ℤ → Result (List ℤ) Cause
settle objects options frame t set elements x =
    and_then (λ branches. newton rounds
    (problem objects options frame (kind_of_set set) t (augmentation_of set (readings_of objects frame (kind_of_set set) t x)) elements branches) x)
    (choose objects frame t (kind_of_set set) x)
