-- That the equations of a well-formed design can be evaluated.
use Rattle.std.specs.Prelude.{◌≤◌, ℕ, IsTrue, ℤ, List}
use Rattle.std.specs.List.{All}
use Rattle.fix_core.specs.Units.{most_ticks}
use Rattle.ams_value.specs.declared.val.Val.{Val}
use Rattle.flat_design.specs.declared.objects.Pair.{Pair}
use Rattle.flat_design.specs.declared.objects.IfArm.{IfArm}
use Rattle.flat_design.specs.declared.objects.CaseArm.{CaseArm}
use Rattle.flat_design.specs.declared.objects.Selection.{Selection}
use Rattle.flat_design.specs.declared.objects.Selection.TheVariants as selection
use Rattle.flat_design.specs.declared.objects.Equation.{Equation}
use Rattle.flat_design.specs.declared.objects.Equation.TheVariants as equation
use Rattle.flat_design.specs.declared.objects.Objects.{Objects}
use Rattle.flat_design.specs.Reads.{frame_of}
use Rattle.step_data.specs.declared.outcome.ChooseKind.{ChooseKind}
use Rattle.design_meaning.specs.Readings.{Readings}
use Rattle.design_meaning.specs.Reading.{readings_of}
use Rattle.expr_eval.specs.Condition.{CanEvaluate}
use Rattle.design_rules.specs.Design.{IsDesign}
use Rattle.system_model.specs.System.{are_values_of}

-- both sides of an equation can be evaluated
pub record CanEvaluatePair (r : Readings) (p : Pair) : Type 0 where
  pub left : CanEvaluate r p.left
  pub right : CanEvaluate r p.right

pub record CanEvaluateIfArm (r : Readings) (arm : IfArm) : Type 0 where
  pub condition : CanEvaluate r arm.condition
  pub pairs : All (CanEvaluatePair r) arm.pairs

abbrev pub CanEvaluateCaseArm : Readings → CaseArm → Type 0
CanEvaluateCaseArm r arm = All (CanEvaluatePair r) arm.pairs

pub record CanEvaluateIf (r : Readings) (arms : List IfArm) (last : List Pair) : Type 0 where
  pub arms_can : All (CanEvaluateIfArm r) arms
  pub last_can : All (CanEvaluatePair r) last

pub record CanEvaluateCase (r : Readings) (arms : List CaseArm) (can : Type 0) : Type 0 where
  pub expression : can
  pub arms_can : All (CanEvaluateCaseArm r) arms

-- so can the sides of each of its branches, and what chooses one of them
abbrev pub CanEvaluateSelection : Readings → Selection → Type 0
CanEvaluateSelection r (selection.If arms last) = CanEvaluateIf r arms last
CanEvaluateSelection r (selection.Case e arms) = CanEvaluateCase r arms (CanEvaluate r e)

abbrev pub CanEvaluateEquation : Readings → Equation → Type 0
CanEvaluateEquation r (equation.Pair p) = CanEvaluatePair r p
CanEvaluateEquation r (equation.Choice c) = CanEvaluateSelection r c.selection

-- a frame of a design: each value is of the type of its place
abbrev pub IsFrame : Objects → List Val → Type 0
IsFrame objects frame = IsTrue (are_values_of objects (frame_of objects) frame)

abbrev pub EquationsCanBeEvaluated : Type 0
EquationsCanBeEvaluated =
    (objects : Objects) → IsDesign objects → (frame : List Val) → IsFrame objects frame → (kind : ChooseKind) (t : ℕ) → t ≤ most_ticks → (x : List ℤ)
    → All (CanEvaluateEquation (readings_of objects frame kind t x)) objects.equations
