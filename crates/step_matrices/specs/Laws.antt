-- The coefficients of a step are the same at every point.
use Rattle.std.specs.Prelude.{ℕ, List}
use Rattle.ams_value.specs.declared.val.Val.{Val}
use Rattle.flat_design.specs.declared.objects.Objects.{Objects}
use Rattle.flat_design.specs.Order.{unknowns}
use Rattle.step_data.specs.declared.tip.Tip.{Tip}
use Rattle.step_data.specs.declared.outcome.Options.{Options}
use Rattle.design_meaning.specs.Solutions.{stepped_problem}
use Rattle.newton_rounds.specs.Kept.{HasMatrix}
use Rattle.step_matrices.specs.Linear.{AreLinear}
use Rattle.step_matrices.specs.Lines.{step_matrix}

abbrev pub StepsHaveTheirMatrix : Type 0
StepsHaveTheirMatrix =
    (objects : Objects) (options : Options) (frame : List Val) (tip : Tip) (s : ℕ) (branches : List ℕ) → AreLinear (unknowns objects) objects.equations
    → HasMatrix (stepped_problem objects options frame tip s branches) (step_matrix objects tip.fresh s)
