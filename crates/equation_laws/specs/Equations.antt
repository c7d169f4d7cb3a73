-- Simultaneous statements that are read.
use Rattle.std.specs.Prelude.{◌≡◌, true, List, [], Option}
use Rattle.ams_token.specs.declared.token.Place.{Place}
use Rattle.ams_tree.specs.declared.concurrent.Equation.{Equation}
use Rattle.ams_tree.specs.declared.concurrent.SimultaneousBranch.{SimultaneousBranch}
use Rattle.flat_design.specs.declared.objects.Equation.{Equation as Made}
use Rattle.flat_design.specs.declared.objects.Objects.{Objects}
use Rattle.name_scope.specs.declared.scope.Scope.{Scope}
use Rattle.elab_meaning.specs.declared.fault.Notes.{Notes}
use Rattle.elab_meaning.specs.declared.part.Part.{Part}
use Rattle.unit_meaning.specs.Settings.{Setting}
use Rattle.unit_meaning.specs.Simultaneous.{simple, same_lengths, if_lengths, if_statement}
use Rattle.design_rules.specs.Types.{equation_scope, IsVisible}
use Rattle.design_rules.specs.Equations.{IsEquation}
use Rattle.typed_laws.specs.Fitting.{ScopeFits, HasRoom}
use Rattle.part_laws.specs.Parts.{KeepsPart}

-- what is read outside processes, where no variables are
abbrev pub MakesEquation : Objects → Scope → Notes → Notes × Part Made → Type 0
MakesEquation objects scope n found =
    ScopeFits (equation_scope objects) (IsVisible [] []) scope → KeepsPart Made (HasRoom (equation_scope objects)) (IsEquation objects) n found

-- a simple simultaneous statement makes an equation of a well-formed design, and so does a simultaneous if whose branches have
-- one number of equations
pub record StatementsMakeEquations : Type 0 where
  pub simple_one : (objects : Objects) (w : Setting) (scope : Scope) (q : Equation) (n : Notes) → MakesEquation objects scope n (simple w scope q n)
  pub if_one : (objects : Objects) (w : Setting) (scope : Scope) (place : Place) (all : List SimultaneousBranch) (last : Option (List Equation)) (n : Notes)
      → same_lengths (if_lengths all last) ≡ true → MakesEquation objects scope n (if_statement w scope place all last n)
