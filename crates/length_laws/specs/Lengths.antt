-- Branches of simultaneous statements that are read (IEEE 1076.1, simultaneous if and simultaneous case statement).
use Rattle.std.specs.Prelude.{◌≡◌, ◌<◌, true, List, [], length, Option}
use Rattle.ams_token.specs.declared.token.Place.{Place}
use Rattle.ams_tree.specs.declared.concurrent.Equation.{Equation}
use Rattle.ams_tree.specs.declared.concurrent.SimultaneousAlternative.{SimultaneousAlternative}
use Rattle.ams_tree.specs.declared.concurrent.SimultaneousBranch.{SimultaneousBranch}
use Rattle.ams_tree.specs.declared.expression.Expr.{Expr}
use Rattle.flat_design.specs.declared.objects.Objects.{Objects}
use Rattle.name_scope.specs.declared.scope.Scope.{Scope}
use Rattle.elab_meaning.specs.declared.fault.Notes.{Notes}
use Rattle.unit_meaning.specs.Settings.{Setting, choosing, typed}
use Rattle.unit_meaning.specs.Simultaneous.{same_lengths, if_lengths, if_statement, case_lengths, case_statement}
use Rattle.design_rules.specs.Types.{equation_scope, sizes_of, IsVisible}
use Rattle.design_rules.specs.Equations.{IsEquation}
use Rattle.typed_laws.specs.Fitting.{ScopeFits}
use Rattle.part_laws.specs.Parts.{OnKept}
use Rattle.choice_laws.specs.Choices.{IsFine, AsksValues, CountsOf}

pub record BranchesHaveOneLength : Type 0 where
  -- where no fault is noted, each branch has as many equations as the first
  pub if_one : (w : Setting) (scope : Scope) (place : Place) (all : List SimultaneousBranch) (last : Option (List Equation)) (n : Notes)
      → (if_statement w scope place all last n).0.faults ≡ [] → same_lengths (if_lengths all last) ≡ true
  pub case_one : (w : Setting) (scope : Scope) (place : Place) (x : Expr) (all : List SimultaneousAlternative) (n : Notes)
      → (case_statement w scope place x all n).0.faults ≡ [] → same_lengths (case_lengths all) ≡ true
  -- so that the statement, if kept, is an equation of a well-formed design
  pub if_kept : (objects : Objects) (w : Setting) (scope : Scope) (place : Place) (all : List SimultaneousBranch) (last : Option (List Equation)) (n : Notes)
      → ScopeFits (equation_scope objects) (IsVisible [] []) scope → IsFine (equation_scope objects) (if_statement w scope place all last n).0
      → OnKept (IsEquation objects) (if_statement w scope place all last n).1
  -- a case has an alternative
  pub case_kept : (objects : Objects) (w : Setting) (scope : Scope) (place : Place) (x : Expr) (all : List SimultaneousAlternative) (n : Notes)
      → ScopeFits (equation_scope objects) (IsVisible [] []) scope → AsksValues (equation_scope objects) w.texts scope
      → OnKept (CountsOf w.enumerations (sizes_of objects)) (typed w scope choosing x n).1 → 0 < length all
      → IsFine (equation_scope objects) (case_statement w scope place x all n).0 → OnKept (IsEquation objects) (case_statement w scope place x all n).1
