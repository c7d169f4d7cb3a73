-- What concurrent and simultaneous statements break, but for processes, doesn't depend on what is noted before them.
use Rattle.std.specs.Prelude.{List, Option}
use Rattle.ams_token.specs.declared.token.Place.{Place}
use Rattle.ams_tree.specs.declared.concurrent.ConditionalWaveform.{ConditionalWaveform}
use Rattle.ams_tree.specs.declared.concurrent.Equation.{Equation}
use Rattle.ams_tree.specs.declared.concurrent.SimultaneousAlternative.{SimultaneousAlternative}
use Rattle.ams_tree.specs.declared.concurrent.SimultaneousBranch.{SimultaneousBranch}
use Rattle.ams_tree.specs.declared.expression.Expr.{Expr}
use Rattle.ams_tree.specs.declared.expression.Name.{Name}
use Rattle.ams_tree.specs.declared.sequential.Assertion.{Assertion}
use Rattle.ams_tree.specs.declared.sequential.BreakElement.{BreakElement}
use Rattle.ams_tree.specs.declared.sequential.DelayMechanism.{DelayMechanism}
use Rattle.ams_tree.specs.declared.sequential.WaveformElement.{WaveformElement}
use Rattle.name_scope.specs.declared.scope.Scope.{Scope}
use Rattle.elab_meaning.specs.declared.fault.Notes.{Notes}
use Rattle.unit_meaning.specs.Settings.{Setting}
use Rattle.unit_meaning.specs.Processes.{concurrent_assignment, concurrent_assertion, concurrent_break}
use Rattle.unit_meaning.specs.Simultaneous.{simple, if_statement, case_statement}
use Rattle.again_laws.specs.Again.{BreaksAlike}

-- two readings of a statement break alike, whatever notes they begin with
abbrev pub BreaksAgain : (Notes → Notes) → Type 0
BreaksAgain reading = (n m : Notes) → BreaksAlike n m (reading n) (reading m)

pub record PartsBreakAlike : Type 0 where
  pub equation : (w : Setting) (scope : Scope) (q : Equation) → BreaksAgain (λ n. (simple w scope q n).0)
  pub choice : (w : Setting) (scope : Scope) (place : Place) (all : List SimultaneousBranch) (last : Option (List Equation)) → BreaksAgain (λ n. (if_statement w scope place all last n).0)
  pub case_of : (w : Setting) (scope : Scope) (place : Place) (x : Expr) (all : List SimultaneousAlternative) → BreaksAgain (λ n. (case_statement w scope place x all n).0)
  pub assignment : (w : Setting) (scope : Scope) (x : Name) (delay : Option DelayMechanism) (all : List ConditionalWaveform) (last : List WaveformElement) (when : Option Expr)
      → BreaksAgain (λ n. (concurrent_assignment w scope x delay all last when n).0)
  pub assertion : (w : Setting) (scope : Scope) (a : Assertion) → BreaksAgain (λ n. (concurrent_assertion w scope a n).0)
  pub break_of : (w : Setting) (scope : Scope) (place : Place) (elements : List BreakElement) (names : List Expr) (when : Option Expr)
      → BreaksAgain (λ n. (concurrent_break w scope place elements names when n).0)
