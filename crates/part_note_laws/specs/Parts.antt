-- Dots and thresholds that are noted while concurrent and simultaneous statements are read.
use Rattle.std.specs.Prelude.{List, Option}
use Rattle.ams_token.specs.declared.token.Place.{Place}
use Rattle.ams_tree.specs.declared.concurrent.ConditionalWaveform.{ConditionalWaveform}
use Rattle.ams_tree.specs.declared.concurrent.Equation.{Equation}
use Rattle.ams_tree.specs.declared.concurrent.SimultaneousAlternative.{SimultaneousAlternative}
use Rattle.ams_tree.specs.declared.concurrent.SimultaneousBranch.{SimultaneousBranch}
use Rattle.ams_tree.specs.declared.expression.Expr.{Expr}
use Rattle.ams_tree.specs.declared.expression.Name.{Name}
use Rattle.ams_tree.specs.declared.sequential.Assertion.{Assertion}
use Rattle.ams_tree.specs.declared.sequential.BreakElement.{BreakElement}
use Rattle.ams_tree.specs.declared.sequential.DelayMechanism.{DelayMechanism}
use Rattle.ams_tree.specs.declared.sequential.WaveformElement.{WaveformElement}
use Rattle.flat_design.specs.declared.objects.Objects.{Objects}
use Rattle.name_scope.specs.declared.scope.Scope.{Scope}
use Rattle.elab_meaning.specs.declared.fault.Notes.{Notes}
use Rattle.unit_meaning.specs.Settings.{Setting}
use Rattle.unit_meaning.specs.Processes.{concurrent_assignment, concurrent_assertion, concurrent_break}
use Rattle.unit_meaning.specs.Simultaneous.{simple, if_statement, case_statement}
use Rattle.note_laws.specs.Noting.{NamesAreNotable, NotesAlike}

-- two readings of a statement note alike, whatever notes they begin with
abbrev pub ReadsAlike : Objects → (Notes → Notes) → Type 0
ReadsAlike objects reading = (n m : Notes) → NotesAlike objects n m (reading n) (reading m)

pub record StatementsNoteAlike (objects : Objects) (w : Setting) (scope : Scope) : Type 0 where
  pub equation : (q : Equation) → ReadsAlike objects (λ n. (simple w scope q n).0)
  pub choice : (place : Place) (all : List SimultaneousBranch) (last : Option (List Equation)) → ReadsAlike objects (λ n. (if_statement w scope place all last n).0)
  pub case_of : (place : Place) (x : Expr) (all : List SimultaneousAlternative) → ReadsAlike objects (λ n. (case_statement w scope place x all n).0)
  pub assignment : (x : Name) (delay : Option DelayMechanism) (all : List ConditionalWaveform) (last : List WaveformElement) (when : Option Expr)
      → ReadsAlike objects (λ n. (concurrent_assignment w scope x delay all last when n).0)
  pub assertion : (a : Assertion) → ReadsAlike objects (λ n. (concurrent_assertion w scope a n).0)
  pub break_of : (place : Place) (elements : List BreakElement) (names : List Expr) (when : Option Expr) → ReadsAlike objects (λ n. (concurrent_break w scope place elements names when n).0)

-- in a scope whose names are notable
abbrev pub EachNotesAlike : Type 0
EachNotesAlike = (objects : Objects) (w : Setting) (scope : Scope) → NamesAreNotable objects scope → StatementsNoteAlike objects w scope
