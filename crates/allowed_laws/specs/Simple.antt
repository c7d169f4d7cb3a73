-- Sequential statements that hold no others, in a process of a flat design.
use Rattle.std.specs.Prelude.{◌≡◌, ◌<◌, ℕ, true, nat_eq, IsTrue, List, length, Option, IfSome}
use Rattle.std.specs.List.{list_any}
use Rattle.ams_tree.specs.declared.expression.Name.{Name}
use Rattle.ams_tree.specs.declared.expression.Expr.{Expr}
use Rattle.ams_tree.specs.declared.sequential.Assertion.{Assertion}
use Rattle.ams_tree.specs.declared.sequential.Report.{Report}
use Rattle.ams_tree.specs.declared.sequential.BreakElement.{BreakElement}
use Rattle.ams_tree.specs.declared.sequential.DelayMechanism.{DelayMechanism}
use Rattle.ams_tree.specs.declared.sequential.WaveformElement.{WaveformElement}
use Rattle.flat_expr.specs.declared.statement.Statement.{Statement}
use Rattle.flat_design.specs.declared.objects.Objects.{Objects}
use Rattle.flat_design.specs.declared.objects.Process.{Process}
use Rattle.name_scope.specs.declared.scope.Scope.{Scope}
use Rattle.name_scope.specs.declared.thing.Subtype.{Subtype}
use Rattle.name_scope.specs.declared.thing.Thing.{Thing}
use Rattle.name_scope.specs.declared.thing.Thing.TheVariants as thing
use Rattle.name_scope.specs.Scopes.{lookup}
use Rattle.elab_meaning.specs.declared.fault.Notes.{Notes}
use Rattle.elab_meaning.specs.declared.part.Part.{Part}
use Rattle.elab_meaning.specs.Notes.{text_of}
use Rattle.unit_meaning.specs.declared.draft.Draft.{Draft}
use Rattle.unit_meaning.specs.Settings.{Setting}
use Rattle.unit_meaning.specs.Waveforms.{target, assignment}
use Rattle.unit_meaning.specs.Sequential.{variable_assignment, wait_statement, assertion, report, break_statement}
use Rattle.cycle_meaning.specs.World.{drives}
use Rattle.design_rules.specs.Types.{process_scope}
use Rattle.design_rules.specs.Equations.{IsSelector}
use Rattle.design_rules.specs.Statements.{IsText}
use Rattle.typed_laws.specs.Fitting.{HasRoom}
use Rattle.part_laws.specs.Parts.{OnKept}
use Rattle.statement_laws.specs.Statements.{MayStand}
use Rattle.scope_laws.specs.Holds.{ScopeHolds}

-- each text of the table of names may stand in a message
abbrev pub HasTexts : Setting → Type 0
HasTexts w = (x : ℕ) → IsText (text_of w.texts x)

-- a quantity whose name is among the selectors has its dot in some equation
abbrev pub IsSelectorAt : Objects → Thing → Type 0
IsSelectorAt objects (thing.Quantity q c) = IsSelector objects q
IsSelectorAt objects t = Unit {0}

abbrev pub SelectorsFit : Objects → Setting → Scope → Type 0
SelectorsFit objects w scope = (x : ℕ) → list_any (nat_eq x) w.selectors ≡ true → IfSome (lookup scope x) (IsSelectorAt objects)

-- the process has a driver of the signal that is assigned
abbrev pub IsDriven : Process → Part (ℕ × Subtype) → Type 0
IsDriven p to = OnKept (λ (t : ℕ × Subtype). IsTrue (drives t.0 p)) to

-- what is read in loops with these parameters is allowed, where it is kept and the design has room for what is noted
abbrev pub Allows : Objects → Process → List ℕ → Scope → Notes × Part Statement → Type 0
Allows objects p ps scope found =
    ScopeHolds (process_scope objects p) p.variables ps scope → HasRoom (process_scope objects p) found.0 → OnKept (MayStand objects p ps) found.1

pub record SimpleStatementsAreAllowed : Type 0 where
  pub signals : (objects : Objects) (p : Process) (ps : List ℕ) (w : Setting) (scope : Scope) (x : Name) (delay : Option DelayMechanism) (wave : List WaveformElement) (n : Notes)
      → 0 < length wave → IsDriven p (target scope x n).1 → Allows objects p ps scope (assignment w scope (target scope x n).1 delay wave (target scope x n).0)
  pub variables : (objects : Objects) (p : Process) (ps : List ℕ) (w : Setting) (scope : Scope) (x : Name) (value : Expr) (n : Notes)
      → Allows objects p ps scope (variable_assignment w scope x value n)
  pub waits : (objects : Objects) (p : Process) (ps : List ℕ) (w : Setting) (scope : Scope) (names : List Expr) (until time : Option Expr) (d : Draft)
      → Allows objects p ps scope (wait_statement w scope names until time d)
  pub assertions : (objects : Objects) (p : Process) (ps : List ℕ) (w : Setting) (scope : Scope) (a : Assertion) (n : Notes)
      → HasTexts w → Allows objects p ps scope (assertion w scope a n)
  pub reports : (objects : Objects) (p : Process) (ps : List ℕ) (w : Setting) (r : Report) → HasTexts w → OnKept (MayStand objects p ps) (report w r)
  pub breaks : (objects : Objects) (p : Process) (ps : List ℕ) (w : Setting) (scope : Scope) (elements : List BreakElement) (x : Option Expr) (n : Notes)
      → SelectorsFit objects w scope → Allows objects p ps scope (break_statement w scope elements x n)
