-- Sequential statements that are read, and parts of them.
use Rattle.std.specs.Prelude.{◌≡◌, ℕ, List, length, Option}
use Rattle.std.specs.List.{All}
use Rattle.ams_tree.specs.declared.expression.Expr.{Expr}
use Rattle.ams_tree.specs.declared.sequential.Assertion.{Assertion}
use Rattle.ams_tree.specs.declared.sequential.DelayMechanism.{DelayMechanism}
use Rattle.ams_tree.specs.declared.sequential.WaveformElement.{WaveformElement}
use Rattle.ams_value.specs.declared.value_type.ValueType.{ValueType}
use Rattle.ams_value.specs.declared.value_type.ValueType.TheVariants.{Boolean, Time}
use Rattle.flat_expr.specs.declared.expr.FlatExpr.{FlatExpr}
use Rattle.flat_expr.specs.declared.statement.DelayMechanism.{DelayMechanism as Mechanism}
use Rattle.flat_expr.specs.declared.statement.Severity.{Severity}
use Rattle.flat_expr.specs.declared.statement.Statement.{Statement, out-Statement}
use Rattle.flat_expr.specs.declared.statement.Statement.TheVariants as statement
use Rattle.flat_expr.specs.declared.statement.WaveElement.{WaveElement}
use Rattle.flat_design.specs.declared.objects.Objects.{Objects}
use Rattle.flat_design.specs.declared.objects.Process.{Process}
use Rattle.name_scope.specs.declared.scope.Scope.{Scope}
use Rattle.name_scope.specs.declared.thing.Kind.TheVariants.{Of}
use Rattle.name_scope.specs.declared.thing.Subtype.{Subtype}
use Rattle.elab_meaning.specs.declared.fault.Notes.{Notes}
use Rattle.elab_meaning.specs.declared.part.Part.TheVariants.{Kept}
use Rattle.unit_meaning.specs.declared.draft.Spot.{Spot}
use Rattle.unit_meaning.specs.Settings.{Setting}
use Rattle.unit_meaning.specs.Sequential.{leaving, assertion_parts}
use Rattle.unit_meaning.specs.Waveforms.{mechanism, waveform}
use Rattle.design_rules.specs.Types.{IsExpression}
use Rattle.design_rules.specs.Statements.{MayBe, IsWaveElement, IsAllowed, limit_in}
use Rattle.part_laws.specs.Parts.{ProcessReads}

abbrev pub MayStand : Objects → Process → List ℕ → Statement → Type 0
MayStand objects p ps s = IsAllowed objects p ps (out-Statement s)

abbrev pub HasCondition : Objects → Process → List ℕ → FlatExpr × Severity → Type 0
HasCondition objects p ps a = IsExpression objects p ps Boolean a.0

abbrev pub HasLimit : Objects → Process → List ℕ → Mechanism → Type 0
HasLimit objects p ps m = MayBe objects p ps Time (limit_in m)

-- the elements of a waveform of this type, as many as were written
pub record AreElements (objects : Objects) (p : Process) (ps : List ℕ) (k : ValueType) (size : ℕ) (all : List WaveElement) : Type 0 where
  pub each : All (IsWaveElement objects p ps k) all
  pub count : length all ≡ size

pub record StatementPartsFit : Type 0 where
  pub exits : (objects : Objects) (p : Process) (ps : List ℕ) (w : Setting) (scope : Scope) (spot : Spot) (x : Option Expr) (n : Notes)
      → ProcessReads Statement objects p ps scope (MayStand objects p ps) n (leaving w scope spot statement.Exit x n)
  pub nexts : (objects : Objects) (p : Process) (ps : List ℕ) (w : Setting) (scope : Scope) (spot : Spot) (x : Option Expr) (n : Notes)
      → ProcessReads Statement objects p ps scope (MayStand objects p ps) n (leaving w scope spot statement.Next x n)
  pub assertions : (objects : Objects) (p : Process) (ps : List ℕ) (w : Setting) (scope : Scope) (a : Assertion) (n : Notes)
      → ProcessReads (FlatExpr × Severity) objects p ps scope (HasCondition objects p ps) n (assertion_parts w scope a n)
  pub mechanisms : (objects : Objects) (p : Process) (ps : List ℕ) (w : Setting) (scope : Scope) (delay : Option DelayMechanism) (n : Notes)
      → ProcessReads Mechanism objects p ps scope (HasLimit objects p ps) n (mechanism w scope delay n)
  -- for a signal of this number and subtype
  pub waveforms : (objects : Objects) (p : Process) (ps : List ℕ) (w : Setting) (scope : Scope) (i : ℕ) (s : Subtype) (k : ValueType) (all : List WaveformElement) (n : Notes)
      → s.kind ≡ Of k → ProcessReads (List WaveElement) objects p ps scope (AreElements objects p ps k (length all)) n (waveform w scope (Kept (i, s)) all n)
