-- What is asked of the statements of a process (IEEE 1076, clause 10; break: IEEE 1076.1).
use Rattle.std.specs.Prelude.{◌≡◌, ◌<◌, ◌≢◌, ℕ, false, true, IsTrue, List, map, length, Option, Some, None, IfSome}
use Rattle.std.specs.List.{slice_get, flat_map, All}
use Rattle.ams_value.specs.declared.value_type.ValueType.{ValueType}
use Rattle.ams_value.specs.declared.value_type.ValueType.TheVariants.{Boolean, Integer, Real, Time}
use Rattle.flat_expr.specs.declared.expr.FlatExpr.{FlatExpr}
use Rattle.flat_expr.specs.declared.expr.SignalName.{SignalName}
use Rattle.flat_expr.specs.declared.subtype.Constraint.{Constraint}
use Rattle.flat_expr.specs.declared.statement.Branch.{Branch, out-Branch}
use Rattle.flat_expr.specs.declared.statement.Alternative.{Alternative, out-Alternative}
use Rattle.flat_expr.specs.declared.statement.BreakElement.{BreakElement}
use Rattle.flat_expr.specs.declared.statement.WaveElement.{WaveElement}
use Rattle.flat_expr.specs.declared.statement.DelayMechanism.{DelayMechanism}
use Rattle.flat_expr.specs.declared.statement.DelayMechanism.TheVariants as mechanism
use Rattle.flat_expr.specs.declared.statement.Statement.TheOpen.{Statement-F}
use Rattle.flat_design.specs.declared.objects.Signal.{Signal}
use Rattle.flat_design.specs.declared.objects.Variable.{Variable}
use Rattle.flat_design.specs.declared.objects.Process.{Process}
use Rattle.flat_design.specs.declared.objects.Objects.{Objects}
use Rattle.design_meaning.specs.Typed.{signal_type}
use Rattle.cycle_meaning.specs.Task.{Layer}
use Rattle.cycle_meaning.specs.World.{drives}
use Rattle.design_rules.specs.Types.{sizes_of, FitsType, equation_scope, IsExpression}
use Rattle.design_rules.specs.Choices.{AreChoices}
use Rattle.design_rules.specs.Equations.{IsSelector}

-- ---- the parts of statements; `ps` are the parameters of the loops round the statement

-- an expression of this type, where one is written
abbrev pub MayBe : Objects → Process → List ℕ → ValueType → Option FlatExpr → Type 0
MayBe objects p ps k e = IfSome e (IsExpression objects p ps k)

pub record IsWaveElement (objects : Objects) (p : Process) (ps : List ℕ) (k : ValueType) (e : WaveElement) : Type 0 where
  pub value : IsExpression objects p ps k e.value
  pub delay : MayBe objects p ps Time e.delay

-- the rejection limit that is written
abbrev pub limit_in : DelayMechanism → Option FlatExpr
limit_in mechanism.Transport = None
limit_in (mechanism.Inertial limit) = limit

pub record IsSignalAssignment (objects : Objects) (p : Process) (ps : List ℕ) (i : ℕ) (c : Constraint) (m : DelayMechanism) (wave : List WaveElement) : Type 0 where
  pub signal : Signal
  pub signal_is : slice_get objects.signals i ≡ Some signal
  pub driven : IsTrue (drives i p)
  pub subtype : FitsType (sizes_of objects) signal.kind c
  pub limit : MayBe objects p ps Time (limit_in m)
  pub some : 0 < length wave
  pub elements : All (IsWaveElement objects p ps signal.kind) wave

-- a parameter of a loop is not assigned
pub record IsVariableAssignment (objects : Objects) (p : Process) (ps : List ℕ) (i : ℕ) (c : Constraint) (e : FlatExpr) : Type 0 where
  pub variable : Variable
  pub variable_is : slice_get p.variables i ≡ Some variable
  pub declared : variable.is_parameter ≡ false
  pub subtype : FitsType (sizes_of objects) variable.kind c
  pub value : IsExpression objects p ps variable.kind e

pub record IsCaseStatement (objects : Objects) (p : Process) (ps : List ℕ) (e : FlatExpr) (alternatives : List Alternative) : Type 0 where
  pub kind : ValueType
  pub typed : IsExpression objects p ps kind e
  pub choices : AreChoices (sizes_of objects) kind (flat_map (λ (a : Alternative). (out-Alternative a).choices) alternatives) (map (λ (a : Alternative). (out-Alternative a).others) alternatives)

pub record IsForLoop (objects : Objects) (p : Process) (ps : List ℕ) (i : ℕ) (left right : FlatExpr) : Type 0 where
  pub parameter : Variable
  pub parameter_is : slice_get p.variables i ≡ Some parameter
  pub is_parameter : parameter.is_parameter ≡ true
  pub kind_is : parameter.kind ≡ Integer
  pub begins : IsExpression objects p ps Integer left
  pub ends : IsExpression objects p ps Integer right

-- a signal, a threshold or DOMAIN
abbrev pub IsSignalName : Objects → SignalName → Type 0
IsSignalName objects s = (k : ValueType) × (signal_type (equation_scope objects) s ≡ Some k)

pub record IsBreakElement (objects : Objects) (p : Process) (ps : List ℕ) (e : BreakElement) : Type 0 where
  pub selector : IsSelector objects e.selector
  pub quantity : e.quantity < length objects.quantities
  pub value : IsExpression objects p ps Real e.value

-- ASCII without a line feed, as a line of a trace has it
abbrev pub IsText : List ℕ → Type 0
IsText text = All (λ b. (b < 128) × (b ≢ 10)) text

-- ---- the statements by cases, each without the statements inside it

abbrev pub IsAllowed : Objects → Process → List ℕ → Layer → Type 0
IsAllowed objects p ps (Statement-F.SignalAssignment i c m wave) = IsSignalAssignment objects p ps i c m wave
IsAllowed objects p ps (Statement-F.VariableAssignment i c e) = IsVariableAssignment objects p ps i c e
IsAllowed objects p ps (Statement-F.If branches last) = All (λ (b : Branch). IsExpression objects p ps Boolean (out-Branch b).condition) branches
IsAllowed objects p ps (Statement-F.Case e alternatives) = IsCaseStatement objects p ps e alternatives
IsAllowed objects p ps (Statement-F.Loop condition body) = MayBe objects p ps Boolean condition
IsAllowed objects p ps (Statement-F.For i left direction right body) = IsForLoop objects p ps i left right
IsAllowed objects p ps (Statement-F.Exit condition) = MayBe objects p ps Boolean condition
IsAllowed objects p ps (Statement-F.Next condition) = MayBe objects p ps Boolean condition
IsAllowed objects p ps (Statement-F.Wait number on condition timeout) =
    All (IsSignalName objects) on × MayBe objects p ps Boolean condition × MayBe objects p ps Time timeout
IsAllowed objects p ps (Statement-F.Assert e text s) = IsExpression objects p ps Boolean e × IsText text
IsAllowed objects p ps (Statement-F.Report text s) = IsText text
IsAllowed objects p ps (Statement-F.Break elements condition) = All (IsBreakElement objects p ps) elements × MayBe objects p ps Boolean condition
IsAllowed objects p ps Statement-F.Null = Unit {0}
