-- Well-typed expressions, and readings of the right types (IEEE 1076, clause 9; the types of operators by their tables).
use Rattle.std.specs.Prelude.{◌≡◌, ℕ, ◌≤◌, nat_eq, nat_lt, Bool, true, false, IsTrue, List, length, Option, Some, None, map}
use Rattle.std.specs.List.{slice_get, All}
use Rattle.fix_core.specs.Units.{most_ticks}
use Rattle.ams_value.specs.declared.val.Val.{Val}
use Rattle.ams_value.specs.declared.value_type.ValueType.{ValueType}
use Rattle.ams_value.specs.declared.value_type.ValueType.TheVariants.{Boolean, Bit, Integer, Real, Time, Enumeration, BitVector}
use Rattle.ams_value.specs.declared.op.UnaryOperator.{UnaryOperator}
use Rattle.ams_value.specs.declared.op.BinaryOperator.{BinaryOperator}
use Rattle.ams_value.specs.Types.{type_of, unary_type, binary_type, is_in_range}
use Rattle.flat_expr.specs.declared.expr.SignalName.{SignalName}
use Rattle.flat_expr.specs.declared.expr.SignalName.TheVariants as name
use Rattle.flat_expr.specs.declared.expr.Unknown.{Unknown}
use Rattle.flat_expr.specs.declared.expr.Unknown.TheVariants as unknown
use Rattle.flat_expr.specs.declared.expr.Function.{Function}
use Rattle.flat_expr.specs.declared.expr.Function.TheVariants as function
use Rattle.flat_expr.specs.declared.expr.FlatExpr.{FlatExpr}
use Rattle.flat_expr.specs.declared.expr.FlatExpr.TheOpen.{FlatExpr-F}
use Rattle.flat_expr.specs.declared.expr.FlatExpr.TheFolds.{fold-FlatExpr}
use Rattle.design_meaning.specs.Readings.{Seen, Readings}

abbrev pub same_type : ValueType → ValueType → Bool
same_type Boolean Boolean = true
same_type Bit Bit = true
same_type Integer Integer = true
same_type Real Real = true
same_type Time Time = true
same_type (Enumeration m) (Enumeration n) = nat_eq m n
same_type (BitVector m) (BitVector n) = nat_eq m n
same_type _ _ = false

-- how many literals each enumeration type has, and what names there are: the types of the signals and of the variables, and
-- how many thresholds and unknowns of each kind
pub record Scope : Type 0 where
  pub enumerations : List ℕ
  pub signals : List ValueType
  pub thresholds : ℕ
  pub quantities : ℕ
  pub references : ℕ
  pub dots : ℕ
  pub variables : List ValueType

abbrev pub if_true : Bool → ValueType → Option ValueType
if_true true k = Some k
if_true false k = None

-- the stated type, where it is the one that follows from the operands
abbrev pub agreed : ValueType → Option ValueType → Option ValueType
agreed k (Some t) = if_true (same_type t k) k
agreed k None = None

abbrev pub signal_type : Scope → SignalName → Option ValueType
signal_type scope (name.Signal i) = slice_get scope.signals i
signal_type scope (name.Threshold k) = if_true (nat_lt k scope.thresholds) Boolean
signal_type scope name.Domain = Some (Enumeration 0)

abbrev pub event_type : Option ValueType → Option ValueType
event_type (Some k) = Some Boolean
event_type None = None

abbrev pub unknown_type : Scope → Unknown → Option ValueType
unknown_type scope (unknown.Quantity i) = if_true (nat_lt i scope.quantities) Real
unknown_type scope (unknown.Reference i) = if_true (nat_lt i scope.references) Real
unknown_type scope (unknown.Dot i) = if_true (nat_lt i scope.dots) Real

abbrev pub unary_result : UnaryOperator → Option ValueType → Option ValueType
unary_result op (Some a) = unary_type op a
unary_result op None = None

abbrev pub binary_result : BinaryOperator → Option ValueType → Option ValueType → Option ValueType
binary_result op (Some a) (Some b) = binary_type op a b
binary_result op _ _ = None

abbrev pub call_type : Function → Option ValueType → Option ValueType
call_type function.Real (Some Integer) = Some Real
call_type function.Integer (Some Real) = Some Integer
call_type function.Exp (Some Real) = Some Real
call_type function.Sin (Some Real) = Some Real
call_type function.Cos (Some Real) = Some Real
call_type function.Sqrt (Some Real) = Some Real
call_type _ _ = None

abbrev pub element_type : Option ValueType → Option ValueType → Option ValueType
element_type (Some (BitVector n)) (Some Integer) = Some Bit
element_type _ _ = None

abbrev pub type_at : Scope → FlatExpr-F (Option ValueType) → Option ValueType
type_at scope (FlatExpr-F.Literal v) = if_true (is_in_range scope.enumerations v) (type_of v)
type_at scope (FlatExpr-F.Signal s k) = agreed k (signal_type scope s)
type_at scope (FlatExpr-F.Event s) = event_type (signal_type scope s)
type_at scope (FlatExpr-F.Unknown u) = unknown_type scope u
type_at scope (FlatExpr-F.Variable i k) = agreed k (slice_get scope.variables i)
type_at scope FlatExpr-F.NowTime = Some Time
type_at scope FlatExpr-F.NowReal = Some Real
type_at scope (FlatExpr-F.Unary op k a) = agreed k (unary_result op a)
type_at scope (FlatExpr-F.Binary op k a b) = agreed k (binary_result op a b)
type_at scope (FlatExpr-F.Call f a) = call_type f a
type_at scope (FlatExpr-F.Index a i range) = element_type a i

-- the type of an expression, where each name in it is known and each operator has operands of its types
abbrev pub typed : Scope → FlatExpr → Option ValueType
typed scope = fold-FlatExpr (Option ValueType) (type_at scope)

abbrev pub HasType : Scope → FlatExpr → ValueType → Type 0
HasType scope e k = typed scope e ≡ Some k

-- a value of this type, in its type's range; the enumeration types have so many literals
pub record IsOfType (enumerations : List ℕ) (k : ValueType) (v : Val) : Type 0 where
  pub kind_is : type_of v ≡ k
  pub range : IsTrue (is_in_range enumerations v)

-- readings in which each name of a scope has a value of its type, in its range. An expression that reads an unknown asks the
-- number itself
pub record Reads (scope : Scope) (r : Readings) : Type 0 where
  pub signals : map (λ (s : Seen). type_of s.value) r.signals ≡ scope.signals
  pub signals_range : All (λ (s : Seen). IsTrue (is_in_range scope.enumerations s.value)) r.signals
  pub thresholds : length r.thresholds ≡ scope.thresholds
  pub thresholds_kind : All (λ (s : Seen). type_of s.value ≡ Boolean) r.thresholds
  pub domain : type_of r.domain.value ≡ Enumeration 0
  pub domain_range : IsTrue (is_in_range scope.enumerations r.domain.value)
  pub quantities : length r.quantities ≡ scope.quantities
  pub references : length r.references ≡ scope.references
  pub dots : length r.dots ≡ scope.dots
  pub variables : map type_of r.variables ≡ scope.variables
  pub variables_range : All (λ v. IsTrue (is_in_range scope.enumerations v)) r.variables
  pub now : r.now ≤ most_ticks
