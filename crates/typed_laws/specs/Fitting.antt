-- Names that stand for objects of a flat design, and expressions that are read with them.
use Rattle.std.specs.Prelude.{◌≡◌, ◌≤◌, ◌<◌, ℕ, IsTrue, length, Option, Some, IfSome}
use Rattle.std.specs.List.{slice_get, All}
use Rattle.ams_value.specs.declared.val.Val.{Val}
use Rattle.ams_value.specs.declared.value_type.ValueType.{ValueType}
use Rattle.ams_value.specs.declared.value_type.ValueType.TheVariants.{Integer, Real}
use Rattle.ams_value.specs.Types.{is_in_range}
use Rattle.flat_expr.specs.declared.expr.FlatExpr.{FlatExpr}
use Rattle.flat_expr.specs.Expr.{kind_of_call}
use Rattle.flat_design.specs.Limits.{unknown_limit, threshold_limit}
use Rattle.flat_design.specs.declared.objects.Terminal.{Terminal}
use Rattle.flat_design.specs.declared.objects.Terminal.TheVariants as terminal
use Rattle.name_scope.specs.declared.thing.Kind.{Kind}
use Rattle.name_scope.specs.declared.thing.Kind.TheVariants.{Of, Vector}
use Rattle.name_scope.specs.declared.thing.Thing.{Thing}
use Rattle.name_scope.specs.declared.thing.Thing.TheVariants as thing
use Rattle.name_scope.specs.declared.scope.Scope.{Scope}
use Rattle.name_scope.specs.Scopes.{lookup}
use Rattle.elab_meaning.specs.declared.fault.Notes.{Notes}
use Rattle.elab_meaning.specs.declared.typed.Typed.{Typed}
use Rattle.design_meaning.specs.Typed as flat
use Rattle.design_meaning.specs.Typed.{HasType, IsOfType, call_type}
use Rattle.design_rules.specs.Types.{variables_named}

-- ---- names; `objects` has the types of the flat design's objects, `Sees` the variables that may be named

-- a value that is given, of its type and in its range
abbrev pub FitsValue : flat.Scope → Kind → Option Val → Type 0
FitsValue objects (Of k) (Some v) = IsOfType objects.enumerations k v
FitsValue objects k v = ⊥

-- an object of this type
abbrev pub FitsKind : Option ValueType → Kind → Type 0
FitsKind found (Of k) = found ≡ Some k
FitsKind found Vector = ⊥

abbrev pub FitsTerminal : flat.Scope → Terminal → Type 0
FitsTerminal objects (terminal.Node i) = i < objects.references
FitsTerminal objects terminal.Reference = Unit {0}

-- the number of an object that there is, of the name's type. At an instance each constant has its value. Of the functions that
-- stand as such each takes a REAL
abbrev pub FitsThing : flat.Scope → (ℕ → Type 0) → Thing → Type 0
FitsThing objects Sees (thing.Constant s v) = FitsValue objects s.kind v
FitsThing objects Sees (thing.Literal v) = IsTrue (is_in_range objects.enumerations v)
FitsThing objects Sees (thing.Signal i s a) = FitsKind (slice_get objects.signals i) s.kind
FitsThing objects Sees (thing.Quantity i c) = i < objects.quantities
FitsThing objects Sees (thing.Terminal end m) = FitsTerminal objects end
FitsThing objects Sees (thing.Variable i s) = FitsKind (slice_get objects.variables i) s.kind × Sees i
FitsThing objects Sees (thing.Parameter i) = (slice_get objects.variables i ≡ Some Integer) × Sees i
FitsThing objects Sees (thing.Function f) = call_type f (Some Real) ≡ Some (kind_of_call f)
FitsThing objects Sees t = Unit {0}

abbrev pub ScopeFits : flat.Scope → (ℕ → Type 0) → Scope → Type 0
ScopeFits objects Sees scope = (name : ℕ) → IfSome (lookup scope name) (FitsThing objects Sees)

-- the dots and thresholds that are noted are among those of the design, which has no more than it may have
pub record HasRoom (objects : flat.Scope) (n : Notes) : Type 0 where
  pub dots : length n.dots ≤ objects.dots
  pub dot_limit : length n.dots ≤ unknown_limit
  pub thresholds : length n.thresholds ≤ objects.thresholds
  pub threshold_limit_kept : length n.thresholds ≤ threshold_limit

-- ---- expressions

abbrev pub HasKind : flat.Scope → FlatExpr → Kind → Type 0
HasKind objects e (Of k) = HasType objects e k
HasKind objects e Vector = ⊥

-- a well-typed expression of the flat design, which names no other variables
pub record IsRead (objects : flat.Scope) (Sees : ℕ → Type 0) (t : Typed) : Type 0 where
  pub typed : HasKind objects t.expr t.kind
  pub visible : All Sees (variables_named t.expr)
