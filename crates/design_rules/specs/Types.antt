-- The types of objects and expressions.
use Rattle.std.specs.Prelude.{◌≡◌, ◌⊎◌, ℕ, true, false, nat_eq, IsTrue, List, [], ◌∷◌, ◌++◌, map, length, Some}
use Rattle.std.specs.List.{slice_get, list_any, All}
use Rattle.ams_value.specs.declared.val.Val.{Val}
use Rattle.ams_value.specs.declared.val.Val.TheVariants as val
use Rattle.ams_value.specs.declared.value_type.ValueType.{ValueType}
use Rattle.ams_value.specs.declared.value_type.ValueType.TheVariants as kind
use Rattle.ams_value.specs.Types.{is_in_range}
use Rattle.flat_expr.specs.declared.subtype.Constraint.{Constraint}
use Rattle.flat_expr.specs.declared.subtype.Constraint.TheVariants as constraint
use Rattle.flat_expr.specs.Subtype.{lies_in}
use Rattle.flat_expr.specs.declared.expr.FlatExpr.{FlatExpr}
use Rattle.flat_expr.specs.declared.expr.FlatExpr.TheOpen.{FlatExpr-F}
use Rattle.flat_expr.specs.declared.expr.FlatExpr.TheFolds.{fold-FlatExpr}
use Rattle.flat_design.specs.declared.objects.Signal.{Signal}
use Rattle.flat_design.specs.declared.objects.Variable.{Variable}
use Rattle.flat_design.specs.declared.objects.Enumeration.{Enumeration}
use Rattle.flat_design.specs.declared.objects.Process.{Process}
use Rattle.flat_design.specs.declared.objects.Objects.{Objects}
use Rattle.design_meaning.specs.Typed.{Scope, HasType, IsOfType}

-- ---- types and subtypes

-- the number of literals of each enumeration type
abbrev pub sizes_of : Objects → List ℕ
sizes_of objects = map (λ (x : Enumeration). length x.literals) objects.enumerations

-- a subtype of this type; the bounds of a range are values of it
abbrev pub FitsType : List ℕ → ValueType → Constraint → Type 0
FitsType sizes k constraint.Whole = Unit {0}
FitsType sizes kind.Integer (constraint.Integer low high) = IsTrue (is_in_range sizes (val.Int low)) × IsTrue (is_in_range sizes (val.Int high))
FitsType sizes kind.Real (constraint.Real low high) = IsTrue (is_in_range sizes (val.Real low)) × IsTrue (is_in_range sizes (val.Real high))
FitsType sizes k _ = ⊥

-- a type with a subtype of it and a value of the subtype; the value shows that there is such a type
pub record IsDeclaredAs (sizes : List ℕ) (k : ValueType) (c : Constraint) (initial : Val) : Type 0 where
  pub subtype : FitsType sizes k c
  pub initial_is : IsOfType sizes k initial
  pub lies : IsTrue (lies_in c initial)

-- ---- scopes

abbrev pub scope_with : Objects → List ValueType → Scope
scope_with objects variables =
    record {
      enumerations = sizes_of objects;
      signals = map (λ (s : Signal). s.kind) objects.signals;
      thresholds = length objects.thresholds;
      quantities = length objects.quantities;
      references = length objects.nodes;
      dots = length objects.dots;
      variables = variables;
    }

-- what equations and their conditions may name
abbrev pub equation_scope : Objects → Scope
equation_scope objects = scope_with objects []

-- what a process may name
abbrev pub process_scope : Objects → Process → Scope
process_scope objects p = scope_with objects (map (λ (x : Variable). x.kind) p.variables)

-- ---- the variables that are seen at a place of a process

abbrev pub named_at : FlatExpr-F (List ℕ) → List ℕ
named_at (FlatExpr-F.Variable i k) = i ∷ []
named_at (FlatExpr-F.Unary op k a) = a
named_at (FlatExpr-F.Binary op k a b) = a ++ b
named_at (FlatExpr-F.Call f a) = a
named_at (FlatExpr-F.Index a i range) = a ++ i
named_at _ = []

-- the variables that an expression names
abbrev pub variables_named : FlatExpr → List ℕ
variables_named = fold-FlatExpr (List ℕ) named_at

-- a variable that the process declares
abbrev pub IsDeclared : List Variable → ℕ → Type 0
IsDeclared xs i = (x : Variable) × (slice_get xs i ≡ Some x) × (x.is_parameter ≡ false)

-- it is declared, or a parameter of a loop round the place
abbrev pub IsVisible : List Variable → List ℕ → ℕ → Type 0
IsVisible xs ps i = IsDeclared xs i ⊎ (list_any (nat_eq i) ps ≡ true)

-- an expression of a process in loops with these parameters
pub record IsExpression (objects : Objects) (p : Process) (ps : List ℕ) (k : ValueType) (e : FlatExpr) : Type 0 where
  pub typed : HasType (process_scope objects p) e k
  pub visible : All (IsVisible p.variables ps) (variables_named e)
