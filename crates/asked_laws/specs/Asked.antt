-- Values that are asked before the run (IEEE 1076, 9.4).
use Rattle.std.specs.Prelude.{◌≡◌, ℕ, true, List, IfSome}
use Rattle.ams_tree.specs.declared.expression.Expr.{Expr}
use Rattle.flat_design.specs.declared.objects.Variable.{Variable}
use Rattle.name_scope.specs.declared.thing.Kind.{Kind}
use Rattle.name_scope.specs.declared.thing.Kind.TheVariants.{Of}
use Rattle.name_scope.specs.declared.scope.Scope.{Scope}
use Rattle.elab_meaning.specs.declared.fault.Notes.{Notes}
use Rattle.elab_meaning.specs.declared.typed.Asked.{Asked}
use Rattle.elab_meaning.specs.declared.typed.Context.{Context}
use Rattle.elab_meaning.specs.declared.typed.StaticValue.{StaticValue}
use Rattle.elab_meaning.specs.declared.typed.StaticValue.TheVariants.{Known, Faulty}
use Rattle.elab_meaning.specs.declared.typed.Typed.{Typed}
use Rattle.elab_meaning.specs.Expressions.{expression, static}
use Rattle.elab_meaning.specs.Subtypes.{static_part}
use Rattle.design_meaning.specs.Typed as flat
use Rattle.typed_laws.specs.Fitting.{FitsValue}
use Rattle.part_laws.specs.Parts.{KeepsPart}
use Rattle.scope_laws.specs.Holds.{HasNoFaults, ScopeHolds}

-- of a type, with a value that is known, or whose evaluation has a fault
abbrev pub IsSettled : Kind → StaticValue → Type 0
IsSettled (Of k) (Known v) = Unit {0}
IsSettled (Of k) Faulty = Unit {0}
IsSettled k v = ⊥

abbrev pub HasSettledValue : Typed → Type 0
HasSettledValue t = IsSettled t.kind t.value

-- a value, of the type that was found
abbrev pub HasValue : flat.Scope → Asked → Type 0
HasValue objects a = FitsValue objects a.kind a.value

-- at an instance each value that is asked before the run is known, where no rule is broken: each constant has its value, and what
-- changes may not be read
pub record AskedValuesAreKnown : Type 0 where
  pub settled : (objects : flat.Scope) (variables : List Variable) (parameters : List ℕ) (texts : List (List ℕ)) (scope : Scope) (x : Expr) (c : Context) (n : Notes)
      → ScopeHolds objects variables parameters scope → c.is_static ≡ true → HasNoFaults (expression texts scope x c n).0 → IfSome (expression texts scope x c n).1 HasSettledValue
  pub asked : (objects : flat.Scope) (variables : List Variable) (parameters : List ℕ) (texts : List (List ℕ)) (scope : Scope) (x : Expr) (c : Context) (n : Notes)
      → ScopeHolds objects variables parameters scope → HasNoFaults (static texts scope x c n).0 → IfSome (static texts scope x c n).1 (HasValue objects)
  pub parts : (objects : flat.Scope) (variables : List Variable) (parameters : List ℕ) (texts : List (List ℕ)) (scope : Scope) (x : Expr) (n : Notes)
      → ScopeHolds objects variables parameters scope → KeepsPart Asked HasNoFaults (HasValue objects) n (static_part texts scope x n)
