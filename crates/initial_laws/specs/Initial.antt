-- Values that declarations give (IEEE 1076, 6.4.2).
use Rattle.std.specs.Prelude.{◌≡◌, ◌<◌, ◌≤◌, ℕ, true, List, get_or, Some, IfSome}
use Rattle.ams_tree.specs.declared.expression.Expr.{Expr}
use Rattle.ams_value.specs.Ranges.{most_elements}
use Rattle.ams_value.specs.declared.value_type.ValueType.{ValueType}
use Rattle.ams_value.specs.declared.value_type.ValueType.TheVariants.{Enumeration, BitVector}
use Rattle.flat_design.specs.declared.objects.Variable.{Variable}
use Rattle.name_scope.specs.declared.scope.Scope.{Scope}
use Rattle.name_scope.specs.declared.thing.Kind.TheVariants.{Of}
use Rattle.name_scope.specs.declared.thing.Subtype.{Subtype}
use Rattle.elab_meaning.specs.declared.fault.Notes.{Notes}
use Rattle.elab_meaning.specs.declared.part.Part.TheVariants.{Kept}
use Rattle.elab_meaning.specs.declared.typed.Asked.{Asked}
use Rattle.elab_meaning.specs.declared.typed.Context.{Context}
use Rattle.elab_meaning.specs.declared.typed.Valued.{Valued}
use Rattle.elab_meaning.specs.Expressions.{static}
use Rattle.elab_meaning.specs.Subtypes.{holds, leftmost, initial}
use Rattle.elab_meaning.specs.Declarations.{range_part}
use Rattle.design_meaning.specs.Typed as flat
use Rattle.design_meaning.specs.Typed.{IsOfType}
use Rattle.design_rules.specs.Types.{FitsType, IsVisible}
use Rattle.typed_laws.specs.Fitting.{FitsValue, ScopeFits}
use Rattle.part_laws.specs.Parts.{OnKept}

-- a value that is known is of the type that was found
abbrev pub FitsAsked : flat.Scope → Asked → Type 0
FitsAsked objects a = IfSome a.value (λ v. FitsValue objects a.kind (Some v))

-- a value that is known is one of the subtype, which is of this type
abbrev pub IsInitial : flat.Scope → Subtype → ValueType → Valued → Type 0
IsInitial objects s k given = IfSome given.value (λ v. IsOfType objects.enumerations k v × (holds s.constraint v ≡ true))

-- a type that has values
abbrev pub HasValues : List ℕ → ValueType → Type 0
HasValues sizes (Enumeration n) = 0 < get_or sizes n 0
HasValues sizes (BitVector n) = n ≤ most_elements
HasValues sizes k = Unit {0}

pub record InitialValuesFit : Type 0 where
  pub asked : (objects : flat.Scope) (variables : List Variable) (parameters : List ℕ) (texts : List (List ℕ)) (scope : Scope) (x : Expr) (c : Context) (n : Notes)
      → ScopeFits objects (IsVisible variables parameters) scope → IfSome (static texts scope x c n).1 (FitsAsked objects)
  pub written : (objects : flat.Scope) (variables : List Variable) (parameters : List ℕ) (texts : List (List ℕ)) (scope : Scope) (s : Subtype) (k : ValueType) (x : Expr) (n : Notes)
      → ScopeFits objects (IsVisible variables parameters) scope → s.kind ≡ Of k → OnKept (IsInitial objects s k) (initial texts scope (Kept s) (Some x) n).1
  pub default : (sizes : List ℕ) (s : Subtype) (k : ValueType) → s.kind ≡ Of k → FitsType sizes k (range_part s.constraint) → HasValues sizes k → IsOfType sizes k (leftmost s)
