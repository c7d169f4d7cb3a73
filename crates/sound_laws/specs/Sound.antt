-- Static values are of the types of their expressions (IEEE 1076, 9.4).
use Rattle.std.specs.Prelude.{◌≡◌, ℕ, IsTrue, List, Some, IfSome}
use Rattle.ams_tree.specs.declared.expression.Expr.{Expr}
use Rattle.ams_value.specs.declared.val.Val.{Val}
use Rattle.ams_value.specs.declared.value_type.ValueType.TheVariants.{Real}
use Rattle.ams_value.specs.Types.{is_in_range}
use Rattle.flat_expr.specs.Expr.{kind_of_call}
use Rattle.flat_design.specs.declared.objects.Variable.{Variable}
use Rattle.name_scope.specs.declared.thing.Thing.{Thing}
use Rattle.name_scope.specs.declared.thing.Thing.TheVariants as thing
use Rattle.name_scope.specs.declared.scope.Scope.{Scope}
use Rattle.name_scope.specs.Scopes.{lookup}
use Rattle.elab_meaning.specs.declared.fault.Notes.{Notes}
use Rattle.elab_meaning.specs.declared.typed.Context.{Context}
use Rattle.elab_meaning.specs.declared.typed.Typed.{Typed}
use Rattle.elab_meaning.specs.Expressions.{expression}
use Rattle.design_meaning.specs.Typed as flat
use Rattle.design_meaning.specs.Typed.{call_type}
use Rattle.design_rules.specs.Types.{IsVisible}
use Rattle.typed_laws.specs.Fitting.{FitsValue, ScopeFits}
use Rattle.static_laws.specs.Known.{OnKnown}

-- a value that is known is one of the expression's type
abbrev pub HasSoundValue : flat.Scope → Typed → Type 0
HasSoundValue objects t = OnKnown (λ v. FitsValue objects t.kind (Some v)) t.value

-- the value of a name, where it has one, is of its type. Of the functions that stand as such each takes a REAL
abbrev pub GivesValue : flat.Scope → Thing → Type 0
GivesValue objects (thing.Constant s v) = IfSome v (λ (x : Val). FitsValue objects s.kind (Some x))
GivesValue objects (thing.Literal v) = IsTrue (is_in_range objects.enumerations v)
GivesValue objects (thing.Function f) = call_type f (Some Real) ≡ Some (kind_of_call f)
GivesValue objects t = Unit {0}

abbrev pub GivesValues : flat.Scope → Scope → Type 0
GivesValues objects scope = (name : ℕ) → IfSome (lookup scope name) (GivesValue objects)

-- the same where no more is known of the names than this
abbrev pub KnownValuesFollow : Type 0
KnownValuesFollow =
    (objects : flat.Scope) (texts : List (List ℕ)) (scope : Scope) (x : Expr) (c : Context) (n : Notes)
    → GivesValues objects scope → IfSome (expression texts scope x c n).1 (HasSoundValue objects)

abbrev pub KnownValuesAreOfTheirTypes : Type 0
KnownValuesAreOfTheirTypes =
    (objects : flat.Scope) (variables : List Variable) (parameters : List ℕ) (texts : List (List ℕ)) (scope : Scope) (x : Expr) (c : Context) (n : Notes)
    → ScopeFits objects (IsVisible variables parameters) scope → IfSome (expression texts scope x c n).1 (HasSoundValue objects)
