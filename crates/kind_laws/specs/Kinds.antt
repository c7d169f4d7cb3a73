-- Enumeration types of expressions, by those of names.
use Rattle.std.specs.Prelude.{ℕ, List, IfSome}
use Rattle.ams_tree.specs.declared.expression.Expr.{Expr}
use Rattle.ams_value.specs.declared.value_type.ValueType.TheVariants.{Enumeration as EnumerationType}
use Rattle.ams_value.specs.Types.{type_of}
use Rattle.flat_design.specs.declared.objects.Enumeration.{Enumeration}
use Rattle.name_scope.specs.declared.thing.Kind.TheVariants.{Of}
use Rattle.name_scope.specs.declared.thing.Thing.{Thing}
use Rattle.name_scope.specs.declared.thing.Thing.TheVariants as thing
use Rattle.name_scope.specs.declared.scope.Scope.{Scope}
use Rattle.name_scope.specs.Scopes.{lookup}
use Rattle.elab_meaning.specs.declared.fault.Notes.{Notes}
use Rattle.elab_meaning.specs.declared.typed.Context.{Context}
use Rattle.elab_meaning.specs.Expressions.{expression}
use Rattle.choice_laws.specs.Choices.{CountsLiterals, CountsOf}

-- the enumeration type of a name has as many literals where it is read as in the design
abbrev pub ThingCounts : List Enumeration → List ℕ → Thing → Type 0
ThingCounts types sizes (thing.Constant s v) = CountsLiterals types sizes s.kind
ThingCounts types sizes (thing.Literal v) = CountsLiterals types sizes (Of (type_of v))
ThingCounts types sizes (thing.Signal i s a) = CountsLiterals types sizes s.kind
ThingCounts types sizes (thing.Variable i s) = CountsLiterals types sizes s.kind
ThingCounts types sizes t = Unit {0}

-- so has that of an expression of such names; DOMAIN is of enumeration type 0
abbrev pub KindsAreCounted : Type 0
KindsAreCounted =
    (types : List Enumeration) (sizes : List ℕ) (texts : List (List ℕ)) (scope : Scope) (x : Expr) (c : Context) (n : Notes)
    → CountsLiterals types sizes (Of (EnumerationType 0)) → ((name : ℕ) → IfSome (lookup scope name) (ThingCounts types sizes)) → IfSome (expression texts scope x c n).1 (CountsOf types sizes)
