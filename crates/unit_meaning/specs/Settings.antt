-- Parts of statements.
use Rattle.std.specs.Prelude.{ℕ, false, ◌∷◌, List, [], Option, Some, None}
use Rattle.ams_token.specs.declared.token.Place.{Place}
use Rattle.ams_tree.specs.declared.expression.Expr.{Expr}
use Rattle.ams_value.specs.declared.val.Val.{Val}
use Rattle.ams_value.specs.declared.value_type.ValueType.TheVariants as t
use Rattle.flat_expr.specs.declared.expr.FlatExpr.{FlatExpr}
use Rattle.flat_design.specs.declared.objects.Enumeration.{Enumeration}
use Rattle.name_scope.specs.declared.thing.Kind.{Kind}
use Rattle.name_scope.specs.declared.thing.Kind.TheVariants.{Of}
use Rattle.name_scope.specs.declared.scope.Scope.{Scope}
use Rattle.elab_meaning.specs.declared.fault.Notes.{Notes}
use Rattle.elab_meaning.specs.declared.part.Part.{Part}
use Rattle.elab_meaning.specs.declared.part.Part.TheVariants.{Kept, Wrong, Hidden}
use Rattle.elab_meaning.specs.declared.typed.Asked.{Asked}
use Rattle.elab_meaning.specs.declared.typed.Context.{Context}
use Rattle.elab_meaning.specs.declared.typed.Surrounding.TheVariants as surrounding
use Rattle.elab_meaning.specs.declared.typed.StaticValue.{StaticValue}
use Rattle.elab_meaning.specs.declared.typed.StaticValue.TheVariants.{Known}
use Rattle.elab_meaning.specs.declared.typed.Typed.{Typed}
use Rattle.elab_meaning.specs.Kinds.{same_kind}
use Rattle.elab_meaning.specs.Parts.{part_of, where_true, judged, both, closed}
use Rattle.elab_meaning.specs.Expressions.{expression}

-- what the statements of an architecture are read with: the texts of names, the enumeration types, and the names whose 'dot stands in an equation
pub record Setting : Type 0 where
  pub texts : List (List ℕ)
  pub enumerations : List Enumeration
  pub selectors : List ℕ

-- in a process, in an equation, in a condition of equations; a choice of a simultaneous case is static
abbrev pub running : Context
running = record { surrounding = surrounding.Process; is_static = false }

abbrev pub equating : Context
equating = record { surrounding = surrounding.Equation; is_static = false }

abbrev pub choosing : Context
choosing = record { surrounding = surrounding.Condition; is_static = false }

-- ---- expressions in statements

abbrev pub typed : Setting → Scope → Context → Expr → Notes → Notes × Part Typed
typed w scope c x n =
    let found = expression w.texts scope x c n in
    (found.0, part_of found.1)

abbrev pub known_of : StaticValue → Option Val
known_of (Known v) = Some v
known_of _ = None

-- its type, and its value where that is known though nobody asks
abbrev pub value_of : Typed → Asked
value_of x = record { kind = x.kind; value = known_of x.value }

abbrev pub of_kind : Kind → Typed → Part FlatExpr
of_kind k x = where_true (same_kind x.kind k) x.expr

-- an expression of a type
abbrev pub must_be : Setting → Scope → Context → Kind → Expr → Notes → Notes × Part FlatExpr
must_be w scope c k x n =
    let found = typed w scope c x n in
    (found.0, judged (of_kind k) found.1)

abbrev pub given : FlatExpr → Part (Option FlatExpr)
given x = Kept (Some x)

-- one that may be left out
abbrev pub may_be : Setting → Scope → Context → Kind → Option Expr → Notes → Notes × Part (Option FlatExpr)
may_be w scope c k None n = (n, Kept None)
may_be w scope c k (Some x) n =
    let found = must_be w scope c k x n in
    (found.0, judged given found.1)

-- a condition of a process
abbrev pub condition : Setting → Scope → Option Expr → Notes → Notes × Part (Option FlatExpr)
condition w scope x n = may_be w scope running (Of t.Boolean) x n

-- ---- several parts

abbrev pub ahead : {A : Type 0} → A → List A → Part (List A)
ahead x xs = Kept (x ∷ xs)

-- a list, from the left
abbrev pub listed : {A B : Type 0} → (B → Notes → Notes × Part A) → List B → Notes → Notes × Part (List A)
listed rule [] n = (n, Kept [])
listed rule (x ∷ more) n =
    let first = rule x n in
    let rest = listed rule more first.0 in
    (rest.0, both ahead first.1 rest.1)

abbrev pub paired : {A B : Type 0} → A → B → Part (A × B)
paired x y = Kept (x, y)

-- what is told of a whole that broke a rule of its own, once that is noted
abbrev pub sealed : {A : Type 0} → Part A → Part A
sealed Wrong = Hidden
sealed part = part

-- the whole at this place
abbrev pub finished : {A : Type 0} → Place → Notes × Part A → Notes × Part A
finished place found = (closed place found.1 found.0, sealed found.1)
