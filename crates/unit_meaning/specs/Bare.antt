-- Names that stand in no expression: those of sensitivity lists and of break elements (IEEE 1076, 10.2; IEEE 1076.1, break statement).
use Rattle.std.specs.Prelude.{ℕ, Bool, true, false, ◌||◌, not, nat_eq, if◌then◌else◌, List, [], ◌∷◌, ◌++◌, map, Option, Some, None}
use Rattle.std.specs.List.{fold, list_any}
use Rattle.ams_tree.specs.declared.expression.Name.{Name}
use Rattle.ams_tree.specs.declared.expression.Attribute.{Attribute, out-Attribute}
use Rattle.ams_tree.specs.declared.expression.Expr.{Expr, out-Expr}
use Rattle.ams_tree.specs.declared.expression.Attribute.TheOpen.{Expr-F, Attribute-F}
use Rattle.ams_tree.specs.declared.sequential.BreakElement.{BreakElement}
use Rattle.ams_value.specs.declared.value_type.ValueType.TheVariants as t
use Rattle.flat_expr.specs.declared.expr.FlatExpr.{FlatExpr}
use Rattle.flat_expr.specs.declared.expr.FlatExpr.TheOpen.{FlatExpr-F}
use Rattle.flat_expr.specs.declared.expr.FlatExpr.TheFolds.{fold-FlatExpr}
use Rattle.flat_expr.specs.declared.expr.SignalName.{SignalName}
use Rattle.flat_expr.specs.declared.expr.SignalName.TheVariants as signal
use Rattle.flat_expr.specs.declared.statement.BreakElement.{BreakElement as Broken}
use Rattle.flat_expr.specs.Expr.{same_signal}
use Rattle.flat_design.specs.Lists.{number_of_threshold}
use Rattle.flat_design.specs.declared.objects.Threshold.{Threshold}
use Rattle.name_scope.specs.declared.thing.Kind.TheVariants.{Of}
use Rattle.name_scope.specs.declared.thing.Thing.{Thing}
use Rattle.name_scope.specs.declared.thing.Thing.TheVariants as thing
use Rattle.name_scope.specs.declared.scope.Scope.{Scope}
use Rattle.name_scope.specs.Scopes.{lookup}
use Rattle.elab_meaning.specs.declared.fault.Notes.{Notes}
use Rattle.elab_meaning.specs.declared.part.Part.{Part}
use Rattle.elab_meaning.specs.declared.part.Part.TheVariants.{Kept, Wrong, Hidden}
use Rattle.elab_meaning.specs.declared.typed.Asked.{Asked}
use Rattle.elab_meaning.specs.Kinds.{same_kind}
use Rattle.elab_meaning.specs.Notes.{watched}
use Rattle.elab_meaning.specs.Names.{threshold}
use Rattle.elab_meaning.specs.Parts.{part_of, where_true, judged, both, found_thing}
use Rattle.elab_meaning.specs.Expressions.{expression, arguments, static}
use Rattle.unit_meaning.specs.Settings.{Setting, running, must_be, listed}

-- ---- names that are wrong where they stand: only the expressions inside them are judged

abbrev pub always_wrong : {A B : Type 0} → A → Part B
always_wrong x = Wrong

abbrev pub wrong_both : {A B C : Type 0} → A → B → Part C
wrong_both x y = Wrong

abbrev pub static_part : Setting → Scope → Expr → Notes → Notes × Part Asked
static_part w scope x n =
    let found = static w.texts scope x running n in
    (found.0, part_of found.1)

abbrev pub inside_attribute : Setting → Scope → Attribute-F Attribute Expr → Notes → Notes × Part (List Asked)
inside_attribute w scope (Attribute-F.Above x) n = listed (static_part w scope) (x ∷ []) n
inside_attribute w scope (Attribute-F.Ramp rise fall) n = listed (static_part w scope) (present rise ++ present fall) n
  where
    present : Option Expr → List Expr
    present None = []
    present (Some x) = x ∷ []
inside_attribute w scope _ n = (n, Kept [])

abbrev pub wrong_name : {A : Type 0} → Setting → Scope → Expr-F Attribute Expr → Notes → Notes × Part A
wrong_name w scope (Expr-F.Name x) n =
    let found = found_thing x (lookup scope x.number) n in
    (found.0, judged always_wrong found.1)
wrong_name w scope (Expr-F.Call x all) n =
    let found = found_thing x (lookup scope x.number) n in
    let inner = arguments running (Some []) (map (expression w.texts scope) all) found.0 in
    (inner.0, both wrong_both found.1 (part_of inner.1))
wrong_name w scope (Expr-F.Attribute x a) n =
    let found = found_thing x (lookup scope x.number) n in
    let inner = inside_attribute w scope (out-Attribute a) found.0 in
    (inner.0, both wrong_both found.1 inner.1)
wrong_name w scope _ n = (n, Wrong)

-- ---- signals that are waited for

-- a signal, DOMAIN, or a threshold: q'above(e)
abbrev pub signal_of : Thing → Part SignalName
signal_of (thing.Signal i s a) = Kept (signal.Signal i)
signal_of thing.Domain = Kept signal.Domain
signal_of _ = Wrong

abbrev pub level_at : Thing → Asked → Part Threshold
level_at (thing.Quantity q k) level = where_true (same_kind level.kind (Of t.Real)) (threshold q level)
level_at _ level = Wrong

abbrev pub threshold_at : Part Threshold → Notes → Notes × Part SignalName
threshold_at (Kept h) n = (watched h n, Kept (signal.Threshold (number_of_threshold h n.thresholds)))
threshold_at Wrong n = (n, Wrong)
threshold_at Hidden n = (n, Hidden)

abbrev pub watched_attribute : Setting → Scope → Name → Attribute → Attribute-F Attribute Expr → Notes → Notes × Part SignalName
watched_attribute w scope x a (Attribute-F.Above level) n =
    let found = found_thing x (lookup scope x.number) n in
    let value = static_part w scope level found.0 in
    threshold_at (both level_at found.1 value.1) value.0
watched_attribute w scope x a _ n =
    let found = found_thing x (lookup scope x.number) n in
    let inner = inside_attribute w scope (out-Attribute a) found.0 in
    (inner.0, both wrong_both found.1 inner.1)

abbrev pub watched_name : Setting → Scope → Expr → Expr-F Attribute Expr → Notes → Notes × Part SignalName
watched_name w scope e (Expr-F.Name x) n =
    let found = found_thing x (lookup scope x.number) n in
    (found.0, judged signal_of found.1)
watched_name w scope e (Expr-F.Attribute x a) n = watched_attribute w scope x a (out-Attribute a) n
watched_name w scope e _ n = wrong_name w scope (out-Expr e) n

abbrev pub watched_signal : Setting → Scope → Expr → Notes → Notes × Part SignalName
watched_signal w scope x n = watched_name w scope x (out-Expr x) n

-- each of them once
abbrev pub with_signal : List SignalName → SignalName → List SignalName
with_signal all s = if list_any (same_signal s) all then all else all ++ s ∷ []

abbrev pub once : List SignalName → List SignalName
once all = fold with_signal [] all

abbrev pub once_kept : List SignalName → Part (List SignalName)
once_kept all = Kept (once all)

abbrev pub sensitivity : Setting → Scope → List Expr → Notes → Notes × Part (List SignalName)
sensitivity w scope names n =
    let all = listed (watched_signal w scope) names n in
    (all.0, judged once_kept all.1)

-- the signals that an expression reads, those whose events it reads among them, from the left
abbrev pub signals_at : FlatExpr-F (List SignalName) → List SignalName
signals_at (FlatExpr-F.Signal s k) = s ∷ []
signals_at (FlatExpr-F.Event s) = s ∷ []
signals_at (FlatExpr-F.Unary op k a) = a
signals_at (FlatExpr-F.Binary op k a b) = a ++ b
signals_at (FlatExpr-F.Call f a) = a
signals_at (FlatExpr-F.Index a b range) = a ++ b
signals_at _ = []

abbrev pub signals_in : FlatExpr → List SignalName
signals_in = fold-FlatExpr (List SignalName) signals_at

abbrev pub signals_in_some : Option FlatExpr → List SignalName
signals_in_some (Some x) = signals_in x
signals_in_some None = []

-- ---- break elements

-- a quantity by its name
abbrev pub quantity_of : Thing → Part ℕ
quantity_of (thing.Quantity q k) = Kept q
quantity_of _ = Wrong

-- its number and the number of its name
abbrev pub named_quantity : ℕ → Thing → Part (ℕ × ℕ)
named_quantity x (thing.Quantity q k) = Kept (q, x)
named_quantity x _ = Wrong

abbrev pub quantity_at : Setting → Scope → Expr-F Attribute Expr → Notes → Notes × Part (ℕ × ℕ)
quantity_at w scope (Expr-F.Name x) n =
    let found = found_thing x (lookup scope x.number) n in
    (found.0, judged (named_quantity x.number) found.1)
quantity_at w scope e n = wrong_name w scope e n

-- without a selector the quantity is its own
abbrev pub selector_at : Setting → Scope → Option Expr → Part (ℕ × ℕ) → Notes → Notes × Part (ℕ × ℕ)
selector_at w scope None q n = (n, q)
selector_at w scope (Some x) q n = quantity_at w scope (out-Expr x) n

-- the selector's 'dot stands in some equation
abbrev pub selecting : Setting → ℕ × ℕ → (ℕ × ℕ) × FlatExpr → Part Broken
selecting w p set = where_true (list_any (nat_eq p.1) w.selectors) (record { selector = p.0; quantity = set.0.0; value = set.1 })

abbrev pub setting : ℕ × ℕ → FlatExpr → Part ((ℕ × ℕ) × FlatExpr)
setting q value = Kept (q, value)

abbrev pub break_element : Setting → Scope → BreakElement → Notes → Notes × Part Broken
break_element w scope x n =
    let q = quantity_at w scope (out-Expr x.quantity) n in
    let p = selector_at w scope x.selector q.1 q.0 in
    let value = must_be w scope running (Of t.Real) x.value p.0 in
    (value.0, both (selecting w) p.1 (both setting q.1 value.1))

abbrev pub break_elements : Setting → Scope → List BreakElement → Notes → Notes × Part (List Broken)
break_elements w scope all n = listed (break_element w scope) all n
