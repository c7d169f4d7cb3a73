-- Names that stand in expressions, by what they stand for, and what stands behind them (IEEE 1076, 8.1 to 8.6; attributes: IEEE 1076.1, 16.6).
use Rattle.std.specs.Prelude.{ℕ, ℤ, pos, Bool, true, false, ◌&&◌, if◌then◌else◌, List, [], ◌∷◌, Option, Some, None}
use Rattle.ams_token.specs.declared.token.Place.{Place}
use Rattle.ams_tree.specs.declared.expression.Name.{Name}
use Rattle.ams_value.specs.declared.val.Val.{Val}
use Rattle.ams_value.specs.declared.val.Val.TheVariants as val
use Rattle.ams_value.specs.declared.value_type.ValueType.{ValueType}
use Rattle.ams_value.specs.declared.value_type.ValueType.TheVariants as t
use Rattle.flat_expr.specs.declared.expr.SignalName.{SignalName}
use Rattle.flat_expr.specs.declared.expr.SignalName.TheVariants as signal
use Rattle.flat_expr.specs.declared.expr.Unknown.TheVariants as unknown
use Rattle.flat_expr.specs.declared.expr.Direction.TheVariants.{To}
use Rattle.flat_expr.specs.declared.expr.IndexRange.{IndexRange}
use Rattle.flat_expr.specs.declared.expr.Function.{Function}
use Rattle.flat_expr.specs.declared.expr.Function.TheVariants as function
use Rattle.flat_expr.specs.declared.expr.FlatExpr.{FlatExpr}
use Rattle.flat_expr.specs.declared.expr.FlatExpr.TheVariants as e
use Rattle.flat_expr.specs.Expr.{kind_of_call}
use Rattle.flat_design.specs.Lists.{number_of_dot, number_of_threshold}
use Rattle.flat_design.specs.declared.objects.Threshold.{Threshold}
use Rattle.flat_design.specs.declared.objects.Terminal.TheVariants as terminal
use Rattle.name_scope.specs.declared.thing.Thing.{Thing}
use Rattle.name_scope.specs.declared.thing.Thing.TheVariants as thing
use Rattle.name_scope.specs.declared.thing.Kind.{Kind}
use Rattle.name_scope.specs.declared.thing.Kind.TheVariants.{Of}
use Rattle.name_scope.specs.declared.thing.Subtype.{Subtype}
use Rattle.name_scope.specs.declared.thing.SubtypeConstraint.{SubtypeConstraint}
use Rattle.name_scope.specs.declared.thing.SubtypeConstraint.TheVariants as constraint
use Rattle.elab_meaning.specs.declared.fault.Cause.TheVariants.{Unknown}
use Rattle.elab_meaning.specs.declared.fault.Notes.{Notes}
use Rattle.elab_meaning.specs.declared.typed.Asked.{Asked}
use Rattle.elab_meaning.specs.declared.typed.Context.{Context}
use Rattle.elab_meaning.specs.declared.typed.Surrounding.{Surrounding}
use Rattle.elab_meaning.specs.declared.typed.Surrounding.TheVariants.{Equation, Condition}
use Rattle.elab_meaning.specs.declared.typed.StaticValue.{StaticValue}
use Rattle.elab_meaning.specs.declared.typed.StaticValue.TheVariants.{Known, Later, Changing}
use Rattle.elab_meaning.specs.declared.typed.Typed.{Typed}
use Rattle.elab_meaning.specs.Kinds.{is_vector, same_kind, value_type}
use Rattle.elab_meaning.specs.Notes.{Found, noted, wrong, changing, dotted, watched}
use Rattle.elab_meaning.specs.Values.{call_value, element_value}
use Rattle.elab_meaning.specs.Literals.{literal}

-- a name that has no declaration in its place
abbrev pub unknown_name : Name → Notes → Found
unknown_name x n = (noted x.place (Unknown x.number) n, None)

-- what changes during the run
abbrev pub read : Context → Place → Kind → FlatExpr → Notes → Found
read c place k x n = (changing c place n, Some (record { place = place; kind = k; expr = x; value = Changing }))

-- `now` is REAL in an equation and TIME elsewhere
abbrev pub now_at : Context → Surrounding → Place → Notes → Found
now_at c Equation place n = read c place (Of t.Real) e.NowReal n
now_at c Condition place n = read c place (Of t.Real) e.NowReal n
now_at c _ place n = read c place (Of t.Time) e.NowTime n

-- a constant whose value isn't known here
abbrev pub later : Kind → FlatExpr
later k = e.Variable 0 (value_type k)

abbrev pub constant : Place → Kind → Option Val → Notes → Found
constant place k (Some v) n = (n, Some (record { place = place; kind = k; expr = e.Literal v; value = Known v }))
constant place k None n = (n, Some (record { place = place; kind = k; expr = later k; value = Later }))

abbrev pub domain : FlatExpr
domain = e.Signal signal.Domain (t.Enumeration 0)

abbrev pub signal_value : ℕ → Kind → FlatExpr
signal_value i k = e.Signal (signal.Signal i) (value_type k)

-- a name that stands as an expression
abbrev pub named : Context → Name → Option Thing → Notes → Found
named c x None n = unknown_name x n
named c x (Some (thing.Constant s v)) n = constant x.place s.kind v n
named c x (Some (thing.Literal v)) n = literal x.place v n
named c x (Some (thing.Signal i s a)) n = read c x.place s.kind (signal_value i s.kind) n
named c x (Some thing.Domain) n = read c x.place (Of (t.Enumeration 0)) domain n
named c x (Some (thing.Quantity i q)) n = read c x.place (Of t.Real) (e.Unknown (unknown.Quantity i)) n
named c x (Some (thing.Variable i s)) n = read c x.place s.kind (e.Variable i (value_type s.kind)) n
named c x (Some (thing.Parameter i)) n = read c x.place (Of t.Integer) (e.Variable i t.Integer) n
named c x (Some thing.Now) n = now_at c c.surrounding x.place n
named c x (Some thing.Faulty) n = (n, None)
named c x (Some _) n = wrong x.place n

-- ---- calls of functions, conversions of types (IEEE 1076, 9.3.4 and 9.3.6)

abbrev pub of_real : Function → Kind → Option Function
of_real f (Of t.Real) = Some f
of_real f _ = None

abbrev pub conversion : Function → Kind → Option Function
conversion function.Real (Of t.Integer) = Some function.Real
conversion function.Integer (Of t.Real) = Some function.Integer
conversion f k = None

-- the function that a name stands for before an argument of this type
abbrev pub function_at : Thing → Kind → Option Function
function_at (thing.Function f) k = of_real f k
function_at (thing.Type s (Some f)) k = conversion f k
function_at _ k = None

abbrev pub called : Place → Typed → Function → Notes → Found
called place a f n = (n, Some (record { place = place; kind = Of (kind_of_call f); expr = e.Call f a.expr; value = call_value f a.value }))

-- ---- elements of vectors (8.4)

-- the vector that a name stands for
abbrev pub vector_at : Thing → Option Subtype
vector_at (thing.Constant s v) = Some s
vector_at (thing.Signal i s a) = Some s
vector_at (thing.Variable i s) = Some s
vector_at _ = None

abbrev pub index_range : SubtypeConstraint → IndexRange
index_range (constraint.Index r) = r
index_range _ = record { left = 0; direction = To }

abbrev pub element : Place → Subtype → Typed → Typed → Notes → Found
element place s v i n =
    (n, Some (record { place = place; kind = Of t.Bit; expr = e.Index v.expr i.expr (index_range s.constraint); value = element_value s.constraint v.value i.value }))

abbrev pub element_at : Place → Subtype → Typed → Option Typed → Notes → Found
element_at place s i None n = (n, None)
element_at place s i (Some v) n = element place s v i n

abbrev pub element_of_name : Context → Name → Subtype → Typed → Thing → Notes → Found
element_of_name c x s i thing n =
    let v = named c x (Some thing) n in
    element_at x.place s i v.1 v.0

abbrev pub indexed : Context → Name → Thing → Option Subtype → Typed → Notes → Found
indexed c x thing None i n = wrong x.place n
indexed c x thing (Some s) i n =
    if is_vector s.kind && same_kind i.kind (Of t.Integer) then element_of_name c x s i thing n else wrong x.place n

abbrev pub applied : Context → Name → Thing → Option Function → Typed → Notes → Found
applied c x thing (Some f) a n = called x.place a f n
applied c x thing None a n = indexed c x thing (vector_at thing) a n

-- a name before its arguments
abbrev pub call_with : Context → Name → Thing → List Typed → Notes → Found
call_with c x thing (a ∷ []) n = applied c x thing (function_at thing a.kind) a n
call_with c x thing _ n = wrong x.place n

-- the arguments, where each of them keeps the rules
abbrev pub call_at : Context → Name → Option Thing → Option (List Typed) → Notes → Found
call_at c x None all n = (n, None)
call_at c x (Some thing.Faulty) all n = (n, None)
call_at c x (Some t) None n = (n, None)
call_at c x (Some t) (Some all) n = call_with c x t all n

-- a name that is looked for, where it is none
abbrev pub missing : Name → Option Thing → Notes → Notes
missing x None n = noted x.place (Unknown x.number) n
missing x (Some t) n = n

-- ---- attributes

abbrev pub signal_event : Context → Name → SignalName → Notes → Found
signal_event c x s n = read c x.place (Of t.Boolean) (e.Event s) n

-- 'event asks for a signal
abbrev pub event_at : Context → Name → Option Thing → Notes → Found
event_at c x None n = unknown_name x n
event_at c x (Some (thing.Signal i s a)) n = signal_event c x (signal.Signal i) n
event_at c x (Some thing.Domain) n = signal_event c x signal.Domain n
event_at c x (Some thing.Faulty) n = (n, None)
event_at c x (Some _) n = wrong x.place n

-- a condition of an equation reads no event
abbrev pub no_event : Name → Option Thing → Notes → Found
no_event x None n = unknown_name x n
no_event x (Some thing.Faulty) n = (n, None)
no_event x (Some t) n = wrong x.place n

abbrev pub event_in : Context → Surrounding → Name → Option Thing → Notes → Found
event_in c Condition x t n = no_event x t n
event_in c _ x t n = event_at c x t n

-- 'dot asks for a quantity
unfoldable pub dot : Context → Name → ℕ → Notes → Found
dot c x q n =
    (dotted q (changing c x.place n), Some (record { place = x.place; kind = Of t.Real; expr = e.Unknown (unknown.Dot (number_of_dot q n.dots)); value = Changing }))

abbrev pub dot_at : Context → Name → Option Thing → Notes → Found
dot_at c x None n = unknown_name x n
dot_at c x (Some (thing.Quantity q k)) n = dot c x q n
dot_at c x (Some thing.Faulty) n = (n, None)
dot_at c x (Some _) n = wrong x.place n

-- 'reference asks for a terminal; that of a nature's reference is 0.0
abbrev pub reference_at : Context → Name → Option Thing → Notes → Found
reference_at c x None n = unknown_name x n
reference_at c x (Some (thing.Terminal (terminal.Node i) m)) n = read c x.place (Of t.Real) (e.Unknown (unknown.Reference i)) n
reference_at c x (Some (thing.Terminal terminal.Reference m)) n = read c x.place (Of t.Real) (e.Literal (val.Real (pos 0))) n
reference_at c x (Some thing.Faulty) n = (n, None)
reference_at c x (Some _) n = wrong x.place n

-- the level of a threshold; any one where it isn't known here
abbrev pub level_of : Option Val → ℤ
level_of (Some (val.Real r)) = r
level_of _ = pos 0

abbrev pub threshold : ℕ → Asked → Threshold
threshold q level = record { quantity = q; level = level_of level.value }

unfoldable pub above : Place → Threshold → Notes → Found
above place h n =
    (watched h n, Some (record { place = place; kind = Of t.Boolean; expr = e.Signal (signal.Threshold (number_of_threshold h n.thresholds)) t.Boolean; value = Changing }))

-- 'above asks for a quantity, and for a level of REAL
abbrev pub above_at : Name → Option Thing → Option Asked → Notes → Found
above_at x None level n = unknown_name x n
above_at x (Some (thing.Quantity q k)) (Some level) n = if same_kind level.kind (Of t.Real) then above x.place (threshold q level) n else wrong x.place n
above_at x (Some thing.Faulty) level n = (n, None)
above_at x (Some _) None n = (n, None)
above_at x (Some _) (Some level) n = wrong x.place n

-- 'ramp has no meaning yet
abbrev pub ramp_at : Name → Option Thing → Bool → Notes → Found
ramp_at x None fine n = unknown_name x n
ramp_at x (Some thing.Faulty) fine n = (n, None)
ramp_at x (Some t) fine n = if fine then wrong x.place n else (n, None)
