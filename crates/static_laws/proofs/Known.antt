-- What is known of each expression that is read is its value.
use Rattle.std.proofs.Common.{◌≡◌, ℕ, Bool, true, false, if◌then◌else◌, List, [], ◌∷◌, Option, Some, None, IfSome, Ok, ap, arith}
use Rattle.std.specs.Prelude.{◌&&◌}
use Rattle.std.specs.List.{All}
use Rattle.ams_token.specs.declared.token.Place.{Place}
use Rattle.ams_tree.specs.declared.expression.Name.{Name}
use Rattle.ams_tree.specs.declared.expression.NumberValue.{NumberValue}
use Rattle.ams_value.specs.declared.val.Val.{Val}
use Rattle.ams_value.specs.declared.op.UnaryOperator.{UnaryOperator}
use Rattle.ams_value.specs.declared.op.BinaryOperator.{BinaryOperator}
use Rattle.ams_value.specs.declared.value_type.ValueType.TheVariants as type
use Rattle.flat_expr.specs.declared.expr.Function.{Function}
use Rattle.flat_expr.specs.declared.expr.FlatExpr.TheVariants as e
use Rattle.flat_design.specs.declared.objects.Threshold.{Threshold}
use Rattle.flat_design.specs.declared.objects.Terminal.TheVariants as terminal
use Rattle.name_scope.specs.declared.thing.Kind.{Kind}
use Rattle.name_scope.specs.declared.thing.Kind.TheVariants.{Of}
use Rattle.name_scope.specs.declared.thing.Subtype.{Subtype}
use Rattle.name_scope.specs.declared.thing.Thing.{Thing}
use Rattle.name_scope.specs.declared.thing.Thing.TheVariants as thing
use Rattle.name_scope.specs.declared.scope.Scope.{Scope}
use Rattle.name_scope.specs.Scopes.{lookup}
use Rattle.elab_meaning.specs.declared.fault.Cause.TheVariants.{WrongType}
use Rattle.elab_meaning.specs.declared.fault.Notes.{Notes}
use Rattle.elab_meaning.specs.declared.typed.Asked.{Asked}
use Rattle.elab_meaning.specs.declared.typed.Context.{Context}
use Rattle.elab_meaning.specs.declared.typed.Scale.{Scale}
use Rattle.elab_meaning.specs.declared.typed.Surrounding.{Surrounding}
use Rattle.elab_meaning.specs.declared.typed.Surrounding.TheVariants as surrounding
use Rattle.elab_meaning.specs.declared.typed.Typed.{Typed}
use Rattle.elab_meaning.specs.Kinds.{unary_kind, binary_kind, is_vector, same_kind, value_type}
use Rattle.elab_meaning.specs.Notes.{noted, text_of}
use Rattle.elab_meaning.specs.Literals.{in_range, number_literal, content_literal, time_literal, scaled_at, time_at, scale_of, number_at}
use Rattle.elab_meaning.specs.Names.{now_at, constant, named, function_at, vector_at, element_at, element_of_name, indexed, applied, call_with, call_at, event_at, no_event, event_in, dot, dot_at, reference_at, threshold, above, above_at, ramp_at}
use Rattle.elab_meaning.specs.Expressions.{prefixed, unary_at, joined, binary_at, parenthesized}
use Rattle.design_meaning.specs.Readings.{Readings}
use Rattle.design_meaning.specs.Value.{Meaning, value_of}
use Rattle.design_meaning.proofs.Meanings.{variants}
use Rattle.reading_laws.proofs.Closing.{IsClosed, reading_keeps}
use Rattle.static_laws.specs.Known.{HasItsValue, KnownValuesAreValues}
use Rattle.static_laws.proofs.Values.{unary_known, joined_known, call_known, element_known}

-- ---- literals

literal_value : (v : Val) (r : Readings) → value_of (e.Literal v) r ≡ Ok v
literal_value v r = ap (λ (m : Meaning). m.value r) (variants.literal v)

in_range_known : (place : Place) (o : Option Val) (n : Notes) → IfSome (in_range place o n).1 HasItsValue
in_range_known place (Some v) n = literal_value v
in_range_known place None n = tt

scaled_known : (place : Place) (x : NumberValue) (unit : Name) (found : Option Thing) (s : Option Scale) (n : Notes) → IfSome (scaled_at place x unit found s n).1 HasItsValue
scaled_known place x unit found (Some s) n = in_range_known place (time_literal x s) n
scaled_known place x unit None None n = tt
scaled_known place x unit (Some t) None n = tt

time_known : (place : Place) (x : NumberValue) (v : Option Val) (unit : Name) (found : Option Thing) (s : Option Scale) (n : Notes) → IfSome (time_at place x v unit found s n).1 HasItsValue
time_known place x (Some v) unit found s n = scaled_known place x unit found s n
time_known place x None unit found s n = tt

number_known : (texts : List (List ℕ)) (things : ℕ → Option Thing) (place : Place) (x : NumberValue) (unit : Option Name) (n : Notes) → IfSome (number_at texts things place x unit n).1 HasItsValue
number_known texts things place x None n = in_range_known place (number_literal x) n
number_known texts things place x (Some unit) n = time_known place x (number_literal x) unit (things unit.number) (scale_of (text_of texts unit.number)) n

-- ---- names

constant_known : (place : Place) (k : Kind) (v : Option Val) (n : Notes) → IfSome (constant place k v n).1 HasItsValue
constant_known place k (Some v) n = literal_value v
constant_known place k None n = tt

now_known : (c : Context) (s : Surrounding) (place : Place) (n : Notes) → IfSome (now_at c s place n).1 HasItsValue
now_known c surrounding.Declaration place n = tt
now_known c surrounding.Process place n = tt
now_known c surrounding.Equation place n = tt
now_known c surrounding.Condition place n = tt

named_of : (c : Context) (x : Name) (t : Thing) (n : Notes) → IfSome (named c x (Some t) n).1 HasItsValue
named_of c x (thing.Constant s v) n = constant_known x.place s.kind v n
named_of c x (thing.Literal v) n = literal_value v
named_of c x thing.Now n = now_known c c.surrounding x.place n
named_of c x _ n = tt

named_known : (c : Context) (x : Name) (found : Option Thing) (n : Notes) → IfSome (named c x found n).1 HasItsValue
named_known c x (Some t) n = named_of c x t n
named_known c x None n = tt

-- ---- calls and elements

element_at_known : (place : Place) (s : Subtype) (i : Typed) (v : Option Typed) (n : Notes) → IfSome v HasItsValue → HasItsValue i → IfSome (element_at place s i v n).1 HasItsValue
element_at_known place s i (Some v) n h g = element_known s.constraint v.expr i.expr v.value i.value h g
element_at_known place s i None n h g = tt

indexed_known : (c : Context) (x : Name) (t : Thing) (s : Option Subtype) (i : Typed) (n : Notes) → HasItsValue i → IfSome (indexed c x t s i n).1 HasItsValue
indexed_known c x t None i n g = tt
indexed_known c x t (Some s) i n g = go (is_vector s.kind && same_kind i.kind (Of type.Integer))
  where
    go : (b : Bool) → IfSome (if b then element_of_name c x s i t n else (noted x.place WrongType n, None)).1 HasItsValue
    go true = element_at_known x.place s i (named c x (Some t) n).1 (named c x (Some t) n).0 (named_of c x t n) g
    go false = tt

applied_known : (c : Context) (x : Name) (t : Thing) (f : Option Function) (a : Typed) (n : Notes) → HasItsValue a → IfSome (applied c x t f a n).1 HasItsValue
applied_known c x t (Some f) a n g = call_known f a.expr a.value g
applied_known c x t None a n g = indexed_known c x t (vector_at t) a n g

call_with_known : (c : Context) (x : Name) (t : Thing) (all : List Typed) (n : Notes) → All HasItsValue all → IfSome (call_with c x t all n).1 HasItsValue
call_with_known c x t [] n g = tt
call_with_known c x t (a ∷ []) n g = applied_known c x t (function_at t a.kind) a n (g 0 a (omega arith))
call_with_known c x t (a ∷ b ∷ more) n g = tt

call_of : (c : Context) (x : Name) (t : Thing) (all : Option (List Typed)) (n : Notes) → IfSome all (All HasItsValue) → IfSome (call_at c x (Some t) all n).1 HasItsValue
call_of c x thing.Faulty all n g = tt
call_of c x t None n g = tt
call_of c x t (Some all) n g = call_with_known c x t all n g

call_at_known : (c : Context) (x : Name) (found : Option Thing) (all : Option (List Typed)) (n : Notes) → IfSome all (All HasItsValue) → IfSome (call_at c x found all n).1 HasItsValue
call_at_known c x (Some t) all n g = call_of c x t all n g
call_at_known c x None all n g = tt

-- ---- attributes

event_of : (c : Context) (x : Name) (t : Thing) (n : Notes) → IfSome (event_at c x (Some t) n).1 HasItsValue
event_of c x (thing.Signal i s a) n = tt
event_of c x thing.Domain n = tt
event_of c x thing.Faulty n = tt
event_of c x _ n = tt

event_at_known : (c : Context) (x : Name) (found : Option Thing) (n : Notes) → IfSome (event_at c x found n).1 HasItsValue
event_at_known c x (Some t) n = event_of c x t n
event_at_known c x None n = tt

no_event_known : (x : Name) (found : Option Thing) (n : Notes) → IfSome (no_event x found n).1 HasItsValue
no_event_known x None n = tt
no_event_known x (Some thing.Faulty) n = tt
no_event_known x (Some _) n = tt

event_known : (c : Context) (s : Surrounding) (x : Name) (found : Option Thing) (n : Notes) → IfSome (event_in c s x found n).1 HasItsValue
event_known c surrounding.Condition x found n = no_event_known x found n
event_known c surrounding.Declaration x found n = event_at_known c x found n
event_known c surrounding.Process x found n = event_at_known c x found n
event_known c surrounding.Equation x found n = event_at_known c x found n

dot_of : (c : Context) (x : Name) (q : ℕ) (n : Notes) → IfSome (dot c x q n).1 HasItsValue
unfolding dot
dot_of c x q n = tt

dot_some : (c : Context) (x : Name) (t : Thing) (n : Notes) → IfSome (dot_at c x (Some t) n).1 HasItsValue
dot_some c x (thing.Quantity q k) n = dot_of c x q n
dot_some c x thing.Faulty n = tt
dot_some c x _ n = tt

dot_known : (c : Context) (x : Name) (found : Option Thing) (n : Notes) → IfSome (dot_at c x found n).1 HasItsValue
dot_known c x (Some t) n = dot_some c x t n
dot_known c x None n = tt

reference_some : (c : Context) (x : Name) (t : Thing) (n : Notes) → IfSome (reference_at c x (Some t) n).1 HasItsValue
reference_some c x (thing.Terminal (terminal.Node i) m) n = tt
reference_some c x (thing.Terminal terminal.Reference m) n = tt
reference_some c x thing.Faulty n = tt
reference_some c x _ n = tt

reference_known : (c : Context) (x : Name) (found : Option Thing) (n : Notes) → IfSome (reference_at c x found n).1 HasItsValue
reference_known c x (Some t) n = reference_some c x t n
reference_known c x None n = tt

above_of : (place : Place) (h : Threshold) (n : Notes) → IfSome (above place h n).1 HasItsValue
unfolding above
above_of place h n = tt

level_known : (b : Bool) (place : Place) (h : Threshold) (n : Notes) → IfSome (if b then above place h n else (noted place WrongType n, None)).1 HasItsValue
level_known true place h n = above_of place h n
level_known false place h n = tt

above_some : (x : Name) (t : Thing) (level : Asked) (n : Notes) → IfSome (above_at x (Some t) (Some level) n).1 HasItsValue
above_some x (thing.Quantity q k) level n = level_known (same_kind level.kind (Of type.Real)) x.place (threshold q level) n
above_some x thing.Faulty level n = tt
above_some x _ level n = tt

above_none : (x : Name) (t : Thing) (n : Notes) → IfSome (above_at x (Some t) None n).1 HasItsValue
above_none x thing.Faulty n = tt
above_none x _ n = tt

above_known : (x : Name) (found : Option Thing) (level : Option Asked) (n : Notes) → IfSome (above_at x found level n).1 HasItsValue
above_known x None level n = tt
above_known x (Some t) (Some level) n = above_some x t level n
above_known x (Some t) None n = above_none x t n

ramp_some : (x : Name) (t : Thing) (fine : Bool) (n : Notes) → IfSome (ramp_at x (Some t) fine n).1 HasItsValue
ramp_some x thing.Faulty fine n = tt
ramp_some x _ true n = tt
ramp_some x _ false n = tt

ramp_known : (x : Name) (found : Option Thing) (fine : Bool) (n : Notes) → IfSome (ramp_at x found fine n).1 HasItsValue
ramp_known x (Some t) fine n = ramp_some x t fine n
ramp_known x None fine n = tt

-- ---- operators

prefixed_known : (op : UnaryOperator) (place : Place) (a : Typed) (k : Option Kind) (n : Notes) → HasItsValue a → IfSome (prefixed op place a k n).1 HasItsValue
prefixed_known op place a (Some k) n h = unary_known op (value_type k) a.expr a.value h
prefixed_known op place a None n h = tt

unary_at_known : (op : UnaryOperator) (place : Place) (a : Option Typed) (n : Notes) → IfSome a HasItsValue → IfSome (unary_at op place a n).1 HasItsValue
unary_at_known op place (Some a) n h = prefixed_known op place a (unary_kind op a.kind) n h
unary_at_known op place None n h = tt

joined_at_known : (op : BinaryOperator) (a b : Typed) (k : Option Kind) (n : Notes) → HasItsValue a → HasItsValue b → IfSome (joined op a b k n).1 HasItsValue
joined_at_known op a b (Some k) n h g = joined_known op (value_type k) a.expr b.expr a.kind b.kind a.value b.value h g
joined_at_known op a b None n h g = tt

binary_at_known : (op : BinaryOperator) (a b : Option Typed) (n : Notes) → IfSome a HasItsValue → IfSome b HasItsValue → IfSome (binary_at op a b n).1 HasItsValue
binary_at_known op (Some a) (Some b) n h g = joined_at_known op a b (binary_kind op a.kind b.kind) n h g
binary_at_known op (Some a) None n h g = tt
binary_at_known op None b n h g = tt

paren_known : (place : Place) (a : Option Typed) (n : Notes) → IfSome a HasItsValue → IfSome (parenthesized place a n).1 HasItsValue
paren_known place (Some a) n h = h
paren_known place None n h = tt

-- ---- the whole

known_closed : (texts : List (List ℕ)) (scope : Scope) → IsClosed texts scope (λ (n : Notes). Unit {0}) HasItsValue
known_closed texts scope =
    record {
      down = λ a b g k. tt;
      number = λ x unit n. number_known texts (lookup scope) x.place x.value unit n;
      literal = λ x n. in_range_known x.place (content_literal texts x.value) n;
      name = λ c x n. named_known c x (lookup scope x.number) n;
      call = λ c x all n h. call_at_known c x (lookup scope x.number) all n h;
      event = λ c x n. event_known c c.surrounding x (lookup scope x.number) n;
      dot = λ c x n k. dot_known c x (lookup scope x.number) n;
      reference = λ c x n. reference_known c x (lookup scope x.number) n;
      above = λ x level n k. above_known x (lookup scope x.number) level n;
      ramp = λ x fine n. ramp_known x (lookup scope x.number) fine n;
      paren = λ place a n h. paren_known place a n h;
      unary = λ op place a n h. unary_at_known op place a n h;
      binary = λ op a b n h g. binary_at_known op a b n h g;
    }

pub known_values_are_values : KnownValuesAreValues
known_values_are_values texts scope x c n = (reading_keeps texts scope (λ (n : Notes). Unit {0}) HasItsValue (known_closed texts scope) x c n).right tt
