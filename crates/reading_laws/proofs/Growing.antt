-- Each part of reading an expression only adds to the notes.
use Rattle.std.proofs.Common.{ℕ, Bool, true, false, if◌then◌else◌, List, [], ◌∷◌, ◌++◌, length, append_assoc, append-nil, Option, Some, None, refl, sym, ap, ◌∙◌}
use Rattle.std.specs.Prelude.{nat_le, nat_eq, ◌&&◌}
use Rattle.ams_token.specs.declared.token.Place.{Place}
use Rattle.ams_tree.specs.declared.expression.Name.{Name}
use Rattle.ams_tree.specs.declared.expression.NumberValue.{NumberValue}
use Rattle.ams_tree.specs.declared.expression.LiteralValue.{LiteralValue}
use Rattle.ams_value.specs.declared.val.Val.{Val}
use Rattle.ams_value.specs.declared.op.UnaryOperator.{UnaryOperator}
use Rattle.ams_value.specs.declared.op.BinaryOperator.{BinaryOperator}
use Rattle.ams_value.specs.declared.value_type.ValueType.TheVariants as kind
use Rattle.flat_expr.specs.declared.expr.Function.{Function}
use Rattle.flat_design.specs.Limits.{unknown_limit, threshold_limit}
use Rattle.flat_design.specs.Lists.{number_in, same_threshold}
use Rattle.flat_design.specs.declared.objects.Threshold.{Threshold}
use Rattle.flat_design.specs.declared.objects.Terminal.TheVariants as terminal
use Rattle.name_scope.specs.declared.thing.Thing.{Thing}
use Rattle.name_scope.specs.declared.thing.Thing.TheVariants as thing
use Rattle.name_scope.specs.declared.thing.Kind.{Kind}
use Rattle.name_scope.specs.declared.thing.Kind.TheVariants.{Of}
use Rattle.name_scope.specs.declared.thing.Subtype.{Subtype}
use Rattle.elab_meaning.specs.declared.fault.Cause.{Cause}
use Rattle.elab_meaning.specs.declared.fault.Cause.TheVariants.{Unknown, WrongType, NotStatic}
use Rattle.elab_meaning.specs.declared.fault.Fault.{Fault}
use Rattle.elab_meaning.specs.declared.fault.Notes.{Notes}
use Rattle.elab_meaning.specs.declared.typed.Asked.{Asked}
use Rattle.elab_meaning.specs.declared.typed.Context.{Context}
use Rattle.elab_meaning.specs.declared.typed.Scale.{Scale}
use Rattle.elab_meaning.specs.declared.typed.StaticValue.{StaticValue}
use Rattle.elab_meaning.specs.declared.typed.StaticValue.TheVariants.{Known, Faulty, Later, Changing}
use Rattle.elab_meaning.specs.declared.typed.Surrounding.{Surrounding}
use Rattle.elab_meaning.specs.declared.typed.Surrounding.TheVariants as surrounding
use Rattle.elab_meaning.specs.declared.typed.Typed.{Typed}
use Rattle.elab_meaning.specs.Kinds.{unary_kind, binary_kind, same_kind, is_vector}
use Rattle.elab_meaning.specs.Notes.{noted, changing, dotted, watched}
use Rattle.elab_meaning.specs.Literals.{in_range, number_literal, content_literal, scaled_at, time_at, time_literal, number_at, literal_at}
use Rattle.elab_meaning.specs.Names.{named, now_at, function_at, vector_at, indexed, applied, call_with, call_at, missing, element_at, element_of_name, event_at, no_event, event_in, dot, dot_at, reference_at, threshold, above, above_at, ramp_at}
use Rattle.elab_meaning.specs.Expressions.{prefixed, unary_at, joined, binary_at, parenthesized, asked_value, asked}
use Rattle.reading_laws.specs.Growing.{Extends, Grows}

-- ---- lists

extends_same : (A : Type 0) (xs : List A) → Extends A xs xs
extends_same A xs = record { more = []; whole = sym (append-nil xs) }

extends_one : (A : Type 0) (xs : List A) (x : A) → Extends A xs (xs ++ x ∷ [])
extends_one A xs x = record { more = x ∷ []; whole = refl }

extends_on : (A : Type 0) (xs ys zs : List A) → Extends A xs ys → Extends A ys zs → Extends A xs zs
extends_on A xs ys zs p q =
    record { more = p.more ++ q.more; whole = q.whole ∙ (ap (λ (l : List A). l ++ q.more) p.whole ∙ append_assoc xs p.more q.more) }

extends_unless : (A : Type 0) (b : Bool) (xs : List A) (x : A) → Extends A xs (if b then xs ++ x ∷ [] else xs)
extends_unless A true xs x = extends_one A xs x
extends_unless A false xs x = extends_same A xs

-- ---- notes

pub grows_same : (n : Notes) → Grows n n
grows_same n = record { faults = extends_same Fault n.faults; dots = extends_same ℕ n.dots; thresholds = extends_same Threshold n.thresholds }

pub grows_on : (a b c : Notes) → Grows a b → Grows b c → Grows a c
grows_on a b c p q =
    record {
      faults = extends_on Fault a.faults b.faults c.faults p.faults q.faults;
      dots = extends_on ℕ a.dots b.dots c.dots p.dots q.dots;
      thresholds = extends_on Threshold a.thresholds b.thresholds c.thresholds p.thresholds q.thresholds;
    }

pub grows_noted : (place : Place) (cause : Cause) (n : Notes) → Grows n (noted place cause n)
grows_noted place cause n =
    record {
      faults = extends_one Fault n.faults (record { place = place; cause = cause });
      dots = extends_same ℕ n.dots;
      thresholds = extends_same Threshold n.thresholds;
    }

pub grows_changing : (c : Context) (place : Place) (n : Notes) → Grows n (changing c place n)
grows_changing c place n = go c.is_static
  where
    go : (b : Bool) → Grows n (if b then noted place NotStatic n else n)
    go true = grows_noted place NotStatic n
    go false = grows_same n

pub grows_dotted : (q : ℕ) (n : Notes) → Grows n (dotted q n)
unfolding dotted
grows_dotted q n = go (nat_le (length n.dots) unknown_limit) (nat_eq (number_in (λ other. nat_eq other q) n.dots) (length n.dots))
  where
    go : (b new : Bool) → Grows n (if b then record { faults = n.faults; dots = if new then n.dots ++ q ∷ [] else n.dots; thresholds = n.thresholds } else n)
    go true new = record { faults = extends_same Fault n.faults; dots = extends_unless ℕ new n.dots q; thresholds = extends_same Threshold n.thresholds }
    go false new = grows_same n

pub grows_watched : (h : Threshold) (n : Notes) → Grows n (watched h n)
unfolding watched
grows_watched h n = go (nat_le (length n.thresholds) threshold_limit) (nat_eq (number_in (λ other. same_threshold other h) n.thresholds) (length n.thresholds))
  where
    go : (b new : Bool) → Grows n (if b then record { faults = n.faults; dots = n.dots; thresholds = if new then n.thresholds ++ h ∷ [] else n.thresholds } else n)
    go true new = record { faults = extends_same Fault n.faults; dots = extends_same ℕ n.dots; thresholds = extends_unless Threshold new n.thresholds h }
    go false new = grows_same n

-- ---- literals

grows_in_range : (place : Place) (v : Option Val) (n : Notes) → Grows n (in_range place v n).0
grows_in_range place (Some v) n = grows_same n
grows_in_range place None n = grows_noted place WrongType n

grows_scaled : (place : Place) (x : NumberValue) (unit : Name) (found : Option Thing) (s : Option Scale) (n : Notes) → Grows n (scaled_at place x unit found s n).0
grows_scaled place x unit found (Some s) n = grows_in_range place (time_literal x s) n
grows_scaled place x unit None None n = grows_noted unit.place (Unknown unit.number) n
grows_scaled place x unit (Some t) None n = grows_noted place WrongType n

grows_time : (place : Place) (x : NumberValue) (v : Option Val) (unit : Name) (found : Option Thing) (s : Option Scale) (n : Notes) → Grows n (time_at place x v unit found s n).0
grows_time place x None unit found s n = grows_noted place WrongType n
grows_time place x (Some v) unit found s n = grows_scaled place x unit found s n

pub grows_number : (texts : List (List ℕ)) (things : ℕ → Option Thing) (place : Place) (x : NumberValue) (unit : Option Name) (n : Notes) → Grows n (number_at texts things place x unit n).0
grows_number texts things place x None n = grows_in_range place (number_literal x) n
grows_number texts things place x (Some unit) n = grows_time place x (number_literal x) unit (things unit.number) _ n

pub grows_literal : (texts : List (List ℕ)) (place : Place) (x : LiteralValue) (n : Notes) → Grows n (literal_at texts place x n).0
grows_literal texts place x n = grows_in_range place (content_literal texts x) n

-- ---- names

grows_now : (c : Context) (s : Surrounding) (place : Place) (n : Notes) → Grows n (now_at c s place n).0
grows_now c surrounding.Declaration place n = grows_changing c place n
grows_now c surrounding.Process place n = grows_changing c place n
grows_now c surrounding.Equation place n = grows_changing c place n
grows_now c surrounding.Condition place n = grows_changing c place n

pub grows_named : (c : Context) (x : Name) (found : Option Thing) (n : Notes) → Grows n (named c x found n).0
grows_named c x None n = grows_noted x.place (Unknown x.number) n
grows_named c x (Some (thing.Constant s (Some v))) n = grows_same n
grows_named c x (Some (thing.Constant s None)) n = grows_same n
grows_named c x (Some (thing.Literal v)) n = grows_same n
grows_named c x (Some (thing.Signal i s a)) n = grows_changing c x.place n
grows_named c x (Some thing.Domain) n = grows_changing c x.place n
grows_named c x (Some (thing.Quantity i q)) n = grows_changing c x.place n
grows_named c x (Some (thing.Variable i s)) n = grows_changing c x.place n
grows_named c x (Some (thing.Parameter i)) n = grows_changing c x.place n
grows_named c x (Some thing.Now) n = grows_now c c.surrounding x.place n
grows_named c x (Some thing.Faulty) n = grows_same n
grows_named c x (Some _) n = grows_noted x.place WrongType n

-- ---- calls and elements

grows_element : (place : Place) (s : Subtype) (i : Typed) (v : Option Typed) (n : Notes) → Grows n (element_at place s i v n).0
grows_element place s i None n = grows_same n
grows_element place s i (Some v) n = grows_same n

grows_element_of : (c : Context) (x : Name) (s : Subtype) (i : Typed) (t : Thing) (n : Notes) → Grows n (element_of_name c x s i t n).0
grows_element_of c x s i t n =
    let v = named c x (Some t) n in
    grows_on n v.0 (element_at x.place s i v.1 v.0).0 (grows_named c x (Some t) n) (grows_element x.place s i v.1 v.0)

grows_indexed : (c : Context) (x : Name) (t : Thing) (s : Option Subtype) (i : Typed) (n : Notes) → Grows n (indexed c x t s i n).0
grows_indexed c x t None i n = grows_noted x.place WrongType n
grows_indexed c x t (Some s) i n = go (is_vector s.kind && same_kind i.kind (Of kind.Integer))
  where
    go : (b : Bool) → Grows n (if b then element_of_name c x s i t n else (noted x.place WrongType n, None)).0
    go true = grows_element_of c x s i t n
    go false = grows_noted x.place WrongType n

grows_applied : (c : Context) (x : Name) (t : Thing) (f : Option Function) (a : Typed) (n : Notes) → Grows n (applied c x t f a n).0
grows_applied c x t (Some f) a n = grows_same n
grows_applied c x t None a n = grows_indexed c x t (vector_at t) a n

grows_call_with : (c : Context) (x : Name) (t : Thing) (all : List Typed) (n : Notes) → Grows n (call_with c x t all n).0
grows_call_with c x t [] n = grows_noted x.place WrongType n
grows_call_with c x t (a ∷ []) n = grows_applied c x t (function_at t a.kind) a n
grows_call_with c x t (a ∷ b ∷ more) n = grows_noted x.place WrongType n

grows_call_of : (c : Context) (x : Name) (t : Thing) (all : Option (List Typed)) (n : Notes) → Grows n (call_at c x (Some t) all n).0
grows_call_of c x thing.Faulty all n = grows_same n
grows_call_of c x t None n = grows_same n
grows_call_of c x t (Some all) n = grows_call_with c x t all n

pub grows_call : (c : Context) (x : Name) (found : Option Thing) (all : Option (List Typed)) (n : Notes) → Grows n (call_at c x found all n).0
grows_call c x None all n = grows_same n
grows_call c x (Some t) all n = grows_call_of c x t all n

pub grows_missing : (x : Name) (found : Option Thing) (n : Notes) → Grows n (missing x found n)
grows_missing x None n = grows_noted x.place (Unknown x.number) n
grows_missing x (Some t) n = grows_same n

-- ---- attributes

grows_event_at : (c : Context) (x : Name) (found : Option Thing) (n : Notes) → Grows n (event_at c x found n).0
grows_event_at c x None n = grows_noted x.place (Unknown x.number) n
grows_event_at c x (Some (thing.Signal i s a)) n = grows_changing c x.place n
grows_event_at c x (Some thing.Domain) n = grows_changing c x.place n
grows_event_at c x (Some thing.Faulty) n = grows_same n
grows_event_at c x (Some _) n = grows_noted x.place WrongType n

grows_no_event : (x : Name) (found : Option Thing) (n : Notes) → Grows n (no_event x found n).0
grows_no_event x None n = grows_noted x.place (Unknown x.number) n
grows_no_event x (Some thing.Faulty) n = grows_same n
grows_no_event x (Some _) n = grows_noted x.place WrongType n

pub grows_event : (c : Context) (s : Surrounding) (x : Name) (found : Option Thing) (n : Notes) → Grows n (event_in c s x found n).0
grows_event c surrounding.Condition x found n = grows_no_event x found n
grows_event c surrounding.Declaration x found n = grows_event_at c x found n
grows_event c surrounding.Process x found n = grows_event_at c x found n
grows_event c surrounding.Equation x found n = grows_event_at c x found n

grows_dot_of : (c : Context) (x : Name) (q : ℕ) (n : Notes) → Grows n (dot c x q n).0
unfolding dot
grows_dot_of c x q n = grows_on n (changing c x.place n) (dotted q (changing c x.place n)) (grows_changing c x.place n) (grows_dotted q (changing c x.place n))

pub grows_dot : (c : Context) (x : Name) (found : Option Thing) (n : Notes) → Grows n (dot_at c x found n).0
grows_dot c x None n = grows_noted x.place (Unknown x.number) n
grows_dot c x (Some (thing.Quantity q k)) n = grows_dot_of c x q n
grows_dot c x (Some thing.Faulty) n = grows_same n
grows_dot c x (Some _) n = grows_noted x.place WrongType n

pub grows_reference : (c : Context) (x : Name) (found : Option Thing) (n : Notes) → Grows n (reference_at c x found n).0
grows_reference c x None n = grows_noted x.place (Unknown x.number) n
grows_reference c x (Some (thing.Terminal (terminal.Node i) m)) n = grows_changing c x.place n
grows_reference c x (Some (thing.Terminal terminal.Reference m)) n = grows_changing c x.place n
grows_reference c x (Some thing.Faulty) n = grows_same n
grows_reference c x (Some _) n = grows_noted x.place WrongType n

grows_above_of : (place : Place) (h : Threshold) (n : Notes) → Grows n (above place h n).0
unfolding above
grows_above_of place h n = grows_watched h n

grows_level : (b : Bool) (place : Place) (h : Threshold) (n : Notes) → Grows n (if b then above place h n else (noted place WrongType n, None)).0
grows_level true place h n = grows_above_of place h n
grows_level false place h n = grows_noted place WrongType n

grows_above_some : (x : Name) (t : Thing) (level : Asked) (n : Notes) → Grows n (above_at x (Some t) (Some level) n).0
grows_above_some x (thing.Quantity q k) level n = grows_level (same_kind level.kind (Of kind.Real)) x.place (threshold q level) n
grows_above_some x thing.Faulty level n = grows_same n
grows_above_some x _ level n = grows_noted x.place WrongType n

grows_above_none : (x : Name) (t : Thing) (n : Notes) → Grows n (above_at x (Some t) None n).0
grows_above_none x thing.Faulty n = grows_same n
grows_above_none x _ n = grows_same n

pub grows_above : (x : Name) (found : Option Thing) (level : Option Asked) (n : Notes) → Grows n (above_at x found level n).0
grows_above x None level n = grows_noted x.place (Unknown x.number) n
grows_above x (Some t) (Some level) n = grows_above_some x t level n
grows_above x (Some t) None n = grows_above_none x t n

grows_ramp_of : (x : Name) (t : Thing) (fine : Bool) (n : Notes) → Grows n (ramp_at x (Some t) fine n).0
grows_ramp_of x thing.Faulty fine n = grows_same n
grows_ramp_of x _ true n = grows_noted x.place WrongType n
grows_ramp_of x _ false n = grows_same n

pub grows_ramp : (x : Name) (found : Option Thing) (fine : Bool) (n : Notes) → Grows n (ramp_at x found fine n).0
grows_ramp x None fine n = grows_noted x.place (Unknown x.number) n
grows_ramp x (Some t) fine n = grows_ramp_of x t fine n

grows_asked_value : (place : Place) (k : Kind) (v : StaticValue) (n : Notes) → Grows n (asked_value place k v n).0
grows_asked_value place k (Known v) n = grows_same n
grows_asked_value place k Faulty n = grows_noted place WrongType n
grows_asked_value place k Later n = grows_same n
grows_asked_value place k Changing n = grows_same n

pub grows_asked : (found : Option Typed) (n : Notes) → Grows n (asked found n).0
grows_asked None n = grows_same n
grows_asked (Some t) n = grows_asked_value t.place t.kind t.value n

-- ---- operators

grows_prefixed : (op : UnaryOperator) (place : Place) (a : Typed) (k : Option Kind) (n : Notes) → Grows n (prefixed op place a k n).0
grows_prefixed op place a None n = grows_noted place WrongType n
grows_prefixed op place a (Some k) n = grows_same n

pub grows_unary : (op : UnaryOperator) (place : Place) (a : Option Typed) (n : Notes) → Grows n (unary_at op place a n).0
grows_unary op place None n = grows_same n
grows_unary op place (Some a) n = grows_prefixed op place a (unary_kind op a.kind) n

grows_joined : (op : BinaryOperator) (a b : Typed) (k : Option Kind) (n : Notes) → Grows n (joined op a b k n).0
grows_joined op a b None n = grows_noted a.place WrongType n
grows_joined op a b (Some k) n = grows_same n

pub grows_binary : (op : BinaryOperator) (a b : Option Typed) (n : Notes) → Grows n (binary_at op a b n).0
grows_binary op None b n = grows_same n
grows_binary op (Some a) None n = grows_same n
grows_binary op (Some a) (Some b) n = grows_joined op a b (binary_kind op a.kind b.kind) n

pub grows_paren : (place : Place) (a : Option Typed) (n : Notes) → Grows n (parenthesized place a n).0
grows_paren place None n = grows_same n
grows_paren place (Some a) n = grows_same n
