-- Steps of reading: the faults that they add, and what they find, from other notes.
use Rattle.std.proofs.Common.{◌≡◌, ℕ, Bool, true, false, if◌then◌else◌, List, [], ◌∷◌, Option, Some, None, refl, sym, subst}
use Rattle.std.specs.Prelude.{◌&&◌}
use Rattle.ams_token.specs.declared.token.Place.{Place}
use Rattle.ams_tree.specs.declared.expression.Name.{Name}
use Rattle.ams_tree.specs.declared.expression.NumberValue.{NumberValue}
use Rattle.ams_tree.specs.declared.expression.LiteralValue.{LiteralValue}
use Rattle.ams_value.specs.declared.val.Val.{Val}
use Rattle.ams_value.specs.declared.op.UnaryOperator.{UnaryOperator}
use Rattle.ams_value.specs.declared.op.BinaryOperator.{BinaryOperator}
use Rattle.ams_value.specs.declared.value_type.ValueType.TheVariants as kind
use Rattle.flat_expr.specs.declared.expr.FlatExpr.{FlatExpr}
use Rattle.flat_expr.specs.declared.expr.Function.{Function}
use Rattle.flat_design.specs.declared.objects.Terminal.TheVariants as terminal
use Rattle.name_scope.specs.declared.thing.Kind.{Kind}
use Rattle.name_scope.specs.declared.thing.Kind.TheVariants.{Of}
use Rattle.name_scope.specs.declared.thing.Subtype.{Subtype}
use Rattle.name_scope.specs.declared.thing.Thing.{Thing}
use Rattle.name_scope.specs.declared.thing.Thing.TheVariants as thing
use Rattle.elab_meaning.specs.declared.fault.Cause.{Cause}
use Rattle.elab_meaning.specs.declared.fault.Cause.TheVariants.{Unknown, WrongType}
use Rattle.elab_meaning.specs.declared.fault.Notes.{Notes}
use Rattle.elab_meaning.specs.declared.typed.Asked.{Asked}
use Rattle.elab_meaning.specs.declared.typed.Context.{Context}
use Rattle.elab_meaning.specs.declared.typed.Scale.{Scale}
use Rattle.elab_meaning.specs.declared.typed.StaticValue.{StaticValue}
use Rattle.elab_meaning.specs.declared.typed.StaticValue.TheVariants.{Known, Faulty, Later, Changing}
use Rattle.elab_meaning.specs.declared.typed.Surrounding.{Surrounding}
use Rattle.elab_meaning.specs.declared.typed.Surrounding.TheVariants as surrounding
use Rattle.elab_meaning.specs.declared.typed.Typed.{Typed}
use Rattle.elab_meaning.specs.Kinds.{unary_kind, binary_kind, same_kind, is_vector}
use Rattle.elab_meaning.specs.Notes.{Found, noted, changing}
use Rattle.elab_meaning.specs.Literals.{in_range, number_literal, content_literal, scaled_at, time_at, time_literal, number_at, literal_at}
use Rattle.elab_meaning.specs.Names.{named, now_at, function_at, vector_at, indexed, applied, call_with, call_at, missing, element_at, element_of_name, event_at, no_event, event_in, reference_at, ramp_at}
use Rattle.elab_meaning.specs.Expressions.{prefixed, unary_at, joined, binary_at, parenthesized, asked_value, asked}
use Rattle.again_laws.specs.Again.{BreaksAlike}
use Rattle.again_laws.proofs.Breaks.{breaks_same, breaks_noted, breaks_changing, breaks_on}

-- ---- the same but for the numbers of dots and thresholds

abbrev pub as_read : FlatExpr → Typed → Typed
as_read e a = record { place = a.place; kind = a.kind; expr = e; value = a.value }

abbrev pub LikeTyped : Typed → Typed → Type 0
LikeTyped a b = (e : FlatExpr) × (b ≡ as_read e a)

abbrev pub Like : Option Typed → Option Typed → Type 0
Like (Some a) (Some b) = LikeTyped a b
Like None None = Unit {0}
Like _ _ = ⊥

abbrev pub LikeAll : List Typed → List Typed → Type 0
LikeAll [] [] = Unit {0}
LikeAll (a ∷ all) (b ∷ more) = LikeTyped a b × LikeAll all more
LikeAll _ _ = ⊥

abbrev pub LikeList : Option (List Typed) → Option (List Typed) → Type 0
LikeList (Some all) (Some more) = LikeAll all more
LikeList None None = Unit {0}
LikeList _ _ = ⊥

-- a step from notes `n`, and the same step from notes `m`
pub record Quiet (n m : Notes) (f g : Found) : Type 0 where
  pub same : BreaksAlike n m f.0 g.0
  pub like : Like f.1 g.1

-- ---- the three ends

still : (n m : Notes) (a : Typed) (e : FlatExpr) → Quiet n m (n, Some a) (m, Some (as_read e a))
still n m a e = record { same = breaks_same n m; like = (e, refl) }

nothing : (n m : Notes) → Quiet n m (n, None) (m, None)
nothing n m = record { same = breaks_same n m; like = tt }

broken : (place : Place) (cause : Cause) (n m : Notes) → Quiet n m (noted place cause n, None) (noted place cause m, None)
broken place cause n m = record { same = breaks_noted place cause n m; like = tt }

changed : (c : Context) (place : Place) (n m : Notes) (a : Typed) (e : FlatExpr) → Quiet n m (changing c place n, Some a) (changing c place m, Some (as_read e a))
changed c place n m a e = record { same = breaks_changing c place n m; like = (e, refl) }

-- ---- literals

quiet_range : (place : Place) (v : Option Val) (n m : Notes) → Quiet n m (in_range place v n) (in_range place v m)
quiet_range place (Some v) n m = still n m _ _
quiet_range place None n m = broken place WrongType n m

quiet_scaled : (place : Place) (x : NumberValue) (unit : Name) (found : Option Thing) (s : Option Scale) (n m : Notes) → Quiet n m (scaled_at place x unit found s n) (scaled_at place x unit found s m)
quiet_scaled place x unit found (Some s) n m = quiet_range place (time_literal x s) n m
quiet_scaled place x unit None None n m = broken unit.place (Unknown unit.number) n m
quiet_scaled place x unit (Some t) None n m = broken place WrongType n m

quiet_time : (place : Place) (x : NumberValue) (v : Option Val) (unit : Name) (found : Option Thing) (s : Option Scale) (n m : Notes) → Quiet n m (time_at place x v unit found s n) (time_at place x v unit found s m)
quiet_time place x None unit found s n m = broken place WrongType n m
quiet_time place x (Some v) unit found s n m = quiet_scaled place x unit found s n m

pub quiet_number : (texts : List (List ℕ)) (things : ℕ → Option Thing) (place : Place) (x : NumberValue) (unit : Option Name) (n m : Notes) → Quiet n m (number_at texts things place x unit n) (number_at texts things place x unit m)
quiet_number texts things place x None n m = quiet_range place (number_literal x) n m
quiet_number texts things place x (Some unit) n m = quiet_time place x (number_literal x) unit (things unit.number) _ n m

pub quiet_literal : (texts : List (List ℕ)) (place : Place) (x : LiteralValue) (n m : Notes) → Quiet n m (literal_at texts place x n) (literal_at texts place x m)
quiet_literal texts place x n m = quiet_range place (content_literal texts x) n m

-- ---- names

quiet_now : (c : Context) (s : Surrounding) (place : Place) (n m : Notes) → Quiet n m (now_at c s place n) (now_at c s place m)
quiet_now c surrounding.Declaration place n m = changed c place n m _ _
quiet_now c surrounding.Process place n m = changed c place n m _ _
quiet_now c surrounding.Equation place n m = changed c place n m _ _
quiet_now c surrounding.Condition place n m = changed c place n m _ _

pub quiet_named : (c : Context) (x : Name) (found : Option Thing) (n m : Notes) → Quiet n m (named c x found n) (named c x found m)
quiet_named c x None n m = broken x.place (Unknown x.number) n m
quiet_named c x (Some (thing.Constant s (Some v))) n m = still n m _ _
quiet_named c x (Some (thing.Constant s None)) n m = still n m _ _
quiet_named c x (Some (thing.Literal v)) n m = still n m _ _
quiet_named c x (Some (thing.Signal i s a)) n m = changed c x.place n m _ _
quiet_named c x (Some thing.Domain) n m = changed c x.place n m _ _
quiet_named c x (Some (thing.Quantity i q)) n m = changed c x.place n m _ _
quiet_named c x (Some (thing.Variable i s)) n m = changed c x.place n m _ _
quiet_named c x (Some (thing.Parameter i)) n m = changed c x.place n m _ _
quiet_named c x (Some thing.Now) n m = quiet_now c c.surrounding x.place n m
quiet_named c x (Some thing.Faulty) n m = nothing n m
quiet_named c x (Some _) n m = broken x.place WrongType n m

-- ---- calls and elements

quiet_element : (place : Place) (s : Subtype) (i : Typed) (e : FlatExpr) (v w : Option Typed) (n m : Notes) → Like v w → Quiet n m (element_at place s i v n) (element_at place s (as_read e i) w m)
quiet_element place s i e None None n m h = nothing n m
quiet_element place s i e (Some v) (Some w) n m h =
    subst (λ (w : Typed). Quiet n m (element_at place s i (Some v) n) (element_at place s (as_read e i) (Some w) m)) (sym h.1) (still n m _ _)
quiet_element place s i e (Some v) None n m h = absurd h
quiet_element place s i e None (Some w) n m h = absurd h

quiet_element_of : (c : Context) (x : Name) (s : Subtype) (i : Typed) (e : FlatExpr) (t : Thing) (n m : Notes) → Quiet n m (element_of_name c x s i t n) (element_of_name c x s (as_read e i) t m)
quiet_element_of c x s i e t n m =
    let v = named c x (Some t) n in
    let w = named c x (Some t) m in
    let first : Quiet n m v w = quiet_named c x (Some t) n m in
    let rest : Quiet v.0 w.0 (element_at x.place s i v.1 v.0) (element_at x.place s (as_read e i) w.1 w.0) = quiet_element x.place s i e v.1 w.1 v.0 w.0 first.like in
    record { same = breaks_on n m v.0 w.0 (element_at x.place s i v.1 v.0).0 (element_at x.place s (as_read e i) w.1 w.0).0 first.same rest.same; like = rest.like }

quiet_indexed : (c : Context) (x : Name) (t : Thing) (s : Option Subtype) (i : Typed) (e : FlatExpr) (n m : Notes) → Quiet n m (indexed c x t s i n) (indexed c x t s (as_read e i) m)
quiet_indexed c x t None i e n m = broken x.place WrongType n m
quiet_indexed c x t (Some s) i e n m = go (is_vector s.kind && same_kind i.kind (Of kind.Integer))
  where
    go : (b : Bool) → Quiet n m (if b then element_of_name c x s i t n else (noted x.place WrongType n, None)) (if b then element_of_name c x s (as_read e i) t m else (noted x.place WrongType m, None))
    go true = quiet_element_of c x s i e t n m
    go false = broken x.place WrongType n m

quiet_applied : (c : Context) (x : Name) (t : Thing) (f : Option Function) (a : Typed) (e : FlatExpr) (n m : Notes) → Quiet n m (applied c x t f a n) (applied c x t f (as_read e a) m)
quiet_applied c x t (Some f) a e n m = still n m _ _
quiet_applied c x t None a e n m = quiet_indexed c x t (vector_at t) a e n m

quiet_call_with : (c : Context) (x : Name) (t : Thing) (all more : List Typed) (n m : Notes) → LikeAll all more → Quiet n m (call_with c x t all n) (call_with c x t more m)
quiet_call_with c x t [] [] n m h = broken x.place WrongType n m
quiet_call_with c x t (a ∷ []) (b ∷ []) n m h =
    subst (λ (b : Typed). Quiet n m (call_with c x t (a ∷ []) n) (call_with c x t (b ∷ []) m)) (sym h.0.1) (quiet_applied c x t (function_at t a.kind) a h.0.0 n m)
quiet_call_with c x t (a ∷ b ∷ all) (d ∷ e ∷ more) n m h = broken x.place WrongType n m
quiet_call_with c x t [] (b ∷ more) n m h = absurd h
quiet_call_with c x t (a ∷ all) [] n m h = absurd h
quiet_call_with c x t (a ∷ []) (b ∷ d ∷ more) n m h = absurd h.1
quiet_call_with c x t (a ∷ b ∷ all) (d ∷ []) n m h = absurd h.1

quiet_call_of : (c : Context) (x : Name) (t : Thing) (all more : Option (List Typed)) (n m : Notes) → LikeList all more → Quiet n m (call_at c x (Some t) all n) (call_at c x (Some t) more m)
quiet_call_of c x thing.Faulty all more n m h = nothing n m
quiet_call_of c x t None None n m h = nothing n m
quiet_call_of c x t (Some all) (Some more) n m h = quiet_call_with c x t all more n m h
quiet_call_of c x t (Some all) None n m h = absurd h
quiet_call_of c x t None (Some more) n m h = absurd h

pub quiet_call : (c : Context) (x : Name) (found : Option Thing) (all more : Option (List Typed)) (n m : Notes) → LikeList all more → Quiet n m (call_at c x found all n) (call_at c x found more m)
quiet_call c x None all more n m h = nothing n m
quiet_call c x (Some t) all more n m h = quiet_call_of c x t all more n m h

pub breaks_missing : (x : Name) (found : Option Thing) (n m : Notes) → BreaksAlike n m (missing x found n) (missing x found m)
breaks_missing x None n m = breaks_noted x.place (Unknown x.number) n m
breaks_missing x (Some t) n m = breaks_same n m

-- ---- attributes

quiet_event_at : (c : Context) (x : Name) (found : Option Thing) (n m : Notes) → Quiet n m (event_at c x found n) (event_at c x found m)
quiet_event_at c x None n m = broken x.place (Unknown x.number) n m
quiet_event_at c x (Some (thing.Signal i s a)) n m = changed c x.place n m _ _
quiet_event_at c x (Some thing.Domain) n m = changed c x.place n m _ _
quiet_event_at c x (Some thing.Faulty) n m = nothing n m
quiet_event_at c x (Some _) n m = broken x.place WrongType n m

quiet_no_event : (x : Name) (found : Option Thing) (n m : Notes) → Quiet n m (no_event x found n) (no_event x found m)
quiet_no_event x None n m = broken x.place (Unknown x.number) n m
quiet_no_event x (Some thing.Faulty) n m = nothing n m
quiet_no_event x (Some _) n m = broken x.place WrongType n m

pub quiet_event : (c : Context) (s : Surrounding) (x : Name) (found : Option Thing) (n m : Notes) → Quiet n m (event_in c s x found n) (event_in c s x found m)
quiet_event c surrounding.Condition x found n m = quiet_no_event x found n m
quiet_event c surrounding.Declaration x found n m = quiet_event_at c x found n m
quiet_event c surrounding.Process x found n m = quiet_event_at c x found n m
quiet_event c surrounding.Equation x found n m = quiet_event_at c x found n m

pub quiet_reference : (c : Context) (x : Name) (found : Option Thing) (n m : Notes) → Quiet n m (reference_at c x found n) (reference_at c x found m)
quiet_reference c x None n m = broken x.place (Unknown x.number) n m
quiet_reference c x (Some (thing.Terminal (terminal.Node i) k)) n m = changed c x.place n m _ _
quiet_reference c x (Some (thing.Terminal terminal.Reference k)) n m = changed c x.place n m _ _
quiet_reference c x (Some thing.Faulty) n m = nothing n m
quiet_reference c x (Some _) n m = broken x.place WrongType n m

quiet_ramp_of : (x : Name) (t : Thing) (fine : Bool) (n m : Notes) → Quiet n m (ramp_at x (Some t) fine n) (ramp_at x (Some t) fine m)
quiet_ramp_of x thing.Faulty fine n m = nothing n m
quiet_ramp_of x _ true n m = broken x.place WrongType n m
quiet_ramp_of x _ false n m = nothing n m

pub quiet_ramp : (x : Name) (found : Option Thing) (fine : Bool) (n m : Notes) → Quiet n m (ramp_at x found fine n) (ramp_at x found fine m)
quiet_ramp x None fine n m = broken x.place (Unknown x.number) n m
quiet_ramp x (Some t) fine n m = quiet_ramp_of x t fine n m

-- ---- what is asked before the run

-- the same is found of a value
pub record SameAsked (n m : Notes) (f g : Notes × Option Asked) : Type 0 where
  pub same : BreaksAlike n m f.0 g.0
  pub asked_is : f.1 ≡ g.1

same_value : (place : Place) (k : Kind) (v : StaticValue) (n m : Notes) → SameAsked n m (asked_value place k v n) (asked_value place k v m)
same_value place k (Known v) n m = record { same = breaks_same n m; asked_is = refl }
same_value place k Faulty n m = record { same = breaks_noted place WrongType n m; asked_is = refl }
same_value place k Later n m = record { same = breaks_same n m; asked_is = refl }
same_value place k Changing n m = record { same = breaks_same n m; asked_is = refl }

pub same_asked : (a b : Option Typed) (n m : Notes) → Like a b → SameAsked n m (asked a n) (asked b m)
same_asked None None n m h = record { same = breaks_same n m; asked_is = refl }
same_asked (Some a) (Some b) n m h = subst (λ (b : Typed). SameAsked n m (asked (Some a) n) (asked (Some b) m)) (sym h.1) (same_value a.place a.kind a.value n m)
same_asked (Some a) None n m h = absurd h
same_asked None (Some b) n m h = absurd h

-- ---- operators

quiet_prefixed : (op : UnaryOperator) (place : Place) (a : Typed) (e : FlatExpr) (k : Option Kind) (n m : Notes) → Quiet n m (prefixed op place a k n) (prefixed op place (as_read e a) k m)
quiet_prefixed op place a e None n m = broken place WrongType n m
quiet_prefixed op place a e (Some k) n m = still n m _ _

pub quiet_unary : (op : UnaryOperator) (place : Place) (a b : Option Typed) (n m : Notes) → Like a b → Quiet n m (unary_at op place a n) (unary_at op place b m)
quiet_unary op place None None n m h = nothing n m
quiet_unary op place (Some a) (Some b) n m h =
    subst (λ (b : Typed). Quiet n m (unary_at op place (Some a) n) (unary_at op place (Some b) m)) (sym h.1) (quiet_prefixed op place a h.0 (unary_kind op a.kind) n m)
quiet_unary op place (Some a) None n m h = absurd h
quiet_unary op place None (Some b) n m h = absurd h

quiet_joined : (op : BinaryOperator) (a b : Typed) (e f : FlatExpr) (k : Option Kind) (n m : Notes) → Quiet n m (joined op a b k n) (joined op (as_read e a) (as_read f b) k m)
quiet_joined op a b e f None n m = broken a.place WrongType n m
quiet_joined op a b e f (Some k) n m = still n m _ _

pub quiet_binary : (op : BinaryOperator) (a b c d : Option Typed) (n m : Notes) → Like a c → Like b d → Quiet n m (binary_at op a b n) (binary_at op c d m)
quiet_binary op None b None d n m h g = nothing n m
quiet_binary op (Some a) None (Some c) None n m h g = nothing n m
quiet_binary op (Some a) (Some b) (Some c) (Some d) n m h g =
    subst (λ (c : Typed). Quiet n m (binary_at op (Some a) (Some b) n) (binary_at op (Some c) (Some d) m)) (sym h.1)
    (subst (λ (d : Typed). Quiet n m (binary_at op (Some a) (Some b) n) (binary_at op (Some (as_read h.0 a)) (Some d) m)) (sym g.1)
    (quiet_joined op a b h.0 g.0 (binary_kind op a.kind b.kind) n m))
quiet_binary op None b (Some c) d n m h g = absurd h
quiet_binary op (Some a) b None d n m h g = absurd h
quiet_binary op (Some a) None (Some c) (Some d) n m h g = absurd g
quiet_binary op (Some a) (Some b) (Some c) None n m h g = absurd g

pub quiet_paren : (place : Place) (a b : Option Typed) (n m : Notes) → Like a b → Quiet n m (parenthesized place a n) (parenthesized place b m)
quiet_paren place None None n m h = nothing n m
quiet_paren place (Some a) (Some b) n m h =
    subst (λ (b : Typed). Quiet n m (parenthesized place (Some a) n) (parenthesized place (Some b) m)) (sym h.1) (still n m _ _)
quiet_paren place (Some a) None n m h = absurd h
quiet_paren place None (Some b) n m h = absurd h
