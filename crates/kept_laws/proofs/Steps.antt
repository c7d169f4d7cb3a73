-- Steps of reading, from two notes.
use Rattle.std.proofs.Common.{◌≡◌, ℕ, Bool, true, false, if◌then◌else◌, List, [], ◌∷◌, ◌++◌, length, Option, Some, None, IfSome, is_some, refl, sym, ap, ◌∙◌, subst, append-nil}
use Rattle.std.specs.Prelude.{◌&&◌, nat_le}
use Rattle.ams_token.specs.declared.token.Place.{Place}
use Rattle.ams_tree.specs.declared.expression.Name.{Name}
use Rattle.ams_tree.specs.declared.expression.NumberValue.{NumberValue}
use Rattle.ams_tree.specs.declared.expression.LiteralValue.{LiteralValue}
use Rattle.ams_value.specs.declared.val.Val.{Val}
use Rattle.ams_value.specs.declared.op.UnaryOperator.{UnaryOperator}
use Rattle.ams_value.specs.declared.op.BinaryOperator.{BinaryOperator}
use Rattle.ams_value.specs.declared.value_type.ValueType.TheVariants as kind
use Rattle.flat_expr.specs.declared.expr.FlatExpr.{FlatExpr}
use Rattle.flat_expr.specs.declared.expr.FlatExpr.TheVariants as e
use Rattle.flat_expr.specs.declared.expr.SignalName.TheVariants as signal
use Rattle.flat_expr.specs.declared.expr.Unknown.TheVariants as unknown
use Rattle.flat_expr.specs.declared.expr.Function.{Function}
use Rattle.flat_design.specs.Limits.{unknown_limit, threshold_limit}
use Rattle.flat_design.specs.Lists.{with_dot, with_threshold, number_of_dot, number_of_threshold}
use Rattle.flat_design.specs.declared.objects.Threshold.{Threshold}
use Rattle.flat_design.specs.declared.objects.Terminal.TheVariants as terminal
use Rattle.name_scope.specs.declared.thing.Kind.{Kind}
use Rattle.name_scope.specs.declared.thing.Kind.TheVariants.{Of}
use Rattle.name_scope.specs.declared.thing.Subtype.{Subtype}
use Rattle.name_scope.specs.declared.thing.Thing.{Thing}
use Rattle.name_scope.specs.declared.thing.Thing.TheVariants as thing
use Rattle.elab_meaning.specs.declared.fault.Cause.TheVariants.{Unknown, WrongType}
use Rattle.elab_meaning.specs.declared.fault.Fault.{Fault}
use Rattle.elab_meaning.specs.declared.fault.Notes.{Notes}
use Rattle.elab_meaning.specs.declared.typed.Asked.{Asked}
use Rattle.elab_meaning.specs.declared.typed.Context.{Context}
use Rattle.elab_meaning.specs.declared.typed.Scale.{Scale}
use Rattle.elab_meaning.specs.declared.typed.StaticValue.{StaticValue}
use Rattle.elab_meaning.specs.declared.typed.StaticValue.TheVariants.{Known, Faulty, Later, Changing}
use Rattle.elab_meaning.specs.declared.typed.Surrounding.{Surrounding}
use Rattle.elab_meaning.specs.declared.typed.Surrounding.TheVariants as surrounding
use Rattle.elab_meaning.specs.declared.typed.Typed.{Typed}
use Rattle.elab_meaning.specs.Kinds.{unary_kind, binary_kind, same_kind, is_vector}
use Rattle.elab_meaning.specs.Notes.{Found, noted, changing, dotted, watched}
use Rattle.elab_meaning.specs.Literals.{in_range, number_literal, content_literal, scaled_at, time_at, time_literal, number_at, literal_at}
use Rattle.elab_meaning.specs.Names.{named, now_at, called, function_at, vector_at, indexed, applied, call_with, call_at, missing, element, element_at, element_of_name, event_at, no_event, event_in, dot, dot_at, reference_at, threshold, above, above_at, ramp_at}
use Rattle.elab_meaning.specs.Expressions.{prefixed, unary_at, joined, binary_at, parenthesized, asked_value, asked, is_fine}
use Rattle.kept_laws.specs.Kept.{BreaksAlike, IsThere, IsFaultless}
use Rattle.kept_laws.proofs.Alike.{alike_none, alike_noted, alike_on, alike_changing, as_read, LikeTyped, Like, along, Alike, behind, weaker, still, nothing, broken, changed}

-- what a name stands for isn't of a declaration that breaks a rule
abbrev pub IfThing : Option Thing → Type 0
IfThing o = IfSome o IsFaultless

-- ---- literals

range_alike : (G : Type 0) (place : Place) (v : Option Val) (n m : Notes) → Alike G n m (in_range place v n) (in_range place v m)
range_alike G place (Some v) n m = still G n m _ _
range_alike G place None n m = broken G n m place WrongType

scaled_alike : (G : Type 0) (place : Place) (x : NumberValue) (unit : Name) (found : Option Thing) (s : Option Scale) (n m : Notes)
    → Alike G n m (scaled_at place x unit found s n) (scaled_at place x unit found s m)
scaled_alike G place x unit found (Some s) n m = range_alike G place (time_literal x s) n m
scaled_alike G place x unit None None n m = broken G n m unit.place (Unknown unit.number)
scaled_alike G place x unit (Some t) None n m = broken G n m place WrongType

time_alike : (G : Type 0) (place : Place) (x : NumberValue) (v : Option Val) (unit : Name) (found : Option Thing) (s : Option Scale) (n m : Notes)
    → Alike G n m (time_at place x v unit found s n) (time_at place x v unit found s m)
time_alike G place x None unit found s n m = broken G n m place WrongType
time_alike G place x (Some v) unit found s n m = scaled_alike G place x unit found s n m

pub number_alike : (G : Type 0) (texts : List (List ℕ)) (things : ℕ → Option Thing) (place : Place) (x : NumberValue) (unit : Option Name) (n m : Notes)
    → Alike G n m (number_at texts things place x unit n) (number_at texts things place x unit m)
number_alike G texts things place x None n m = range_alike G place (number_literal x) n m
number_alike G texts things place x (Some unit) n m = time_alike G place x (number_literal x) unit (things unit.number) _ n m

pub literal_alike : (G : Type 0) (texts : List (List ℕ)) (place : Place) (x : LiteralValue) (n m : Notes) → Alike G n m (literal_at texts place x n) (literal_at texts place x m)
literal_alike G texts place x n m = range_alike G place (content_literal texts x) n m

-- ---- names

now_alike : (G : Type 0) (c : Context) (s : Surrounding) (place : Place) (n m : Notes) → Alike G n m (now_at c s place n) (now_at c s place m)
now_alike G c surrounding.Declaration place n m = changed G n m c place _ _
now_alike G c surrounding.Process place n m = changed G n m c place _ _
now_alike G c surrounding.Equation place n m = changed G n m c place _ _
now_alike G c surrounding.Condition place n m = changed G n m c place _ _

thing_alike : (c : Context) (x : Name) (t : Thing) (n m : Notes) → Alike (IsFaultless t) n m (named c x (Some t) n) (named c x (Some t) m)
thing_alike c x (thing.Constant s (Some v)) n m = still (Unit {0}) n m _ _
thing_alike c x (thing.Constant s None) n m = still (Unit {0}) n m _ _
thing_alike c x (thing.Literal v) n m = still (Unit {0}) n m _ _
thing_alike c x (thing.Signal i s a) n m = changed (Unit {0}) n m c x.place _ _
thing_alike c x thing.Domain n m = changed (Unit {0}) n m c x.place _ _
thing_alike c x (thing.Quantity i q) n m = changed (Unit {0}) n m c x.place _ _
thing_alike c x (thing.Variable i s) n m = changed (Unit {0}) n m c x.place _ _
thing_alike c x (thing.Parameter i) n m = changed (Unit {0}) n m c x.place _ _
thing_alike c x thing.Now n m = now_alike (Unit {0}) c c.surrounding x.place n m
thing_alike c x thing.Faulty n m = nothing ⊥ n m (λ h. h)
thing_alike c x _ n m = broken (Unit {0}) n m x.place WrongType

pub named_alike : (c : Context) (x : Name) (found : Option Thing) (n m : Notes) → Alike (IfThing found) n m (named c x found n) (named c x found m)
named_alike c x None n m = broken (Unit {0}) n m x.place (Unknown x.number)
named_alike c x (Some t) n m = thing_alike c x t n m

-- ---- calls and elements

abbrev pub LikeAll : List Typed → List Typed → Type 0
LikeAll [] [] = Unit {0}
LikeAll (a ∷ all) (b ∷ more) = LikeTyped a b × LikeAll all more
LikeAll _ _ = ⊥

abbrev pub LikeList : Option (List Typed) → Option (List Typed) → Type 0
LikeList (Some all) (Some more) = LikeAll all more
LikeList None None = Unit {0}
LikeList _ _ = ⊥

element_alike : (place : Place) (s : Subtype) (i j : Typed) (v w : Option Typed) (n m : Notes) → LikeTyped i j → Like v w
    → Alike (IsThere v) n m (element_at place s i v n) (element_at place s j w m)
element_alike place s i j None None n m h k = nothing ⊥ n m (λ g. g)
element_alike place s i j (Some v) (Some w) n m h k =
    along (λ (y : Typed). Alike (Unit {0}) n m (element place s v i n) (element place s w y m)) i j h
    (λ a. along (λ (z : Typed). Alike (Unit {0}) n m (element place s v i n) (element place s z (as_read a i) m)) v w k (λ b. still (Unit {0}) n m _ _))
element_alike place s i j None (Some w) n m h k = absurd k
element_alike place s i j (Some v) None n m h k = absurd k

name_alike : (c : Context) (x : Name) (s : Subtype) (i j : Typed) (t : Thing) (n m : Notes) → LikeTyped i j
    → Alike (IsFaultless t) n m (element_of_name c x s i t n) (element_of_name c x s j t m)
name_alike c x s i j t n m h =
    let v = named c x (Some t) n in
    let w = named c x (Some t) m in
    let one = thing_alike c x t n m in
    behind (IsFaultless t) (IsThere v.1) n m v.0 w.0 (element_at x.place s i v.1 v.0) (element_at x.place s j w.1 w.0) one.breaks one.told
    (element_alike x.place s i j v.1 w.1 v.0 w.0 h one.like)

if_alike : (c : Context) (x : Name) (s : Subtype) (i j : Typed) (t : Thing) (b : Bool) (n m : Notes) → LikeTyped i j
    → Alike (IsFaultless t) n m (if b then element_of_name c x s i t n else (noted x.place WrongType n, None)) (if b then element_of_name c x s j t m else (noted x.place WrongType m, None))
if_alike c x s i j t true n m h = name_alike c x s i j t n m h
if_alike c x s i j t false n m h = broken (IsFaultless t) n m x.place WrongType

indexed_alike : (c : Context) (x : Name) (t : Thing) (s : Option Subtype) (i j : Typed) (n m : Notes) → LikeTyped i j
    → Alike (IsFaultless t) n m (indexed c x t s i n) (indexed c x t s j m)
indexed_alike c x t None i j n m h = broken (IsFaultless t) n m x.place WrongType
indexed_alike c x t (Some s) i j n m h =
    along (λ (y : Typed). Alike (IsFaultless t) n m (indexed c x t (Some s) i n) (indexed c x t (Some s) y m)) i j h
    (λ a. if_alike c x s i (as_read a i) t (is_vector s.kind && same_kind i.kind (Of kind.Integer)) n m (a, refl))

applied_alike : (c : Context) (x : Name) (t : Thing) (f : Option Function) (a b : Typed) (n m : Notes) → LikeTyped a b
    → Alike (IsFaultless t) n m (applied c x t f a n) (applied c x t f b m)
applied_alike c x t (Some f) a b n m h =
    along (λ (y : Typed). Alike (IsFaultless t) n m (called x.place a f n) (called x.place y f m)) a b h (λ z. still (IsFaultless t) n m _ _)
applied_alike c x t None a b n m h = indexed_alike c x t (vector_at t) a b n m h

one_alike : (c : Context) (x : Name) (t : Thing) (a b : Typed) (n m : Notes) → LikeTyped a b
    → Alike (IsFaultless t) n m (applied c x t (function_at t a.kind) a n) (applied c x t (function_at t b.kind) b m)
one_alike c x t a b n m h =
    along (λ (y : Typed). Alike (IsFaultless t) n m (applied c x t (function_at t a.kind) a n) (applied c x t (function_at t y.kind) y m)) a b h
    (λ z. applied_alike c x t (function_at t a.kind) a (as_read z a) n m (z, refl))

with_alike : (c : Context) (x : Name) (t : Thing) (all more : List Typed) (n m : Notes) → LikeAll all more → Alike (IsFaultless t) n m (call_with c x t all n) (call_with c x t more m)
with_alike c x t [] [] n m h = broken (IsFaultless t) n m x.place WrongType
with_alike c x t (a ∷ []) (b ∷ []) n m h = one_alike c x t a b n m h.0
with_alike c x t (a ∷ y ∷ all) (b ∷ z ∷ more) n m h = broken (IsFaultless t) n m x.place WrongType
with_alike c x t [] (b ∷ more) n m h = absurd h
with_alike c x t (a ∷ []) [] n m h = absurd h
with_alike c x t (a ∷ y ∷ all) [] n m h = absurd h
with_alike c x t (a ∷ []) (b ∷ z ∷ more) n m h = absurd (h.1)
with_alike c x t (a ∷ y ∷ all) (b ∷ []) n m h = absurd (h.1)

-- a call of a name that there is, with arguments that are found
pub record Callable (found : Option Thing) (all : Option (List Typed)) : Type 0 where
  pub thing_is : IfThing found
  pub there : IsThere found
  pub arguments : IsThere all

sound_call : (c : Context) (x : Name) (t : Thing) (all more : Option (List Typed)) (n m : Notes) → LikeList all more
    → ((y : List Typed) (g : Notes) → call_at c x (Some t) (Some y) g ≡ call_with c x t y g) → ((g : Notes) → call_at c x (Some t) None g ≡ (g, None))
    → Alike (Callable (Some t) all) n m (call_at c x (Some t) all n) (call_at c x (Some t) more m)
sound_call c x t None None n m h some none =
    subst (λ (f : Found). Alike (Callable (Some t) None) n m f (call_at c x (Some t) None m)) (sym (none n))
    (subst (λ (f : Found). Alike (Callable (Some t) None) n m (n, None) f) (sym (none m)) (nothing (Callable (Some t) None) n m (λ k. k.arguments)))
sound_call c x t (Some all) (Some more) n m h some none =
    subst (λ (f : Found). Alike (Callable (Some t) (Some all)) n m f (call_at c x (Some t) (Some more) m)) (sym (some all n))
    (subst (λ (f : Found). Alike (Callable (Some t) (Some all)) n m (call_with c x t all n) f) (sym (some more m))
    (weaker (Callable (Some t) (Some all)) (IsFaultless t) n m (call_with c x t all n) (call_with c x t more m) (λ k. k.thing_is) (with_alike c x t all more n m h)))
sound_call c x t None (Some more) n m h some none = absurd h
sound_call c x t (Some all) None n m h some none = absurd h

thing_call : (c : Context) (x : Name) (t : Thing) (all more : Option (List Typed)) (n m : Notes) → LikeList all more
    → Alike (Callable (Some t) all) n m (call_at c x (Some t) all n) (call_at c x (Some t) more m)
thing_call c x thing.Faulty all more n m h = nothing (Callable (Some thing.Faulty) all) n m (λ k. k.thing_is)
thing_call c x t all more n m h = sound_call c x t all more n m h (λ y g. refl) (λ g. refl)

pub call_alike : (c : Context) (x : Name) (found : Option Thing) (all more : Option (List Typed)) (n m : Notes) → LikeList all more
    → Alike (Callable found all) n m (call_at c x found all n) (call_at c x found more m)
call_alike c x None all more n m h = nothing (Callable None all) n m (λ k. k.there)
call_alike c x (Some t) all more n m h = thing_call c x t all more n m h

abbrev pub missing_alike : (x : Name) (found : Option Thing) (n m : Notes) → BreaksAlike n m (missing x found n) (missing x found m)
missing_alike x None n m = alike_noted x.place (Unknown x.number) n m
missing_alike x (Some t) n m = alike_none n m

pub not_missing : (x : Name) (found : Option Thing) (n m : Notes) → (missing_alike x found n m).more ≡ [] → IsThere found
not_missing x None n m h = absurd (cc)
not_missing x (Some t) n m h = tt

-- ---- attributes

event_at_alike : (c : Context) (x : Name) (found : Option Thing) (n m : Notes) → Alike (IfThing found) n m (event_at c x found n) (event_at c x found m)
event_at_alike c x None n m = broken (Unit {0}) n m x.place (Unknown x.number)
event_at_alike c x (Some (thing.Signal i s a)) n m = changed (Unit {0}) n m c x.place _ _
event_at_alike c x (Some thing.Domain) n m = changed (Unit {0}) n m c x.place _ _
event_at_alike c x (Some thing.Faulty) n m = nothing ⊥ n m (λ h. h)
event_at_alike c x (Some _) n m = broken (Unit {0}) n m x.place WrongType

no_event_alike : (x : Name) (found : Option Thing) (n m : Notes) → Alike (IfThing found) n m (no_event x found n) (no_event x found m)
no_event_alike x None n m = broken (Unit {0}) n m x.place (Unknown x.number)
no_event_alike x (Some thing.Faulty) n m = nothing ⊥ n m (λ h. h)
no_event_alike x (Some _) n m = broken (Unit {0}) n m x.place WrongType

pub event_alike : (c : Context) (s : Surrounding) (x : Name) (found : Option Thing) (n m : Notes) → Alike (IfThing found) n m (event_in c s x found n) (event_in c s x found m)
event_alike c surrounding.Condition x found n m = no_event_alike x found n m
event_alike c surrounding.Declaration x found n m = event_at_alike c x found n m
event_alike c surrounding.Process x found n m = event_at_alike c x found n m
event_alike c surrounding.Equation x found n m = event_at_alike c x found n m

dotted_faults : (q : ℕ) (n : Notes) → (dotted q n).faults ≡ n.faults
unfolding dotted
dotted_faults q n = go (nat_le (length n.dots) unknown_limit)
  where
    go : (b : Bool) → (if b then record { faults = n.faults; dots = with_dot q n.dots; thresholds = n.thresholds } else n).faults ≡ n.faults
    go true = refl
    go false = refl

watched_faults : (h : Threshold) (n : Notes) → (watched h n).faults ≡ n.faults
unfolding watched
watched_faults h n = go (nat_le (length n.thresholds) threshold_limit)
  where
    go : (b : Bool) → (if b then record { faults = n.faults; dots = n.dots; thresholds = with_threshold h n.thresholds } else n).faults ≡ n.faults
    go true = refl
    go false = refl

-- further dots and thresholds alone
quietly : (n m on to : Notes) → on.faults ≡ n.faults → to.faults ≡ m.faults → BreaksAlike n m on to
quietly n m on to p q = record { more = []; first = p ∙ sym (append-nil n.faults); second = q ∙ sym (append-nil m.faults) }

dot_alike : (G : Type 0) (c : Context) (x : Name) (q : ℕ) (n m : Notes) → Alike G n m (dot c x q n) (dot c x q m)
unfolding dot
dot_alike G c x q n m =
    record {
      breaks =
          alike_on n m (changing c x.place n) (changing c x.place m) (dotted q (changing c x.place n)) (dotted q (changing c x.place m)) (alike_changing c x.place n m)
          (quietly (changing c x.place n) (changing c x.place m) (dotted q (changing c x.place n)) (dotted q (changing c x.place m)) (dotted_faults q (changing c x.place n)) (dotted_faults q (changing c x.place m)));
      like = (e.Unknown (unknown.Dot (number_of_dot q m.dots)), refl);
      told = λ g none. tt;
    }

pub dot_at_alike : (c : Context) (x : Name) (found : Option Thing) (n m : Notes) → Alike (IfThing found) n m (dot_at c x found n) (dot_at c x found m)
dot_at_alike c x None n m = broken (Unit {0}) n m x.place (Unknown x.number)
dot_at_alike c x (Some (thing.Quantity q k)) n m = dot_alike (Unit {0}) c x q n m
dot_at_alike c x (Some thing.Faulty) n m = nothing ⊥ n m (λ h. h)
dot_at_alike c x (Some _) n m = broken (Unit {0}) n m x.place WrongType

pub reference_alike : (c : Context) (x : Name) (found : Option Thing) (n m : Notes) → Alike (IfThing found) n m (reference_at c x found n) (reference_at c x found m)
reference_alike c x None n m = broken (Unit {0}) n m x.place (Unknown x.number)
reference_alike c x (Some (thing.Terminal (terminal.Node i) k)) n m = changed (Unit {0}) n m c x.place _ _
reference_alike c x (Some (thing.Terminal terminal.Reference k)) n m = changed (Unit {0}) n m c x.place _ _
reference_alike c x (Some thing.Faulty) n m = nothing ⊥ n m (λ h. h)
reference_alike c x (Some _) n m = broken (Unit {0}) n m x.place WrongType

above_alike : (G : Type 0) (place : Place) (h : Threshold) (n m : Notes) → Alike G n m (above place h n) (above place h m)
unfolding above
above_alike G place h n m =
    record {
      breaks = quietly n m (watched h n) (watched h m) (watched_faults h n) (watched_faults h m);
      like = (e.Signal (signal.Threshold (number_of_threshold h m.thresholds)) kind.Boolean, refl);
      told = λ g none. tt;
    }

level_alike : (G : Type 0) (b : Bool) (place : Place) (h : Threshold) (n m : Notes)
    → Alike G n m (if b then above place h n else (noted place WrongType n, None)) (if b then above place h m else (noted place WrongType m, None))
level_alike G true place h n m = above_alike G place h n m
level_alike G false place h n m = broken G n m place WrongType

-- a threshold's quantity that is sound, and its level that is found
pub record IsMarked (found : Option Thing) (level : Option Asked) : Type 0 where
  pub thing_is : IfThing found
  pub level_is : IsThere level

above_some : (x : Name) (t : Thing) (level : Asked) (n m : Notes) → Alike (IsMarked (Some t) (Some level)) n m (above_at x (Some t) (Some level) n) (above_at x (Some t) (Some level) m)
above_some x (thing.Quantity q k) level n m = level_alike _ (same_kind level.kind (Of kind.Real)) x.place (threshold q level) n m
above_some x thing.Faulty level n m = nothing _ n m (λ h. h.thing_is)
above_some x _ level n m = broken _ n m x.place WrongType

above_none : (x : Name) (t : Thing) (n m : Notes) → Alike (IsMarked (Some t) None) n m (above_at x (Some t) None n) (above_at x (Some t) None m)
above_none x thing.Faulty n m = nothing _ n m (λ h. h.level_is)
above_none x _ n m = nothing _ n m (λ h. h.level_is)

pub above_at_alike : (x : Name) (found : Option Thing) (level : Option Asked) (n m : Notes) → Alike (IsMarked found level) n m (above_at x found level n) (above_at x found level m)
above_at_alike x None level n m = broken _ n m x.place (Unknown x.number)
above_at_alike x (Some t) (Some level) n m = above_some x t level n m
above_at_alike x (Some t) None n m = above_none x t n m

fine_ramp : (x : Name) (t : Thing) (n m : Notes) → Alike (IfThing (Some t)) n m (ramp_at x (Some t) true n) (ramp_at x (Some t) true m)
fine_ramp x thing.Faulty n m = nothing ⊥ n m (λ h. h)
fine_ramp x _ n m = broken (Unit {0}) n m x.place WrongType

not_true : false ≡ true → ⊥
not_true h = cc

bad_ramp : (x : Name) (t : Thing) (n m : Notes) → Alike (false ≡ true) n m (ramp_at x (Some t) false n) (ramp_at x (Some t) false m)
bad_ramp x thing.Faulty n m = nothing (false ≡ true) n m not_true
bad_ramp x _ n m = nothing (false ≡ true) n m not_true

pub ramp_alike : (x : Name) (found : Option Thing) (fine : Bool) (n m : Notes) → Alike (IfThing found × (fine ≡ true)) n m (ramp_at x found fine n) (ramp_at x found fine m)
ramp_alike x None fine n m = broken _ n m x.place (Unknown x.number)
ramp_alike x (Some t) true n m = weaker _ (IfThing (Some t)) n m (ramp_at x (Some t) true n) (ramp_at x (Some t) true m) (λ k. k.0) (fine_ramp x t n m)
ramp_alike x (Some t) false n m = weaker _ (false ≡ true) n m (ramp_at x (Some t) false n) (ramp_at x (Some t) false m) (λ k. k.1) (bad_ramp x t n m)

-- ---- what is asked

pub record AskedAlike (G : Type 0) (n m : Notes) (f g : Notes × Option Asked) : Type 0 where
  pub breaks : BreaksAlike n m f.0 g.0
  pub same : f.1 ≡ g.1
  pub told : G → breaks.more ≡ [] → IsThere f.1

value_alike : (place : Place) (k : Kind) (v : StaticValue) (n m : Notes) → AskedAlike (Unit {0}) n m (asked_value place k v n) (asked_value place k v m)
value_alike place k (Known v) n m = record { breaks = alike_none n m; same = refl; told = λ g none. tt }
value_alike place k Faulty n m = record { breaks = alike_noted place WrongType n m; same = refl; told = λ g none. absurd (cc) }
value_alike place k Later n m = record { breaks = alike_none n m; same = refl; told = λ g none. tt }
value_alike place k Changing n m = record { breaks = alike_none n m; same = refl; told = λ g none. tt }

pub asked_alike : (a b : Option Typed) (n m : Notes) → Like a b → AskedAlike (IsThere a) n m (asked a n) (asked b m)
asked_alike None None n m h = record { breaks = alike_none n m; same = refl; told = λ g none. g }
asked_alike (Some a) (Some b) n m h =
    along (λ (y : Typed). AskedAlike (Unit {0}) n m (asked (Some a) n) (asked (Some y) m)) a b h (λ z. value_alike a.place a.kind a.value n m)
asked_alike None (Some b) n m h = absurd h
asked_alike (Some a) None n m h = absurd h

-- ---- operators

prefixed_alike : (op : UnaryOperator) (place : Place) (a b : Typed) (k : Option Kind) (n m : Notes) → LikeTyped a b → Alike (Unit {0}) n m (prefixed op place a k n) (prefixed op place b k m)
prefixed_alike op place a b None n m h = broken (Unit {0}) n m place WrongType
prefixed_alike op place a b (Some k) n m h =
    along (λ (y : Typed). Alike (Unit {0}) n m (prefixed op place a (Some k) n) (prefixed op place y (Some k) m)) a b h (λ z. still (Unit {0}) n m _ _)

pub unary_alike : (op : UnaryOperator) (place : Place) (a b : Option Typed) (n m : Notes) → Like a b → Alike (IsThere a) n m (unary_at op place a n) (unary_at op place b m)
unary_alike op place None None n m h = nothing ⊥ n m (λ g. g)
unary_alike op place (Some a) (Some b) n m h =
    along (λ (y : Typed). Alike (Unit {0}) n m (unary_at op place (Some a) n) (unary_at op place (Some y) m)) a b h
    (λ z. prefixed_alike op place a (as_read z a) (unary_kind op a.kind) n m (z, refl))
unary_alike op place None (Some b) n m h = absurd h
unary_alike op place (Some a) None n m h = absurd h

joined_alike : (op : BinaryOperator) (a b c d : Typed) (k : Option Kind) (n m : Notes) → LikeTyped a c → LikeTyped b d → Alike (Unit {0}) n m (joined op a b k n) (joined op c d k m)
joined_alike op a b c d None n m h g =
    along (λ (y : Typed). Alike (Unit {0}) n m (joined op a b None n) (joined op y d None m)) a c h (λ z. broken (Unit {0}) n m a.place WrongType)
joined_alike op a b c d (Some k) n m h g =
    along (λ (y : Typed). Alike (Unit {0}) n m (joined op a b (Some k) n) (joined op y d (Some k) m)) a c h
    (λ z. along (λ (y : Typed). Alike (Unit {0}) n m (joined op a b (Some k) n) (joined op (as_read z a) y (Some k) m)) b d g (λ w. still (Unit {0}) n m _ _))

pub binary_alike : (op : BinaryOperator) (a b c d : Option Typed) (n m : Notes) → Like a c → Like b d
    → Alike (IsThere a × IsThere b) n m (binary_at op a b n) (binary_at op c d m)
binary_alike op None b None d n m h g = nothing _ n m (λ k. k.0)
binary_alike op (Some a) None (Some c) None n m h g = nothing _ n m (λ k. k.1)
binary_alike op (Some a) (Some b) (Some c) (Some d) n m h g =
    weaker _ (Unit {0}) n m (joined op a b (binary_kind op a.kind b.kind) n) (joined op c d (binary_kind op c.kind d.kind) m) (λ k. tt)
    (along (λ (y : Typed). Alike (Unit {0}) n m (joined op a b (binary_kind op a.kind b.kind) n) (joined op y d (binary_kind op y.kind d.kind) m)) a c h
    (λ z.
    along (λ (y : Typed). Alike (Unit {0}) n m (joined op a b (binary_kind op a.kind b.kind) n) (joined op (as_read z a) y (binary_kind op a.kind y.kind) m)) b d g
    (λ w. joined_alike op a b (as_read z a) (as_read w b) (binary_kind op a.kind b.kind) n m (z, refl) (w, refl))))
binary_alike op None b (Some c) d n m h g = absurd h
binary_alike op (Some a) b None d n m h g = absurd h
binary_alike op (Some a) None (Some c) (Some d) n m h g = absurd g
binary_alike op (Some a) (Some b) (Some c) None n m h g = absurd g

pub paren_alike : (place : Place) (a b : Option Typed) (n m : Notes) → Like a b → Alike (IsThere a) n m (parenthesized place a n) (parenthesized place b m)
paren_alike place None None n m h = nothing ⊥ n m (λ g. g)
paren_alike place (Some a) (Some b) n m h =
    along (λ (y : Typed). Alike (Unit {0}) n m (parenthesized place (Some a) n) (parenthesized place (Some y) m)) a b h (λ z. still (Unit {0}) n m _ _)
paren_alike place None (Some b) n m h = absurd h
paren_alike place (Some a) None n m h = absurd h
