-- What is known of each expression that is read is of its type.
use Rattle.std.proofs.Common.{◌≡◌, ℕ, Bool, true, false, if◌then◌else◌, List, [], ◌∷◌, Option, Some, None, IfSome, IsTrue, refl, arith}
use Rattle.std.specs.Prelude.{◌&&◌}
use Rattle.std.specs.List.{All}
use Rattle.ams_token.specs.declared.token.Place.{Place}
use Rattle.ams_tree.specs.declared.expression.Name.{Name}
use Rattle.ams_tree.specs.declared.expression.NumberValue.{NumberValue}
use Rattle.ams_value.specs.declared.val.Val.{Val}
use Rattle.ams_value.specs.declared.op.UnaryOperator.{UnaryOperator}
use Rattle.ams_value.specs.declared.op.BinaryOperator.{BinaryOperator}
use Rattle.ams_value.specs.declared.value_type.ValueType.TheVariants as type
use Rattle.ams_value.specs.Types.{is_in_range}
use Rattle.flat_expr.specs.declared.expr.Function.{Function}
use Rattle.flat_design.specs.declared.objects.Threshold.{Threshold}
use Rattle.flat_design.specs.declared.objects.Terminal.TheVariants as terminal
use Rattle.name_scope.specs.declared.thing.Kind.{Kind}
use Rattle.name_scope.specs.declared.thing.Kind.TheVariants.{Of}
use Rattle.name_scope.specs.declared.thing.Subtype.{Subtype}
use Rattle.name_scope.specs.declared.thing.Thing.{Thing}
use Rattle.name_scope.specs.declared.thing.Thing.TheVariants as thing
use Rattle.name_scope.specs.declared.scope.Scope.{Scope}
use Rattle.name_scope.specs.Scopes.{lookup}
use Rattle.elab_meaning.specs.declared.fault.Cause.TheVariants.{WrongType}
use Rattle.elab_meaning.specs.declared.fault.Notes.{Notes}
use Rattle.elab_meaning.specs.declared.typed.Asked.{Asked}
use Rattle.elab_meaning.specs.declared.typed.Context.{Context}
use Rattle.elab_meaning.specs.declared.typed.Scale.{Scale}
use Rattle.elab_meaning.specs.declared.typed.Surrounding.{Surrounding}
use Rattle.elab_meaning.specs.declared.typed.Surrounding.TheVariants as surrounding
use Rattle.elab_meaning.specs.declared.typed.Typed.{Typed}
use Rattle.elab_meaning.specs.Kinds.{unary_kind, binary_kind, is_vector, same_kind}
use Rattle.elab_meaning.specs.Notes.{noted, text_of}
use Rattle.elab_meaning.specs.Literals.{in_range, number_literal, content_literal, time_literal, scaled_at, time_at, scale_of, number_at}
use Rattle.elab_meaning.specs.Names.{now_at, constant, named, function_at, vector_at, element_at, element_of_name, indexed, applied, call_with, call_at, event_at, no_event, event_in, dot, dot_at, reference_at, threshold, above, above_at, ramp_at}
use Rattle.elab_meaning.specs.Expressions.{prefixed, unary_at, joined, binary_at, parenthesized}
use Rattle.design_meaning.specs.Typed as flat
use Rattle.design_rules.specs.Types.{IsVisible}
use Rattle.reading_laws.proofs.Closing.{IsClosed, reading_keeps}
use Rattle.typed_laws.specs.Fitting.{FitsValue, FitsThing, ScopeFits}
use Rattle.typed_laws.proofs.Literals.{number_in, time_in, content_in}
use Rattle.sound_laws.specs.Sound.{GivesValue, GivesValues, HasSoundValue, KnownValuesFollow, KnownValuesAreOfTheirTypes}
use Rattle.sound_laws.proofs.Values.{unary_sound, joined_sound, call_sound, element_sound}

module _ (objects : flat.Scope) where
  -- ---- literals

  in_range_known : (place : Place) (o : Option Val) (n : Notes) → IfSome o (λ v. IsTrue (is_in_range objects.enumerations v)) → IfSome (in_range place o n).1 (HasSoundValue objects)
  in_range_known place (Some v) n h = record { kind_is = refl; range = h }
  in_range_known place None n h = tt

  scaled_known : (place : Place) (x : NumberValue) (unit : Name) (found : Option Thing) (s : Option Scale) (n : Notes) → IfSome (scaled_at place x unit found s n).1 (HasSoundValue objects)
  scaled_known place x unit found (Some s) n = in_range_known place (time_literal x s) n (time_in objects.enumerations x s)
  scaled_known place x unit None None n = tt
  scaled_known place x unit (Some t) None n = tt

  time_known : (place : Place) (x : NumberValue) (v : Option Val) (unit : Name) (found : Option Thing) (s : Option Scale) (n : Notes) → IfSome (time_at place x v unit found s n).1 (HasSoundValue objects)
  time_known place x (Some v) unit found s n = scaled_known place x unit found s n
  time_known place x None unit found s n = tt

  number_known : (texts : List (List ℕ)) (things : ℕ → Option Thing) (place : Place) (x : NumberValue) (unit : Option Name) (n : Notes) → IfSome (number_at texts things place x unit n).1 (HasSoundValue objects)
  number_known texts things place x None n = in_range_known place (number_literal x) n (number_in objects.enumerations x)
  number_known texts things place x (Some unit) n = time_known place x (number_literal x) unit (things unit.number) (scale_of (text_of texts unit.number)) n

  -- ---- names

  constant_known : (place : Place) (k : Kind) (v : Option Val) (n : Notes) → IfSome v (λ (x : Val). FitsValue objects k (Some x)) → IfSome (constant place k v n).1 (HasSoundValue objects)
  constant_known place k (Some v) n h = h
  constant_known place k None n h = tt

  now_known : (c : Context) (s : Surrounding) (place : Place) (n : Notes) → IfSome (now_at c s place n).1 (HasSoundValue objects)
  now_known c surrounding.Declaration place n = tt
  now_known c surrounding.Process place n = tt
  now_known c surrounding.Equation place n = tt
  now_known c surrounding.Condition place n = tt

  named_of : (c : Context) (x : Name) (t : Thing) (n : Notes) → GivesValue objects t → IfSome (named c x (Some t) n).1 (HasSoundValue objects)
  named_of c x (thing.Constant s v) n h = constant_known x.place s.kind v n h
  named_of c x (thing.Literal v) n h = record { kind_is = refl; range = h }
  named_of c x thing.Now n h = now_known c c.surrounding x.place n
  named_of c x _ n h = tt

  named_known : (c : Context) (x : Name) (found : Option Thing) (n : Notes) → IfSome found (GivesValue objects) → IfSome (named c x found n).1 (HasSoundValue objects)
  named_known c x (Some t) n h = named_of c x t n h
  named_known c x None n h = tt

  -- ---- calls and elements

  element_at_known : (place : Place) (s : Subtype) (i : Typed) (v : Option Typed) (n : Notes) → IfSome (element_at place s i v n).1 (HasSoundValue objects)
  element_at_known place s i (Some v) n = element_sound objects s.constraint v.value i.value
  element_at_known place s i None n = tt

  indexed_known : (c : Context) (x : Name) (t : Thing) (s : Option Subtype) (i : Typed) (n : Notes) → IfSome (indexed c x t s i n).1 (HasSoundValue objects)
  indexed_known c x t None i n = tt
  indexed_known c x t (Some s) i n = go (is_vector s.kind && same_kind i.kind (Of type.Integer))
    where
      go : (b : Bool) → IfSome (if b then element_of_name c x s i t n else (noted x.place WrongType n, None)).1 (HasSoundValue objects)
      go true = element_at_known x.place s i (named c x (Some t) n).1 (named c x (Some t) n).0
      go false = tt

  applied_known : (c : Context) (x : Name) (t : Thing) (f : Option Function) (a : Typed) (n : Notes) → function_at t a.kind ≡ f → GivesValue objects t → HasSoundValue objects a → IfSome (applied c x t f a n).1 (HasSoundValue objects)
  applied_known c x t (Some f) a n is h g = call_sound objects t f a.kind a.value h is g
  applied_known c x t None a n is h g = indexed_known c x t (vector_at t) a n

  call_with_known : (c : Context) (x : Name) (t : Thing) (all : List Typed) (n : Notes) → GivesValue objects t → All (HasSoundValue objects) all → IfSome (call_with c x t all n).1 (HasSoundValue objects)
  call_with_known c x t [] n h g = tt
  call_with_known c x t (a ∷ []) n h g = applied_known c x t (function_at t a.kind) a n refl h (g 0 a (omega arith))
  call_with_known c x t (a ∷ b ∷ more) n h g = tt

  call_of : (c : Context) (x : Name) (t : Thing) (all : Option (List Typed)) (n : Notes) → GivesValue objects t → IfSome all (All (HasSoundValue objects)) → IfSome (call_at c x (Some t) all n).1 (HasSoundValue objects)
  call_of c x thing.Faulty all n h g = tt
  call_of c x t None n h g = tt
  call_of c x t (Some all) n h g = call_with_known c x t all n h g

  call_at_known : (c : Context) (x : Name) (found : Option Thing) (all : Option (List Typed)) (n : Notes) → IfSome found (GivesValue objects) → IfSome all (All (HasSoundValue objects)) → IfSome (call_at c x found all n).1 (HasSoundValue objects)
  call_at_known c x (Some t) all n h g = call_of c x t all n h g
  call_at_known c x None all n h g = tt

  -- ---- attributes

  event_of : (c : Context) (x : Name) (t : Thing) (n : Notes) → IfSome (event_at c x (Some t) n).1 (HasSoundValue objects)
  event_of c x (thing.Signal i s a) n = tt
  event_of c x thing.Domain n = tt
  event_of c x thing.Faulty n = tt
  event_of c x _ n = tt

  event_at_known : (c : Context) (x : Name) (found : Option Thing) (n : Notes) → IfSome (event_at c x found n).1 (HasSoundValue objects)
  event_at_known c x (Some t) n = event_of c x t n
  event_at_known c x None n = tt

  no_event_known : (x : Name) (found : Option Thing) (n : Notes) → IfSome (no_event x found n).1 (HasSoundValue objects)
  no_event_known x None n = tt
  no_event_known x (Some thing.Faulty) n = tt
  no_event_known x (Some _) n = tt

  event_known : (c : Context) (s : Surrounding) (x : Name) (found : Option Thing) (n : Notes) → IfSome (event_in c s x found n).1 (HasSoundValue objects)
  event_known c surrounding.Condition x found n = no_event_known x found n
  event_known c surrounding.Declaration x found n = event_at_known c x found n
  event_known c surrounding.Process x found n = event_at_known c x found n
  event_known c surrounding.Equation x found n = event_at_known c x found n

  dot_of : (c : Context) (x : Name) (q : ℕ) (n : Notes) → IfSome (dot c x q n).1 (HasSoundValue objects)
  unfolding dot
  dot_of c x q n = tt

  dot_some : (c : Context) (x : Name) (t : Thing) (n : Notes) → IfSome (dot_at c x (Some t) n).1 (HasSoundValue objects)
  dot_some c x (thing.Quantity q k) n = dot_of c x q n
  dot_some c x thing.Faulty n = tt
  dot_some c x _ n = tt

  dot_known : (c : Context) (x : Name) (found : Option Thing) (n : Notes) → IfSome (dot_at c x found n).1 (HasSoundValue objects)
  dot_known c x (Some t) n = dot_some c x t n
  dot_known c x None n = tt

  reference_some : (c : Context) (x : Name) (t : Thing) (n : Notes) → IfSome (reference_at c x (Some t) n).1 (HasSoundValue objects)
  reference_some c x (thing.Terminal (terminal.Node i) m) n = tt
  reference_some c x (thing.Terminal terminal.Reference m) n = tt
  reference_some c x thing.Faulty n = tt
  reference_some c x _ n = tt

  reference_known : (c : Context) (x : Name) (found : Option Thing) (n : Notes) → IfSome (reference_at c x found n).1 (HasSoundValue objects)
  reference_known c x (Some t) n = reference_some c x t n
  reference_known c x None n = tt

  above_of : (place : Place) (h : Threshold) (n : Notes) → IfSome (above place h n).1 (HasSoundValue objects)
  unfolding above
  above_of place h n = tt

  level_known : (b : Bool) (place : Place) (h : Threshold) (n : Notes) → IfSome (if b then above place h n else (noted place WrongType n, None)).1 (HasSoundValue objects)
  level_known true place h n = above_of place h n
  level_known false place h n = tt

  above_some : (x : Name) (t : Thing) (level : Asked) (n : Notes) → IfSome (above_at x (Some t) (Some level) n).1 (HasSoundValue objects)
  above_some x (thing.Quantity q k) level n = level_known (same_kind level.kind (Of type.Real)) x.place (threshold q level) n
  above_some x thing.Faulty level n = tt
  above_some x _ level n = tt

  above_none : (x : Name) (t : Thing) (n : Notes) → IfSome (above_at x (Some t) None n).1 (HasSoundValue objects)
  above_none x thing.Faulty n = tt
  above_none x _ n = tt

  above_known : (x : Name) (found : Option Thing) (level : Option Asked) (n : Notes) → IfSome (above_at x found level n).1 (HasSoundValue objects)
  above_known x None level n = tt
  above_known x (Some t) (Some level) n = above_some x t level n
  above_known x (Some t) None n = above_none x t n

  ramp_some : (x : Name) (t : Thing) (fine : Bool) (n : Notes) → IfSome (ramp_at x (Some t) fine n).1 (HasSoundValue objects)
  ramp_some x thing.Faulty fine n = tt
  ramp_some x _ true n = tt
  ramp_some x _ false n = tt

  ramp_known : (x : Name) (found : Option Thing) (fine : Bool) (n : Notes) → IfSome (ramp_at x found fine n).1 (HasSoundValue objects)
  ramp_known x (Some t) fine n = ramp_some x t fine n
  ramp_known x None fine n = tt

  -- ---- operators

  prefixed_known : (op : UnaryOperator) (place : Place) (a : Typed) (k : Option Kind) (n : Notes) → unary_kind op a.kind ≡ k → HasSoundValue objects a → IfSome (prefixed op place a k n).1 (HasSoundValue objects)
  prefixed_known op place a (Some k) n is h = unary_sound objects op a.kind k a.value is h
  prefixed_known op place a None n is h = tt

  unary_at_known : (op : UnaryOperator) (place : Place) (a : Option Typed) (n : Notes) → IfSome a (HasSoundValue objects) → IfSome (unary_at op place a n).1 (HasSoundValue objects)
  unary_at_known op place (Some a) n h = prefixed_known op place a (unary_kind op a.kind) n refl h
  unary_at_known op place None n h = tt

  joined_at_known : (op : BinaryOperator) (a b : Typed) (k : Option Kind) (n : Notes) → binary_kind op a.kind b.kind ≡ k → HasSoundValue objects a → HasSoundValue objects b → IfSome (joined op a b k n).1 (HasSoundValue objects)
  joined_at_known op a b (Some k) n is h g = joined_sound objects op a.kind b.kind k a.value b.value is h g
  joined_at_known op a b None n is h g = tt

  binary_at_known : (op : BinaryOperator) (a b : Option Typed) (n : Notes) → IfSome a (HasSoundValue objects) → IfSome b (HasSoundValue objects) → IfSome (binary_at op a b n).1 (HasSoundValue objects)
  binary_at_known op (Some a) (Some b) n h g = joined_at_known op a b (binary_kind op a.kind b.kind) n refl h g
  binary_at_known op (Some a) None n h g = tt
  binary_at_known op None b n h g = tt

  paren_known : (place : Place) (a : Option Typed) (n : Notes) → IfSome a (HasSoundValue objects) → IfSome (parenthesized place a n).1 (HasSoundValue objects)
  paren_known place (Some a) n h = h
  paren_known place None n h = tt

sound_closed : (objects : flat.Scope) (texts : List (List ℕ)) (scope : Scope) → GivesValues objects scope → IsClosed texts scope (λ (n : Notes). Unit {0}) (HasSoundValue objects)
sound_closed objects texts scope gives =
    record {
      down = λ a b g k. tt;
      number = λ x unit n. number_known objects texts (lookup scope) x.place x.value unit n;
      literal = λ x n. in_range_known objects x.place (content_literal texts x.value) n (content_in objects.enumerations texts x.value);
      name = λ c x n. named_known objects c x (lookup scope x.number) n (gives x.number);
      call = λ c x all n h. call_at_known objects c x (lookup scope x.number) all n (gives x.number) h;
      event = λ c x n. event_known objects c c.surrounding x (lookup scope x.number) n;
      dot = λ c x n k. dot_known objects c x (lookup scope x.number) n;
      reference = λ c x n. reference_known objects c x (lookup scope x.number) n;
      above = λ x level n k. above_known objects x (lookup scope x.number) level n;
      ramp = λ x fine n. ramp_known objects x (lookup scope x.number) fine n;
      paren = λ place a n h. paren_known objects place a n h;
      unary = λ op place a n h. unary_at_known objects op place a n h;
      binary = λ op a b n h g. binary_at_known objects op a b n h g;
    }

pub known_values_follow : KnownValuesFollow
known_values_follow objects texts scope x c n gives =
    (reading_keeps texts scope (λ (n : Notes). Unit {0}) (HasSoundValue objects) (sound_closed objects texts scope gives) x c n).right tt

-- ---- in a scope that fits

given_value : (objects : flat.Scope) (k : Kind) (v : Option Val) → FitsValue objects k v → IfSome v (λ (x : Val). FitsValue objects k (Some x))
given_value objects k (Some v) h = h
given_value objects k None h = tt

thing_gives : (objects : flat.Scope) (Sees : ℕ → Type 0) (t : Thing) → FitsThing objects Sees t → GivesValue objects t
thing_gives objects Sees (thing.Constant s v) h = given_value objects s.kind v h
thing_gives objects Sees (thing.Literal v) h = h
thing_gives objects Sees (thing.Function f) h = h
thing_gives objects Sees _ h = tt

some_gives : (objects : flat.Scope) (Sees : ℕ → Type 0) (o : Option Thing) → IfSome o (FitsThing objects Sees) → IfSome o (GivesValue objects)
some_gives objects Sees (Some t) h = thing_gives objects Sees t h
some_gives objects Sees None h = tt

pub scope_gives : (objects : flat.Scope) (Sees : ℕ → Type 0) (scope : Scope) → ScopeFits objects Sees scope → GivesValues objects scope
scope_gives objects Sees scope fits name = some_gives objects Sees (lookup scope name) (fits name)

pub known_values_are_of_their_types : KnownValuesAreOfTheirTypes
known_values_are_of_their_types objects variables parameters texts scope x c n fits =
    known_values_follow objects texts scope x c n (scope_gives objects (IsVisible variables parameters) scope fits)
