-- The steps of reading an expression whose value is asked before the run.
use Rattle.std.proofs.Common.{◌≡◌, ℕ, Bool, true, false, if◌then◌else◌, List, [], ◌∷◌, Option, Some, None, IfSome, Result, Ok, Err, refl, subst, ap, sym, arith}
use Rattle.std.specs.Prelude.{◌&&◌, ◌-◌, ◌/◌, ◌%◌, ◌^◌, nat_eq, ℤ, pos, int_lt, unsigned_abs}
use Rattle.std.specs.List.{All}
use Rattle.fix_core.specs.declared.NumFault.{NumFault}
use Rattle.ams_token.specs.declared.token.Place.{Place}
use Rattle.ams_tree.specs.declared.expression.Name.{Name}
use Rattle.ams_tree.specs.declared.expression.NumberValue.{NumberValue}
use Rattle.ams_value.specs.declared.val.Val.{Val}
use Rattle.ams_value.specs.declared.val.Val.TheVariants as val
use Rattle.ams_value.specs.declared.fault.ValFault.{ValFault}
use Rattle.ams_value.specs.declared.op.UnaryOperator.{UnaryOperator}
use Rattle.ams_value.specs.declared.op.BinaryOperator.{BinaryOperator}
use Rattle.ams_value.specs.declared.value_type.ValueType.{ValueType}
use Rattle.ams_value.specs.declared.value_type.ValueType.TheVariants as type
use Rattle.ams_value.specs.Types.{unary_type, binary_type}
use Rattle.ams_value.specs.Values.{unary_of, binary_of, decided_by, integer_of, real_of}
use Rattle.math_fix.specs.Functions.{exp_of, sqrt_of}
use Rattle.flat_expr.specs.Expr.{kind_of_call}
use Rattle.flat_expr.specs.declared.expr.Function.{Function}
use Rattle.flat_expr.specs.declared.expr.Function.TheVariants as function
use Rattle.flat_expr.specs.declared.expr.IndexRange.{IndexRange}
use Rattle.flat_design.specs.declared.objects.Variable.{Variable}
use Rattle.flat_design.specs.declared.objects.Terminal.TheVariants as terminal
use Rattle.name_scope.specs.declared.thing.Kind.{Kind}
use Rattle.name_scope.specs.declared.thing.Kind.TheVariants.{Of, Vector}
use Rattle.name_scope.specs.declared.thing.Subtype.{Subtype}
use Rattle.name_scope.specs.declared.thing.SubtypeConstraint.{SubtypeConstraint}
use Rattle.name_scope.specs.declared.thing.SubtypeConstraint.TheVariants as constraint
use Rattle.name_scope.specs.declared.thing.Thing.{Thing}
use Rattle.name_scope.specs.declared.thing.Thing.TheVariants as thing
use Rattle.elab_meaning.specs.declared.fault.Cause.TheVariants.{WrongType}
use Rattle.elab_meaning.specs.declared.fault.Notes.{Notes}
use Rattle.elab_meaning.specs.declared.typed.Context.{Context}
use Rattle.elab_meaning.specs.declared.typed.Scale.{Scale}
use Rattle.elab_meaning.specs.declared.typed.StaticValue.{StaticValue}
use Rattle.elab_meaning.specs.declared.typed.StaticValue.TheVariants.{Known, Faulty, Later, Changing}
use Rattle.elab_meaning.specs.declared.typed.Surrounding.{Surrounding}
use Rattle.elab_meaning.specs.declared.typed.Surrounding.TheVariants as surrounding
use Rattle.elab_meaning.specs.declared.typed.Typed.{Typed}
use Rattle.elab_meaning.specs.Kinds.{as_kind, unary_kind, binary_kind, is_vector, same_kind}
use Rattle.elab_meaning.specs.Notes.{noted, changing, text_of}
use Rattle.elab_meaning.specs.Values.{answered, number, whole, unary_value, together, unless_decided, binary_value, joined_value, call_of, call_value, places_by, bit_of, element_of, element_value}
use Rattle.elab_meaning.specs.Literals.{in_range, number_literal, content_literal, time_literal, scaled_at, time_at, scale_of, number_at}
use Rattle.elab_meaning.specs.Names.{now_at, constant, named, function_at, vector_at, element_at, element_of_name, indexed, applied, call_with, call_at, event_at, no_event, event_in, dot, dot_at, reference_at}
use Rattle.elab_meaning.specs.Expressions.{prefixed, unary_at, joined, binary_at, parenthesized}
use Rattle.design_meaning.specs.Typed as flat
use Rattle.design_rules.specs.Types.{IsVisible}
use Rattle.reading_laws.proofs.Growing.{grows_dotted}
use Rattle.typed_laws.specs.Fitting.{FitsValue, FitsThing}
use Rattle.scope_laws.specs.Holds.{HasNoFaults, IsIndexed, SubtypeFits, AlsoFits}
use Rattle.scope_laws.specs.Laws.{ThingHolds}
use Rattle.asked_laws.specs.Asked.{IsSettled, HasSettledValue}
use Rattle.asked_laws.proofs.Notes.{faults_before, no_fault, no_change}

-- ---- values

-- a value that is known, or whose evaluation has a fault
abbrev pub IsMade : StaticValue → Type 0
IsMade (Known v) = Unit {0}
IsMade Faulty = Unit {0}
IsMade v = ⊥

made_of : (k : Kind) (v : StaticValue) → IsSettled k v → IsMade v
made_of (Of k) (Known v) h = tt
made_of (Of k) Faulty h = tt
made_of (Of k) Later h = h
made_of (Of k) Changing h = h
made_of Vector v h = absurd h

settled_of : (k : ValueType) (v : StaticValue) → IsMade v → IsSettled (Of k) v
settled_of k (Known v) h = tt
settled_of k Faulty h = tt
settled_of k Later h = h
settled_of k Changing h = h

type_of_kind : (k : Kind) (v : StaticValue) → IsSettled k v → (s : ValueType) × (k ≡ Of s)
type_of_kind (Of k) v h = (k, refl)
type_of_kind Vector v h = absurd h

answered_made : (r : Result Val ValFault) → IsMade (answered r)
answered_made (Ok v) = tt
answered_made (Err f) = tt

number_made : (r : Result ℤ NumFault) → IsMade (number r)
number_made (Ok v) = tt
number_made (Err f) = tt

whole_made : (r : Result ℤ ValFault) → IsMade (whole r)
whole_made (Ok v) = tt
whole_made (Err f) = tt

unary_made : (op : UnaryOperator) (v : StaticValue) → IsMade v → IsMade (unary_value op v)
unary_made op (Known a) h = answered_made (unary_of op a)
unary_made op Faulty h = tt
unary_made op Later h = h
unary_made op Changing h = h

together_made : (f : Val → StaticValue → StaticValue) → ((a : Val) (b : StaticValue) → IsMade b → IsMade (f a b)) → (a b : StaticValue) → IsMade a → IsMade b → IsMade (together f a b)
together_made f g (Known a) (Known b) h k = g a (Known b) tt
together_made f g (Known a) Faulty h k = g a Faulty tt
together_made f g Faulty (Known b) h k = tt
together_made f g Faulty Faulty h k = tt
together_made f g Later b h k = absurd h
together_made f g Changing b h k = absurd h
together_made f g a Later h k = absurd k
together_made f g a Changing h k = absurd k

decided_made : (o : Option Val) (op : BinaryOperator) (a : Val) (b : StaticValue) → IsMade b → IsMade (unless_decided o op a b)
decided_made (Some d) op a b h = tt
decided_made None op a (Known b) h = answered_made (binary_of op a b)
decided_made None op a Faulty h = tt
decided_made None op a Later h = h
decided_made None op a Changing h = h

binary_made : (op : BinaryOperator) (a b : StaticValue) → IsMade a → IsMade b → IsMade (binary_value op a b)
binary_made op a b h k = together_made (λ a. unless_decided (decided_by op a) op a) (λ a. decided_made (decided_by op a) op a) a b h k

call_of_made : (f : Function) (v : Val) → IsMade (call_of f v)
call_of_made function.Real (val.Int i) = tt
call_of_made function.Integer (val.Real r) = whole_made (integer_of r)
call_of_made function.Exp (val.Real r) = number_made (exp_of r)
call_of_made function.Sin (val.Real r) = tt
call_of_made function.Cos (val.Real r) = tt
call_of_made function.Sqrt (val.Real r) = number_made (sqrt_of r)
call_of_made _ _ = tt

call_made : (f : Function) (v : StaticValue) → IsMade v → IsMade (call_value f v)
call_made f (Known a) h = call_of_made f a
call_made f Faulty h = tt
call_made f Later h = h
call_made f Changing h = h

choice_made : (low high : Bool) (v : Val) → IsMade (if low then Faulty else (if high then Known v else Faulty))
choice_made true high v = tt
choice_made false true v = tt
choice_made false false v = tt

bit_made : (length content : ℕ) (place : ℤ) → IsMade (bit_of length content place)
bit_made length content place =
    choice_made (int_lt place (pos 0)) (int_lt place (pos length)) (val.Bit (nat_eq (content / 2 ^ (length - 1 - unsigned_abs place) % 2) 1))

element_of_made : (range : IndexRange) (a : Val) (i : StaticValue) → IsMade i → IsMade (element_of range a i)
element_of_made range (val.Bits length content) (Known (val.Int i)) h = bit_made length content (places_by range.direction (pos range.left) i)
element_of_made range _ _ h = tt

element_made : (k : ValueType) (c : SubtypeConstraint) (v i : StaticValue) → is_vector (Of k) ≡ true → IsIndexed k c → IsMade v → IsMade i → IsMade (element_value c v i)
element_made (type.BitVector n) (constraint.Index r) v i is x h k = together_made (element_of r) (element_of_made r) v i h k
element_made (type.BitVector n) (constraint.Range r) v i is x h k = absurd x
element_made (type.BitVector n) constraint.Later v i is x h k = absurd x
element_made type.Boolean c v i is x h k = absurd (cc)
element_made type.Bit c v i is x h k = absurd (cc)
element_made type.Integer c v i is x h k = absurd (cc)
element_made type.Real c v i is x h k = absurd (cc)
element_made type.Time c v i is x h k = absurd (cc)
element_made (type.Enumeration n) c v i is x h k = absurd (cc)

-- ---- literals

pub in_range_settled : (place : Place) (o : Option Val) (n : Notes) → IfSome (in_range place o n).1 HasSettledValue
in_range_settled place (Some v) n = tt
in_range_settled place None n = tt

scaled_settled : (place : Place) (x : NumberValue) (unit : Name) (found : Option Thing) (s : Option Scale) (n : Notes) → IfSome (scaled_at place x unit found s n).1 HasSettledValue
scaled_settled place x unit found (Some s) n = in_range_settled place (time_literal x s) n
scaled_settled place x unit None None n = tt
scaled_settled place x unit (Some t) None n = tt

time_settled : (place : Place) (x : NumberValue) (v : Option Val) (unit : Name) (found : Option Thing) (s : Option Scale) (n : Notes) → IfSome (time_at place x v unit found s n).1 HasSettledValue
time_settled place x (Some v) unit found s n = scaled_settled place x unit found s n
time_settled place x None unit found s n = tt

pub number_settled : (texts : List (List ℕ)) (things : ℕ → Option Thing) (place : Place) (x : NumberValue) (unit : Option Name) (n : Notes) → IfSome (number_at texts things place x unit n).1 HasSettledValue
number_settled texts things place x None n = in_range_settled place (number_literal x) n
number_settled texts things place x (Some unit) n = time_settled place x (number_literal x) unit (things unit.number) (scale_of (text_of texts unit.number)) n

-- ---- names

module _ (objects : flat.Scope) (variables : List Variable) (parameters : List ℕ) (c : Context) (static : c.is_static ≡ true) where
  abbrev Holds : Thing → Type 0
  Holds = ThingHolds objects variables parameters

  constant_settled : (place : Place) (k : Kind) (v : Option Val) (n : Notes) → FitsValue objects k v → IfSome (constant place k v n).1 HasSettledValue
  constant_settled place (Of k) (Some v) n h = tt
  constant_settled place (Of k) None n h = absurd h
  constant_settled place Vector v n h = absurd h

  changes : (place : Place) (n : Notes) → HasNoFaults (changing c place n) → (A : Type 0) → A
  changes place n h A = absurd (no_change c place n static h)

  now_settled : (s : Surrounding) (place : Place) (n : Notes) → HasNoFaults (now_at c s place n).0 → IfSome (now_at c s place n).1 HasSettledValue
  now_settled surrounding.Declaration place n h = changes place n h _
  now_settled surrounding.Process place n h = changes place n h _
  now_settled surrounding.Equation place n h = changes place n h _
  now_settled surrounding.Condition place n h = changes place n h _

  named_of : (x : Name) (t : Thing) (n : Notes) → FitsThing objects (IsVisible variables parameters) t → HasNoFaults (named c x (Some t) n).0 → IfSome (named c x (Some t) n).1 HasSettledValue
  named_of x (thing.Constant s v) n h k = constant_settled x.place s.kind v n h
  named_of x (thing.Literal v) n h k = tt
  named_of x (thing.Signal i s a) n h k = changes x.place n k _
  named_of x thing.Domain n h k = changes x.place n k _
  named_of x (thing.Quantity i q) n h k = changes x.place n k _
  named_of x (thing.Variable i s) n h k = changes x.place n k _
  named_of x (thing.Parameter i) n h k = changes x.place n k _
  named_of x thing.Now n h k = now_settled c.surrounding x.place n k
  named_of x _ n h k = tt

  pub named_settled : (x : Name) (found : Option Thing) (n : Notes) → IfSome found Holds → HasNoFaults (named c x found n).0 → IfSome (named c x found n).1 HasSettledValue
  named_settled x (Some t) n h k = named_of x t n h.fits k
  named_settled x None n h k = tt

  -- ---- calls and elements

  element_settled : (place : Place) (s : Subtype) (i : Typed) (v : Option Typed) (n : Notes) → is_vector s.kind ≡ true → SubtypeFits objects.enumerations s → HasSettledValue i
      → IfSome v HasSettledValue → IfSome (element_at place s i v n).1 HasSettledValue
  element_settled place s i (Some v) n is h g k =
      settled_of type.Bit (element_value s.constraint v.value i.value)
      (element_made h.kind s.constraint v.value i.value (subst (λ (z : Kind). is_vector z ≡ true) h.kind_is is) h.indexed (made_of v.kind v.value k) (made_of i.kind i.value g))
  element_settled place s i None n is h g k = tt

  abbrev IsVectorOf : Thing → Option Subtype → Type 0
  IsVectorOf t (Some s) = SubtypeFits objects.enumerations s
  IsVectorOf t None = Unit {0}

  vector_fits : (t : Thing) → AlsoFits objects.enumerations variables t → IsVectorOf t (vector_at t)
  vector_fits (thing.Constant s v) h = h
  vector_fits (thing.Signal i s a) h = h
  vector_fits (thing.Variable i s) h = h.0
  vector_fits _ h = tt

  both_left : (a b : Bool) → (a && b) ≡ true → a ≡ true
  both_left true b h = refl
  both_left false b h = absurd (cc)

  indexed_settled : (x : Name) (t : Thing) (s : Option Subtype) (i : Typed) (n : Notes) → Holds t → IsVectorOf t s → HasSettledValue i → HasNoFaults (indexed c x t s i n).0
      → IfSome (indexed c x t s i n).1 HasSettledValue
  indexed_settled x t None i n h v g k = tt
  indexed_settled x t (Some s) i n h v g k = go (is_vector s.kind && same_kind i.kind (Of type.Integer)) refl k
    where
      named_no_faults : (o : Option Typed) (m : Notes) → HasNoFaults (element_at x.place s i o m).0 → HasNoFaults m
      named_no_faults (Some a) m k = k
      named_no_faults None m k = k

      go : (b : Bool) → (is_vector s.kind && same_kind i.kind (Of type.Integer)) ≡ b → HasNoFaults (if b then element_of_name c x s i t n else (noted x.place WrongType n, None)).0
          → IfSome (if b then element_of_name c x s i t n else (noted x.place WrongType n, None)).1 HasSettledValue
      go true is k =
          let inner : HasNoFaults (named c x (Some t) n).0 = named_no_faults (named c x (Some t) n).1 (named c x (Some t) n).0 k in
          element_settled x.place s i (named c x (Some t) n).1 (named c x (Some t) n).0 (both_left (is_vector s.kind) (same_kind i.kind (Of type.Integer)) is) v g (named_of x t n h.fits inner)
      go false is k = tt

  applied_settled : (x : Name) (t : Thing) (f : Option Function) (a : Typed) (n : Notes) → Holds t → HasSettledValue a → HasNoFaults (applied c x t f a n).0 → IfSome (applied c x t f a n).1 HasSettledValue
  applied_settled x t (Some f) a n h g k = settled_of (kind_of_call f) (call_value f a.value) (call_made f a.value (made_of a.kind a.value g))
  applied_settled x t None a n h g k = indexed_settled x t (vector_at t) a n h (vector_fits t h.also) g k

  call_with_settled : (x : Name) (t : Thing) (all : List Typed) (n : Notes) → Holds t → All HasSettledValue all → HasNoFaults (call_with c x t all n).0 → IfSome (call_with c x t all n).1 HasSettledValue
  call_with_settled x t [] n h g k = tt
  call_with_settled x t (a ∷ []) n h g k = applied_settled x t (function_at t a.kind) a n h (g 0 a (omega arith)) k
  call_with_settled x t (a ∷ b ∷ more) n h g k = tt

  call_of_settled : (x : Name) (t : Thing) (all : Option (List Typed)) (n : Notes) → Holds t → IfSome all (All HasSettledValue) → HasNoFaults (call_at c x (Some t) all n).0
      → IfSome (call_at c x (Some t) all n).1 HasSettledValue
  call_of_settled x thing.Faulty all n h g k = tt
  call_of_settled x t None n h g k = tt
  call_of_settled x t (Some all) n h g k = call_with_settled x t all n h g k

  pub call_settled : (x : Name) (found : Option Thing) (all : Option (List Typed)) (n : Notes) → IfSome found Holds → IfSome all (All HasSettledValue) → HasNoFaults (call_at c x found all n).0
      → IfSome (call_at c x found all n).1 HasSettledValue
  call_settled x (Some t) all n h g k = call_of_settled x t all n h g k
  call_settled x None all n h g k = tt

  -- ---- attributes: each of them changes

  event_of : (x : Name) (t : Thing) (n : Notes) → HasNoFaults (event_at c x (Some t) n).0 → IfSome (event_at c x (Some t) n).1 HasSettledValue
  event_of x (thing.Signal i s a) n k = changes x.place n k _
  event_of x thing.Domain n k = changes x.place n k _
  event_of x thing.Faulty n k = tt
  event_of x _ n k = tt

  event_at_settled : (x : Name) (found : Option Thing) (n : Notes) → HasNoFaults (event_at c x found n).0 → IfSome (event_at c x found n).1 HasSettledValue
  event_at_settled x (Some t) n k = event_of x t n k
  event_at_settled x None n k = tt

  no_event_settled : (x : Name) (found : Option Thing) (n : Notes) → IfSome (no_event x found n).1 HasSettledValue
  no_event_settled x None n = tt
  no_event_settled x (Some thing.Faulty) n = tt
  no_event_settled x (Some _) n = tt

  pub event_settled : (s : Surrounding) (x : Name) (found : Option Thing) (n : Notes) → HasNoFaults (event_in c s x found n).0 → IfSome (event_in c s x found n).1 HasSettledValue
  event_settled surrounding.Condition x found n k = no_event_settled x found n
  event_settled surrounding.Declaration x found n k = event_at_settled x found n k
  event_settled surrounding.Process x found n k = event_at_settled x found n k
  event_settled surrounding.Equation x found n k = event_at_settled x found n k

  dot_of : (x : Name) (q : ℕ) (n : Notes) → HasNoFaults (dot c x q n).0 → IfSome (dot c x q n).1 HasSettledValue
  unfolding dot
  dot_of x q n k = changes x.place n (faults_before (changing c x.place n) (dot c x q n).0 (grows_dotted q (changing c x.place n)) k) _

  dot_some : (x : Name) (t : Thing) (n : Notes) → HasNoFaults (dot_at c x (Some t) n).0 → IfSome (dot_at c x (Some t) n).1 HasSettledValue
  dot_some x (thing.Quantity q d) n k = dot_of x q n k
  dot_some x thing.Faulty n k = tt
  dot_some x _ n k = tt

  pub dot_settled : (x : Name) (found : Option Thing) (n : Notes) → HasNoFaults (dot_at c x found n).0 → IfSome (dot_at c x found n).1 HasSettledValue
  dot_settled x (Some t) n k = dot_some x t n k
  dot_settled x None n k = tt

  reference_some : (x : Name) (t : Thing) (n : Notes) → HasNoFaults (reference_at c x (Some t) n).0 → IfSome (reference_at c x (Some t) n).1 HasSettledValue
  reference_some x (thing.Terminal (terminal.Node i) m) n k = changes x.place n k _
  reference_some x (thing.Terminal terminal.Reference m) n k = changes x.place n k _
  reference_some x thing.Faulty n k = tt
  reference_some x _ n k = tt

  pub reference_settled : (x : Name) (found : Option Thing) (n : Notes) → HasNoFaults (reference_at c x found n).0 → IfSome (reference_at c x found n).1 HasSettledValue
  reference_settled x (Some t) n k = reference_some x t n k
  reference_settled x None n k = tt

-- ---- operators

as_kind_settled : (op : UnaryOperator) (o : Option ValueType) (place : Place) (a : Typed) (n : Notes) → IsMade a.value → IfSome (prefixed op place a (as_kind o) n).1 HasSettledValue
as_kind_settled op (Some k) place a n h = settled_of k (unary_value op a.value) (unary_made op a.value h)
as_kind_settled op None place a n h = tt

prefixed_settled : (op : UnaryOperator) (place : Place) (a : Typed) (k : Kind) (n : Notes) → IsSettled k a.value → IfSome (prefixed op place a (unary_kind op k) n).1 HasSettledValue
prefixed_settled op place a (Of k) n h = as_kind_settled op (unary_type op k) place a n (made_of (Of k) a.value h)
prefixed_settled op place a Vector n h = absurd h

pub unary_settled : (op : UnaryOperator) (place : Place) (a : Option Typed) (n : Notes) → IfSome a HasSettledValue → IfSome (unary_at op place a n).1 HasSettledValue
unary_settled op place (Some a) n h = prefixed_settled op place a a.kind n h
unary_settled op place None n h = tt

kind_joined : (op : BinaryOperator) (o : Option ValueType) (a b : Typed) (s u : ValueType) (n : Notes) → a.kind ≡ Of s → b.kind ≡ Of u → IsMade a.value → IsMade b.value
    → IfSome (joined op a b (as_kind o) n).1 HasSettledValue
kind_joined op (Some k) a b s u n left right h g =
    settled_of k (joined_value op a.kind b.kind a.value b.value)
    (subst (λ (z : Kind). IsMade (joined_value op z b.kind a.value b.value)) (sym left)
    (subst (λ (z : Kind). IsMade (joined_value op (Of s) z a.value b.value)) (sym right) (binary_made op a.value b.value h g)))
kind_joined op None a b s u n left right h g = tt

joined_settled : (op : BinaryOperator) (a b : Typed) (s u : ValueType) (n : Notes) → a.kind ≡ Of s → b.kind ≡ Of u → IsMade a.value → IsMade b.value
    → IfSome (joined op a b (binary_kind op a.kind b.kind) n).1 HasSettledValue
joined_settled op a b s u n left right h g =
    subst (λ (z : Kind). IfSome (joined op a b (binary_kind op z b.kind) n).1 HasSettledValue) (sym left)
    (subst (λ (z : Kind). IfSome (joined op a b (binary_kind op (Of s) z) n).1 HasSettledValue) (sym right) (kind_joined op (binary_type op s u) a b s u n left right h g))

pub binary_settled : (op : BinaryOperator) (a b : Option Typed) (n : Notes) → IfSome a HasSettledValue → IfSome b HasSettledValue → IfSome (binary_at op a b n).1 HasSettledValue
binary_settled op (Some a) (Some b) n h g =
    let left = type_of_kind a.kind a.value h in
    let right = type_of_kind b.kind b.value g in
    joined_settled op a b left.0 right.0 n left.1 right.1 (made_of a.kind a.value h) (made_of b.kind b.value g)
binary_settled op (Some a) None n h g = tt
binary_settled op None b n h g = tt

pub paren_settled : (place : Place) (a : Option Typed) (n : Notes) → IfSome a HasSettledValue → IfSome (parenthesized place a n).1 HasSettledValue
paren_settled place (Some a) n h = h
paren_settled place None n h = tt
