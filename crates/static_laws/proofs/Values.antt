-- What is known of an operator's, a function's or an element's value is that value.
use Rattle.std.proofs.Common.{◌≡◌, ◌-◌, ◌/◌, ◌%◌, ◌^◌, ℕ, ℤ, pos, negsuc, Bool, true, false, if◌then◌else◌, Option, Some, None, Result, Ok, Err, refl, ap, ◌∙◌, subst}
use Rattle.std.specs.Prelude.{nat_eq, nat_lt}
use Rattle.fix_core.specs.Passes.{and_then}
use Rattle.fix_core.specs.declared.NumFault.{NumFault}
use Rattle.math_fix.specs.Functions.{exp_of, sqrt_of}
use Rattle.ams_value.specs.declared.val.Val.{Val}
use Rattle.ams_value.specs.declared.val.Val.TheVariants as val
use Rattle.ams_value.specs.declared.fault.ValFault.{ValFault}
use Rattle.ams_value.specs.declared.op.UnaryOperator.{UnaryOperator}
use Rattle.ams_value.specs.declared.op.BinaryOperator.{BinaryOperator}
use Rattle.ams_value.specs.declared.value_type.ValueType.{ValueType}
use Rattle.ams_value.specs.Values.{unary_of, binary_of, decided_by, integer_of}
use Rattle.flat_expr.specs.declared.expr.Direction.{Direction}
use Rattle.flat_expr.specs.declared.expr.Direction.TheVariants.{To, Downto}
use Rattle.flat_expr.specs.declared.expr.Function.{Function}
use Rattle.flat_expr.specs.declared.expr.Function.TheVariants as function
use Rattle.flat_expr.specs.declared.expr.IndexRange.{IndexRange}
use Rattle.flat_expr.specs.declared.expr.FlatExpr.{FlatExpr}
use Rattle.flat_expr.specs.declared.expr.FlatExpr.TheVariants as e
use Rattle.name_scope.specs.declared.thing.Kind.{Kind}
use Rattle.name_scope.specs.declared.thing.Kind.TheVariants.{Of, Vector}
use Rattle.name_scope.specs.declared.thing.SubtypeConstraint.{SubtypeConstraint}
use Rattle.name_scope.specs.declared.thing.SubtypeConstraint.TheVariants as constraint
use Rattle.elab_meaning.specs.declared.typed.StaticValue.{StaticValue}
use Rattle.elab_meaning.specs.declared.typed.StaticValue.TheVariants.{Known, Faulty, Later, Changing}
use Rattle.elab_meaning.specs.Values as static
use Rattle.elab_meaning.specs.Names.{index_range}
use Rattle.design_meaning.specs.declared.fault.EvalFault.{EvalFault}
use Rattle.design_meaning.specs.declared.fault.EvalFault.TheVariants.{Range}
use Rattle.design_meaning.specs.Faults.{numeric, operated}
use Rattle.design_meaning.specs.Readings.{Readings}
use Rattle.design_meaning.specs.Value.{Meaning, value_of, real, called, unless_decided, places_by, bit_at, element}
use Rattle.design_meaning.proofs.Meanings.{variants}
use Rattle.static_laws.specs.Known.{OnKnown, Always}

-- ---- operators

answered : (m : Result Val ValFault) → OnKnown (λ w. operated m ≡ Ok w) (static.answered m)
answered (Ok w) = refl
answered (Err f) = tt

-- what is known by an equation at each reading
by_equation : (value : Readings → Result Val EvalFault) (m : Result Val EvalFault) (s : StaticValue) → ((r : Readings) → value r ≡ m) → OnKnown (λ w. m ≡ Ok w) s → OnKnown (Always value) s
by_equation value m (Known w) is h = λ r. is r ∙ h
by_equation value m Faulty is h = tt
by_equation value m Later is h = tt
by_equation value m Changing is h = tt

pub unary_known : (op : UnaryOperator) (k : ValueType) (a : FlatExpr) (s : StaticValue) → OnKnown (Always (value_of a)) s → OnKnown (Always (value_of (e.Unary op k a))) (static.unary_value op s)
unary_known op k a (Known v) h =
    by_equation (value_of (e.Unary op k a)) (operated (unary_of op v)) (static.unary_value op (Known v))
    (λ r. ap (λ (m : Meaning). m.value r) (variants.unary op k a) ∙ ap (and_then (λ x. operated (unary_of op x))) (h r)) (answered (unary_of op v))
unary_known op k a Faulty h = tt
unary_known op k a Later h = tt
unary_known op k a Changing h = tt

module _ (op : BinaryOperator) (k : ValueType) (a b : FlatExpr) where
  abbrev whole : Readings → Result Val EvalFault
  whole = value_of (e.Binary op k a b)

  further : Readings → Val → Result Val EvalFault
  further r left = and_then (λ y. operated (binary_of op left y)) (value_of b r)

  -- behind the value of the left operand
  behind : (v : Val) (r : Readings) → value_of a r ≡ Ok v → whole r ≡ unless_decided (decided_by op v) (λ left. and_then (λ y. operated (binary_of op left y)) (value_of b r)) v
  behind v r h =
      ap (λ (m : Meaning). m.value r) (variants.binary op k a b)
      ∙ ap (and_then (λ x. unless_decided (decided_by op x) (λ left. and_then (λ y. operated (binary_of op left y)) (value_of b r)) x)) h

  decided_at : (v : Val) (o : Option Val) (r : Readings) → decided_by op v ≡ o → value_of a r ≡ Ok v → whole r ≡ unless_decided o (λ left. and_then (λ y. operated (binary_of op left y)) (value_of b r)) v
  decided_at v o r is h = behind v r h ∙ ap (λ (z : Option Val). unless_decided z (λ left. and_then (λ y. operated (binary_of op left y)) (value_of b r)) v) is

  decided_known : (v : Val) (o : Option Val) (s : StaticValue) → decided_by op v ≡ o → Always (value_of a) v → OnKnown (Always (value_of b)) s → OnKnown (Always whole) (static.unless_decided o op v s)
  decided_known v (Some d) s is h g = λ r. decided_at v (Some d) r is (h r)
  decided_known v None (Known w) is h g =
      by_equation whole (operated (binary_of op v w)) (static.answered (binary_of op v w))
      (λ r. decided_at v None r is (h r) ∙ ap (and_then (λ y. operated (binary_of op v y))) (g r)) (answered (binary_of op v w))
  decided_known v None Faulty is h g = tt
  decided_known v None Later is h g = tt
  decided_known v None Changing is h g = tt

  binary_known : (x y : StaticValue) → OnKnown (Always (value_of a)) x → OnKnown (Always (value_of b)) y → OnKnown (Always whole) (static.binary_value op x y)
  binary_known (Known v) (Known w) h g = decided_known v (decided_by op v) (Known w) refl h g
  binary_known (Known v) Faulty h g = decided_known v (decided_by op v) Faulty refl h tt
  binary_known (Known v) Later h g = tt
  binary_known (Known v) Changing h g = tt
  binary_known Faulty (Known w) h g = tt
  binary_known Faulty Faulty h g = tt
  binary_known Faulty Later h g = tt
  binary_known Faulty Changing h g = tt
  binary_known Later (Known w) h g = tt
  binary_known Later Faulty h g = tt
  binary_known Later Later h g = tt
  binary_known Later Changing h g = tt
  binary_known Changing y h g = tt

-- where the length of an operand isn't known, no value is
open_known : (P : Val → Type 0) (x y : StaticValue) → OnKnown P (static.open_value x y)
open_known P (Known a) (Known b) = tt
open_known P (Known a) Faulty = tt
open_known P (Known a) Later = tt
open_known P (Known a) Changing = tt
open_known P Faulty (Known b) = tt
open_known P Faulty Faulty = tt
open_known P Faulty Later = tt
open_known P Faulty Changing = tt
open_known P Later (Known b) = tt
open_known P Later Faulty = tt
open_known P Later Later = tt
open_known P Later Changing = tt
open_known P Changing y = tt

pub joined_known : (op : BinaryOperator) (k : ValueType) (a b : FlatExpr) (s t : Kind) (x y : StaticValue) → OnKnown (Always (value_of a)) x → OnKnown (Always (value_of b)) y
    → OnKnown (Always (value_of (e.Binary op k a b))) (static.joined_value op s t x y)
joined_known op k a b (Of s) (Of t) x y h g = binary_known op k a b x y h g
joined_known op k a b (Of s) Vector x y h g = open_known (Always (value_of (e.Binary op k a b))) x y
joined_known op k a b Vector t x y h g = open_known (Always (value_of (e.Binary op k a b))) x y

-- ---- functions

number_known : (m : Result ℤ NumFault) → OnKnown (λ w. real (numeric m) ≡ Ok w) (static.number m)
number_known (Ok r) = refl
number_known (Err f) = tt

whole_known : (m : Result ℤ ValFault) → OnKnown (λ w. and_then (λ i. Ok (val.Int i)) (operated m) ≡ Ok w) (static.whole m)
whole_known (Ok i) = refl
whole_known (Err f) = tt

pub function_known : (f : Function) (v : Val) → OnKnown (λ w. called f v ≡ Ok w) (static.call_of f v)
function_known function.Real (val.Int i) = refl
function_known function.Integer (val.Real r) = whole_known (integer_of r)
function_known function.Exp (val.Real r) = number_known (exp_of r)
function_known function.Sin (val.Real r) = refl
function_known function.Cos (val.Real r) = refl
function_known function.Sqrt (val.Real r) = number_known (sqrt_of r)
function_known _ v = tt

pub call_known : (f : Function) (a : FlatExpr) (s : StaticValue) → OnKnown (Always (value_of a)) s → OnKnown (Always (value_of (e.Call f a))) (static.call_value f s)
call_known f a (Known v) h =
    by_equation (value_of (e.Call f a)) (called f v) (static.call_of f v)
    (λ r. ap (λ (m : Meaning). m.value r) (variants.call f a) ∙ ap (and_then (called f)) (h r)) (function_known f v)
call_known f a Faulty h = tt
call_known f a Later h = tt
call_known f a Changing h = tt

-- ---- elements

same_places : (d : Direction) (left i : ℤ) → static.places_by d left i ≡ places_by d left i
same_places To left i = refl
same_places Downto left i = refl

bit_known : (length content : ℕ) (place : ℤ) → OnKnown (λ w. bit_at length content place ≡ Ok w) (static.bit_of length content place)
bit_known length content (pos place) = go (nat_lt place 0) (nat_lt place length)
  where
    go : (before within : Bool)
        → OnKnown (λ w. (if within then Ok (val.Bit (nat_eq (content / 2 ^ (length - 1 - place) % 2) 1)) else Err Range) ≡ Ok w)
        (if before then Faulty else (if within then Known (val.Bit (nat_eq (content / 2 ^ (length - 1 - place) % 2) 1)) else Faulty))
    go true within = tt
    go false true = refl
    go false false = tt
bit_known length content (negsuc place) = tt

place_known : (d : Direction) (length content : ℕ) (left i : ℤ) → OnKnown (λ w. bit_at length content (places_by d left i) ≡ Ok w) (static.bit_of length content (static.places_by d left i))
place_known d length content left i =
    subst (λ (p : ℤ). OnKnown (λ w. bit_at length content p ≡ Ok w) (static.bit_of length content (static.places_by d left i))) (same_places d left i)
    (bit_known length content (static.places_by d left i))

pub element_known_of : (range : IndexRange) (v i : Val) → OnKnown (λ w. element range v i ≡ Ok w) (static.element_of range v (Known i))
element_known_of range (val.Bits length content) (val.Int i) = place_known range.direction length content (pos range.left) i
element_known_of range _ _ = tt

no_index : (range : IndexRange) (v : Val) (P : Val → Type 0) → OnKnown P (static.element_of range v Faulty)
no_index range (val.Bits length content) P = tt
no_index range _ P = tt

ranged_known : (range : IndexRange) (a i : FlatExpr) (x y : StaticValue) → OnKnown (Always (value_of a)) x → OnKnown (Always (value_of i)) y
    → OnKnown (Always (value_of (e.Index a i range))) (static.together (static.element_of range) x y)
ranged_known range a i (Known v) (Known w) h g =
    by_equation (value_of (e.Index a i range)) (element range v w) (static.element_of range v (Known w))
    (λ r.
    ap (λ (m : Meaning). m.value r) (variants.index a i range)
    ∙ (ap (and_then (λ z. and_then (element range z) (value_of i r))) (h r) ∙ ap (and_then (element range v)) (g r)))
    (element_known_of range v w)
ranged_known range a i (Known v) Faulty h g = no_index range v (Always (value_of (e.Index a i range)))
ranged_known range a i (Known v) Later h g = tt
ranged_known range a i (Known v) Changing h g = tt
ranged_known range a i Faulty (Known w) h g = tt
ranged_known range a i Faulty Faulty h g = tt
ranged_known range a i Faulty Later h g = tt
ranged_known range a i Faulty Changing h g = tt
ranged_known range a i Later (Known w) h g = tt
ranged_known range a i Later Faulty h g = tt
ranged_known range a i Later Later h g = tt
ranged_known range a i Later Changing h g = tt
ranged_known range a i Changing y h g = tt

pub element_known : (c : SubtypeConstraint) (a i : FlatExpr) (x y : StaticValue) → OnKnown (Always (value_of a)) x → OnKnown (Always (value_of i)) y
    → OnKnown (Always (value_of (e.Index a i (index_range c)))) (static.element_value c x y)
element_known (constraint.Index range) a i x y h g = ranged_known range a i x y h g
element_known (constraint.Range c) a i x y h g = open_known (Always (value_of (e.Index a i (index_range (constraint.Range c))))) x y
element_known constraint.Later a i x y h g = open_known (Always (value_of (e.Index a i (index_range constraint.Later)))) x y
