-- The types of the parts of an expression.
use Rattle.std.proofs.Common.{◌≡◌, ◌≤◌, ◌<◌, ℕ, zero, suc, ℤ, pos, negsuc, ◌*ℤ◌, ◌-◌, ◌/◌, ◌%◌, ◌^◌, Bool, true, false, Option, Some, None, Result, Ok, Err, IfOk, IsTrue, List, [], ◌∷◌, map, length, slice_get, arith, refl, ap, sym, ◌∙◌, subst}
use Rattle.std.specs.Prelude.{unsigned_abs, nat_eq, nat_lt, nat_le, if◌then◌else◌, slice_index_or}
use Rattle.std.specs.List.{All}
use Rattle.std.proofs.lemmas.Bool.Decides.{nat_tests}
use Rattle.std.proofs.lemmas.Int.{unsigned_abs-mul}
use Rattle.fix_core.specs.declared.NumFault.{NumFault}
use Rattle.fix_core.specs.Passes.{and_then}
use Rattle.fix_core.specs.Fixed.{one, IsInRange}
use Rattle.math_fix.specs.Functions.{exp_of, sin_of, cos_of, sqrt_of}
use Rattle.ams_value.specs.declared.fault.ValFault.{ValFault}
use Rattle.ams_value.specs.declared.op.BinaryOperator.{BinaryOperator}
use Rattle.ams_value.specs.declared.op.BinaryOperator.TheVariants as op
use Rattle.ams_value.specs.declared.val.Val.{Val}
use Rattle.ams_value.specs.declared.val.Val.TheVariants as val
use Rattle.ams_value.specs.declared.value_type.ValueType.{ValueType}
use Rattle.ams_value.specs.declared.value_type.ValueType.TheVariants.{Boolean, Bit, Integer, Real, Time, Enumeration, BitVector}
use Rattle.ams_value.specs.Types.{type_of, is_in_range, binary_type, logical_type}
use Rattle.ams_value.specs.Values.{decided_by, decided_truth, same_kind, integer_of, units_of}
use Rattle.flat_expr.specs.declared.expr.SignalName.{SignalName}
use Rattle.flat_expr.specs.declared.expr.SignalName.TheVariants as name
use Rattle.flat_expr.specs.declared.expr.IndexRange.{IndexRange}
use Rattle.flat_expr.specs.declared.expr.Function.{Function}
use Rattle.flat_expr.specs.declared.expr.Function.TheVariants as function
use Rattle.design_meaning.specs.declared.fault.EvalFault.{EvalFault}
use Rattle.design_meaning.specs.declared.fault.EvalFault.TheVariants.{Range}
use Rattle.design_meaning.specs.Faults.{numeric, operated}
use Rattle.design_meaning.specs.Readings.{Seen, Readings, seen_of}
use Rattle.design_meaning.specs.Value.{real, called, bit_at, element, places_by}
use Rattle.design_meaning.specs.Typed.{same_type, Scope, if_true, agreed, signal_type, call_type, IsOfType, Reads}
use Rattle.value_types.proofs.Functions.{ok_then, at_most, exp_in, sin_in, cos_in, sqrt_in, integer_in}

-- ---- stated types

pub if_true_is : (b : Bool) (t k : ValueType) → if_true b t ≡ Some k → (b ≡ true) × (t ≡ k)
if_true_is true t k h = (refl, cc)
if_true_is false t k h = absurd (cc)

same_number : (m n : ℕ) → nat_eq m n ≡ true → m ≡ n
same_number m n h = grind (arith, nat_tests)

pub same_type_is : (t k : ValueType) → same_type t k ≡ true → t ≡ k
same_type_is Boolean Boolean h = refl
same_type_is Bit Bit h = refl
same_type_is Integer Integer h = refl
same_type_is Real Real h = refl
same_type_is Time Time h = refl
same_type_is (Enumeration m) (Enumeration n) h = ap Enumeration (same_number m n h)
same_type_is (BitVector m) (BitVector n) h = ap BitVector (same_number m n h)
same_type_is _ _ h = absurd (cc)

pub agreed_is : (s k : ValueType) (o : Option ValueType) → agreed s o ≡ Some k → o ≡ Some k
agreed_is s k (Some t) h =
    let stated = if_true_is (same_type t s) s k h in
    ap Some (same_type_is t s stated.0 ∙ stated.1)
agreed_is s k None h = absurd (cc)

-- ---- readings

pub read_at : {X : Type 0} (f : X → ValueType) (xs : List X) (i : ℕ) (d : X) (k : ValueType) → slice_get (map f xs) i ≡ Some k → (i < length xs) × (f (slice_index_or xs i d) ≡ k)
read_at f [] i d k h = absurd (cc)
read_at f (x ∷ xs) zero d k h = (omega arith, cc)
read_at f (x ∷ xs) (suc i) d k h = let more = read_at f xs i d k h in (omega (arith, more.0), more.1)

pub truth_in_range : (sizes : List ℕ) (v : Val) → type_of v ≡ Boolean → IsTrue (is_in_range sizes v)
truth_in_range sizes (val.Bool b) h = refl
truth_in_range sizes _ h = absurd (cc)

below : (m n : ℕ) → nat_lt m n ≡ true → m < n
below m n h = grind (arith, nat_tests)

pub seen_typed : (scope : Scope) (r : Readings) (s : SignalName) (k : ValueType) → Reads scope r → signal_type scope s ≡ Some k → IsOfType scope.enumerations k (seen_of r s).value
seen_typed scope r (name.Signal i) k reads h =
    let d : Seen = record { value = val.Bool false; event = false } in
    let at = read_at (λ (s : Seen). type_of s.value) r.signals i d k (rw reads.signals h) in
    record { kind_is = at.1; range = reads.signals_range i d at.0 }
seen_typed scope r (name.Threshold j) k reads h =
    let d : Seen = record { value = val.Bool false; event = false } in
    let known = if_true_is (nat_lt j scope.thresholds) Boolean k h in
    let lt : j < length r.thresholds = omega (arith, below j scope.thresholds known.0, reads.thresholds) in
    record {
      kind_is = reads.thresholds_kind j d lt ∙ known.1;
      range = truth_in_range scope.enumerations (slice_index_or r.thresholds j d).value (reads.thresholds_kind j d lt);
    }
seen_typed scope r name.Domain k reads h = record { kind_is = reads.domain ∙ cc; range = reads.domain_range }

-- ---- what a left operand decides

logical_truth : (t k : ValueType) → logical_type Boolean t ≡ Some k → k ≡ Boolean
logical_truth Boolean k h = cc
logical_truth _ k h = absurd (cc)

logical_bit : (t k : ValueType) → logical_type Bit t ≡ Some k → k ≡ Bit
logical_bit Bit k h = cc
logical_bit _ k h = absurd (cc)

truth_of_type : (sizes : List ℕ) (b : Bool) (v : Val) (k : ValueType) → k ≡ Boolean → Some (val.Bool b) ≡ Some v → IsOfType sizes k v
truth_of_type sizes b v k is e =
    let same : val.Bool b ≡ v = cc in
    subst (IsOfType sizes k) same (record { kind_is = sym is; range = refl })

bit_of_type : (sizes : List ℕ) (b : Bool) (v : Val) (k : ValueType) → k ≡ Bit → Some (val.Bit b) ≡ Some v → IsOfType sizes k v
bit_of_type sizes b v k is e =
    let same : val.Bit b ≡ v = cc in
    subst (IsOfType sizes k) same (record { kind_is = sym is; range = refl })

nothing : (v : Val) → None ≡ Some v → ⊥
nothing v e = cc

-- the value that a left operand decides is of the type of the whole
pub decided_typed : (sizes : List ℕ) (o : BinaryOperator) (x v : Val) (t k : ValueType) → binary_type o (type_of x) t ≡ Some k → decided_by o x ≡ Some v → IsOfType sizes k v
unfolding decided_by
decided_typed sizes op.And (val.Bool false) v t k h e = truth_of_type sizes false v k (logical_truth t k h) e
decided_typed sizes op.Or (val.Bool true) v t k h e = truth_of_type sizes true v k (logical_truth t k h) e
decided_typed sizes op.Nand (val.Bool false) v t k h e = truth_of_type sizes true v k (logical_truth t k h) e
decided_typed sizes op.Nor (val.Bool true) v t k h e = truth_of_type sizes false v k (logical_truth t k h) e
decided_typed sizes op.And (val.Bit false) v t k h e = bit_of_type sizes false v k (logical_bit t k h) e
decided_typed sizes op.Or (val.Bit true) v t k h e = bit_of_type sizes true v k (logical_bit t k h) e
decided_typed sizes op.Nand (val.Bit false) v t k h e = bit_of_type sizes true v k (logical_bit t k h) e
decided_typed sizes op.Nor (val.Bit true) v t k h e = bit_of_type sizes false v k (logical_bit t k h) e
decided_typed sizes _ (val.Bool _) v t k h e = absurd (nothing v e)
decided_typed sizes _ (val.Bit _) v t k h e = absurd (nothing v e)
decided_typed sizes o (val.Int i) v t k h e = absurd (nothing v e)
decided_typed sizes o (val.Real z) v t k h e = absurd (nothing v e)
decided_typed sizes o (val.Time z) v t k h e = absurd (nothing v e)
decided_typed sizes o (val.Enum n p) v t k h e = absurd (nothing v e)
decided_typed sizes o (val.Bits n c) v t k h e = absurd (nothing v e)

-- ---- functions and elements

at_least : (m n : ℕ) → m ≤ n → nat_le m n ≡ true
at_least m n h = grind (arith, nat_tests)

pub real_typed : (sizes : List ℕ) (z : ℤ) (k : ValueType) → Real ≡ k → IsInRange z → IsOfType sizes k (val.Real z)
real_typed sizes z k is h = record { kind_is = is; range = at_least (unsigned_abs z) 1000000000000000000000000 h }

pub from_number : (sizes : List ℕ) (k : ValueType) → Real ≡ k → (m : Result ℤ NumFault) → IfOk m IsInRange → IfOk (real (numeric m)) (IsOfType sizes k)
from_number sizes k is (Ok z) h = real_typed sizes z k is h
from_number sizes k is (Err e) h = tt

from_integer : (sizes : List ℕ) (k : ValueType) → Integer ≡ k → (m : Result ℤ ValFault) → IfOk m (λ (i : ℤ). unsigned_abs i ≤ 2147483647)
    → IfOk (and_then (λ i. Ok (val.Int i)) (operated m)) (IsOfType sizes k)
from_integer sizes k is (Ok i) h = record { kind_is = is; range = at_least (unsigned_abs i) 2147483647 h }
from_integer sizes k is (Err e) h = tt

bit_or_fault : (sizes : List ℕ) (t b : Bool) (f : EvalFault) → IfOk (if t then Ok (val.Bit b) else Err f) (IsOfType sizes Bit)
bit_or_fault sizes true b f = record { kind_is = refl; range = refl }
bit_or_fault sizes false b f = tt

bit_typed : (sizes : List ℕ) (length content : ℕ) (place : ℤ) → IfOk (bit_at length content place) (IsOfType sizes Bit)
bit_typed sizes length content (pos place) = bit_or_fault sizes (nat_lt place length) (nat_eq (content / 2 ^ (length - 1 - place) % 2) 1) Range
bit_typed sizes length content (negsuc place) = tt

of_integer : (i : ℤ) → unsigned_abs i ≤ 2147483647 → IsInRange (i *ℤ one)
of_integer i h = rw (unsigned_abs-mul i one) (omega arith)

-- a conversion or function of a value of its type
pub called_typed : (sizes : List ℕ) (f : Function) (x : Val) (k : ValueType) → IsTrue (is_in_range sizes x) → call_type f (Some (type_of x)) ≡ Some k → IfOk (called f x) (IsOfType sizes k)
called_typed sizes function.Real (val.Int i) k h is = real_typed sizes (i *ℤ one) k (cc) (of_integer i (at_most (unsigned_abs i) 2147483647 h))
called_typed sizes function.Integer (val.Real r) k h is = from_integer sizes k (cc) (integer_of r) (integer_in r)
called_typed sizes function.Exp (val.Real r) k h is = from_number sizes k (cc) (exp_of r) (exp_in r)
called_typed sizes function.Sin (val.Real r) k h is = real_typed sizes (sin_of r) k (cc) (sin_in r)
called_typed sizes function.Cos (val.Real r) k h is = real_typed sizes (cos_of r) k (cc) (cos_in r)
called_typed sizes function.Sqrt (val.Real r) k h is = from_number sizes k (cc) (sqrt_of r) (sqrt_in r (at_most (unsigned_abs r) 1000000000000000000000000 h))
called_typed sizes _ _ k h is = absurd (cc)

-- an element of a vector is a bit
pub element_typed : (sizes : List ℕ) (range : IndexRange) (v i : Val) → IfOk (element range v i) (IsOfType sizes Bit)
element_typed sizes range (val.Bits length content) (val.Int i) = bit_typed sizes length content (places_by range.direction (pos range.left) i)
element_typed sizes range _ _ = tt
