-- Results pass the test of ranges: no operator gives an enumeration value.
use Rattle.std.proofs.Common.{◌≡◌, ℕ, ◌+◌, true, Bool, false, Some, None, List, refl, subst, arith}
use Rattle.std.specs.Prelude.{Option, nat_eq, nat_le, if◌then◌else◌}
use Rattle.ams_value.specs.declared.op.UnaryOperator.{UnaryOperator}
use Rattle.ams_value.specs.declared.op.UnaryOperator.TheVariants.{Plus, Minus, Abs, Not}
use Rattle.ams_value.specs.declared.op.BinaryOperator.{BinaryOperator}
use Rattle.ams_value.specs.declared.op.BinaryOperator.TheVariants.{And, Or, Nand, Nor, Xor, Xnor, Equal, NotEqual, Less, LessEqual, Greater, GreaterEqual, Sll, Srl, Sla, Sra, Rol, Ror, Add, Subtract, Concat, Multiply, Divide, Mod, Rem, Power}
use Rattle.ams_value.specs.declared.val.Val.{Val}
use Rattle.ams_value.specs.declared.val.Val.TheVariants as val
use Rattle.ams_value.specs.declared.value_type.ValueType.{ValueType}
use Rattle.ams_value.specs.declared.value_type.ValueType.TheVariants.{Boolean, Bit, Integer, Real, Time, Enumeration, BitVector}
use Rattle.ams_value.specs.Types.{type_of, is_in_range, number_type, truth_type, unary_type, logical_type, order_type, equality_type, shift_type, sum_type, vector_type, concat_type, product_type, quotient_type, remainder_type, power_type, binary_type}
use Rattle.ams_value.specs.Results.{IsOf, ResultsAreInRange}
use Rattle.ams_value.proofs.Typed.{results_typed}

-- a type that is no enumeration
abbrev Plain : Option ValueType → Type 0
Plain (Some (Enumeration n)) = ⊥
Plain _ = Unit {0}

plain_if : (t : ValueType) (b : Bool) → Plain (Some t) → Plain (if b then Some t else None)
plain_if t true p = p
plain_if t false p = tt

number_plain : (t : ValueType) → Plain (number_type t)
number_plain Integer = tt
number_plain _ = tt

truth_plain : (t : ValueType) → Plain (truth_type t)
truth_plain Boolean = tt
truth_plain _ = tt

unary_plain : (op : UnaryOperator) (t : ValueType) → Plain (unary_type op t)
unary_plain Plus t = number_plain t
unary_plain Minus t = number_plain t
unary_plain Abs t = number_plain t
unary_plain Not t = truth_plain t

logical_plain : (s t : ValueType) → Plain (logical_type s t)
logical_plain Boolean Boolean = tt
logical_plain Bit Bit = tt
logical_plain (BitVector m) (BitVector n) = plain_if (BitVector m) (nat_eq m n) tt
logical_plain _ _ = tt

order_plain : (s t : ValueType) → Plain (order_type s t)
order_plain Boolean Boolean = tt
order_plain Bit Bit = tt
order_plain Integer Integer = tt
order_plain Real Real = tt
order_plain Time Time = tt
order_plain (Enumeration m) (Enumeration n) = plain_if Boolean (nat_eq m n) tt
order_plain _ _ = tt

equality_plain : (s t : ValueType) → Plain (equality_type s t)
equality_plain (BitVector m) (BitVector n) = tt
equality_plain s t = order_plain s t

shift_plain : (s t : ValueType) → Plain (shift_type s t)
shift_plain (BitVector n) Integer = tt
shift_plain _ _ = tt

sum_plain : (s t : ValueType) → Plain (sum_type s t)
sum_plain Integer Integer = tt
sum_plain Real Real = tt
sum_plain Time Time = tt
sum_plain _ _ = tt

vector_plain : (n : ℕ) → Plain (vector_type n)
vector_plain n = plain_if (BitVector n) (nat_le n 64) tt

concat_plain : (s t : ValueType) → Plain (concat_type s t)
concat_plain Bit Bit = tt
concat_plain Bit (BitVector n) = vector_plain (1 + n)
concat_plain (BitVector m) Bit = vector_plain (m + 1)
concat_plain (BitVector m) (BitVector n) = vector_plain (m + n)
concat_plain _ _ = tt

product_plain : (s t : ValueType) → Plain (product_type s t)
product_plain Integer Integer = tt
product_plain Real Real = tt
product_plain Time Integer = tt
product_plain Time Real = tt
product_plain Integer Time = tt
product_plain Real Time = tt
product_plain _ _ = tt

quotient_plain : (s t : ValueType) → Plain (quotient_type s t)
quotient_plain Integer Integer = tt
quotient_plain Real Real = tt
quotient_plain Time Integer = tt
quotient_plain Time Real = tt
quotient_plain Time Time = tt
quotient_plain _ _ = tt

remainder_plain : (s t : ValueType) → Plain (remainder_type s t)
remainder_plain Integer Integer = tt
remainder_plain _ _ = tt

power_plain : (s t : ValueType) → Plain (power_type s t)
power_plain Integer Integer = tt
power_plain Real Integer = tt
power_plain _ _ = tt

binary_plain : (op : BinaryOperator) (s t : ValueType) → Plain (binary_type op s t)
binary_plain And s t = logical_plain s t
binary_plain Or s t = logical_plain s t
binary_plain Nand s t = logical_plain s t
binary_plain Nor s t = logical_plain s t
binary_plain Xor s t = logical_plain s t
binary_plain Xnor s t = logical_plain s t
binary_plain Equal s t = equality_plain s t
binary_plain NotEqual s t = equality_plain s t
binary_plain Less s t = order_plain s t
binary_plain LessEqual s t = order_plain s t
binary_plain Greater s t = order_plain s t
binary_plain GreaterEqual s t = order_plain s t
binary_plain Sll s t = shift_plain s t
binary_plain Srl s t = shift_plain s t
binary_plain Sla s t = shift_plain s t
binary_plain Sra s t = shift_plain s t
binary_plain Rol s t = shift_plain s t
binary_plain Ror s t = shift_plain s t
binary_plain Add s t = sum_plain s t
binary_plain Subtract s t = sum_plain s t
binary_plain Concat s t = concat_plain s t
binary_plain Multiply s t = product_plain s t
binary_plain Divide s t = quotient_plain s t
binary_plain Mod s t = remainder_plain s t
binary_plain Rem s t = remainder_plain s t
binary_plain Power s t = power_plain s t

plain_in_range : (literals : List ℕ) (t : Option ValueType) (v : Val) → Plain t → IsOf t v → is_in_range literals v ≡ true
plain_in_range literals t (val.Bool b) p i = refl
plain_in_range literals t (val.Bit b) p i = refl
plain_in_range literals t (val.Int z) p i = let h = i.within in grind arith
plain_in_range literals t (val.Real z) p i = let h = i.within in grind arith
plain_in_range literals t (val.Time z) p i = let h = i.within in grind arith
plain_in_range literals t (val.Enum n k) p i = absurd (subst Plain i.typed p)
plain_in_range literals t (val.Bits n a) p i = let h = i.within in let short = h.0 in let below = h.1 in grind arith

pub results_in_range : ResultsAreInRange
results_in_range = record {
  unary = λ literals op a v f e. plain_in_range literals (unary_type op (type_of a)) v (unary_plain op (type_of a)) (results_typed.unary op a v f e);
  binary = λ literals op a b v f e. plain_in_range literals (binary_type op (type_of a) (type_of b)) v (binary_plain op (type_of a) (type_of b)) (results_typed.binary op a b v f e);
}

pub ruleset results_ranged = (results_in_range)
