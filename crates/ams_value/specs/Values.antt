-- What the predefined operators give (IEEE 1076-2008, 9.2). Where the operands are not of the types that the operator's table has, the value that is written here means nothing.
use Rattle.std.specs.Prelude.{ℕ, zero, suc, ◌+◌, ◌-◌, ◌*◌, ◌/◌, ◌%◌, ◌^◌, min, ℤ, pos, negsuc, ◌+ℤ◌, ◌-ℤ◌, ◌*ℤ◌, neg_ℤ, unsigned_abs, int_lt, int_div, int_rem, Bool, true, false, not, ◌&&◌, ◌||◌, nat_eq, nat_lt, nat_le, if◌then◌else◌, bit_and, bit_or, bit_xor, Option, Some, None, Result, Ok, Err}
use Rattle.std.specs.Ordering.{int_eq}
use Rattle.std.specs.Int.{int_rem_euclid}
use Rattle.message_codes.specs.Codes.{range, value_overflow, value_divide_by_zero}
use Rattle.fix_core.specs.declared.NumFault.{NumFault}
use Rattle.fix_core.specs.declared.NumFault.TheVariants as number
use Rattle.fix_core.specs.Rounding.{rnd}
use Rattle.fix_core.specs.Passes.{and_then}
use Rattle.fix_core.specs.Fixed.{one, sum_of, difference_of, product_of, quotient_of}
use Rattle.fix_core.specs.Units.{most_ticks}
use Rattle.ams_value.specs.Ranges.{most_integer, most_exponent}
use Rattle.ams_value.specs.declared.fault.ValFault.{ValFault}
use Rattle.ams_value.specs.declared.fault.ValFault.TheVariants.{Range, Overflow, DivideByZero}
use Rattle.ams_value.specs.declared.op.UnaryOperator.{UnaryOperator}
use Rattle.ams_value.specs.declared.op.UnaryOperator.TheVariants.{Plus, Minus, Abs, Not}
use Rattle.ams_value.specs.declared.op.BinaryOperator.{BinaryOperator}
use Rattle.ams_value.specs.declared.op.BinaryOperator.TheVariants.{And, Or, Nand, Nor, Xor, Xnor, Equal, NotEqual, Less, LessEqual, Greater, GreaterEqual, Sll, Srl, Sla, Sra, Rol, Ror, Add, Subtract, Concat, Multiply, Divide, Mod, Rem, Power}
use Rattle.ams_value.specs.declared.val.Val.{Val}
use Rattle.ams_value.specs.declared.val.Val.TheVariants.{Bool as Boolean, Bit, Int, Real, Time, Enum, Bits}

abbrev pub code_of : ValFault → ℕ
code_of Range = range
code_of Overflow = value_overflow
code_of DivideByZero = value_divide_by_zero

-- ---- what a value holds

-- the units of a REAL value, and 0 of another one
abbrev pub units_of : Val → ℤ
units_of (Real r) = r
units_of _ = pos 0

-- the ticks of a TIME value, and 0 of another one
abbrev pub ticks_of : Val → ℤ
ticks_of (Time t) = t
ticks_of _ = pos 0

-- the value TRUE
abbrev pub is_true : Val → Bool
is_true (Boolean b) = b
is_true _ = false

-- ---- results in their types

-- an integer in its range
unfoldable pub integer_ranged : ℤ → Result Val ValFault
integer_ranged z = if nat_le (unsigned_abs z) most_integer then Ok (Int z) else Err Overflow

-- a time in its range
unfoldable pub time_ranged : ℤ → Result Val ValFault
time_ranged z = if nat_le (unsigned_abs z) most_ticks then Ok (Time z) else Err Overflow

abbrev pub fault_of : NumFault → ValFault
fault_of number.Overflow = Overflow
fault_of number.DivideByZero = DivideByZero
fault_of number.Domain = Range

abbrev pub real_result : Result ℤ NumFault → Result Val ValFault
real_result (Ok z) = Ok (Real z)
real_result (Err e) = Err (fault_of e)

-- a result that divides by d
unfoldable pub divided_by : ℤ → Result Val ValFault → Result Val ValFault
divided_by d r = if nat_eq (unsigned_abs d) 0 then Err DivideByZero else r

-- ---- logical operators, on truth values and on the bits of vectors of n elements

abbrev pub truth_of : BinaryOperator → Bool → Bool → Bool
truth_of And a b = a && b
truth_of Or a b = a || b
truth_of Nand a b = not (a && b)
truth_of Nor a b = not (a || b)
truth_of Xor a b = if a then not b else b
truth_of Xnor a b = if a then b else not b
truth_of _ a b = false

-- all n bits are 1
unfoldable pub all_ones : ℕ → ℕ
all_ones n = 2 ^ n - 1

abbrev pub bits_of : BinaryOperator → ℕ → ℕ → ℕ → ℕ
bits_of And n a b = bit_and a b
bits_of Or n a b = bit_or a b
bits_of Nand n a b = all_ones n - bit_and a b
bits_of Nor n a b = all_ones n - bit_or a b
bits_of Xor n a b = bit_xor a b
bits_of Xnor n a b = all_ones n - bit_xor a b
bits_of _ n a b = 0

unfoldable pub logical_of : BinaryOperator → Val → Val → Result Val ValFault
logical_of op (Boolean a) (Boolean b) = Ok (Boolean (truth_of op a b))
logical_of op (Bit a) (Bit b) = Ok (Bit (truth_of op a b))
logical_of op (Bits m a) (Bits n b) = Ok (Bits m (bits_of op m a b))
logical_of op _ _ = Err Range

-- the value of a logical operator on truth values where its left operand decides it, which it does but for xor and xnor
abbrev pub decided_truth : BinaryOperator → Bool → Option Bool
decided_truth And false = Some false
decided_truth Or true = Some true
decided_truth Nand false = Some true
decided_truth Nor true = Some false
decided_truth _ a = None

abbrev pub same_kind : (Bool → Val) → Option Bool → Option Val
same_kind kind (Some b) = Some (kind b)
same_kind kind None = None

unfoldable pub decided_by : BinaryOperator → Val → Option Val
decided_by op (Boolean a) = same_kind Boolean (decided_truth op a)
decided_by op (Bit a) = same_kind Bit (decided_truth op a)
decided_by op _ = None

-- ---- comparisons

abbrev pub same_truth : Bool → Bool → Bool
same_truth true b = b
same_truth false b = not b

-- vectors are equal where they have one length and equal elements
unfoldable pub equals : Val → Val → Bool
equals (Boolean a) (Boolean b) = same_truth a b
equals (Bit a) (Bit b) = same_truth a b
equals (Int a) (Int b) = int_eq a b
equals (Real a) (Real b) = int_eq a b
equals (Time a) (Time b) = int_eq a b
equals (Enum s a) (Enum t b) = nat_eq s t && nat_eq a b
equals (Bits m a) (Bits n b) = nat_eq m n && nat_eq a b
equals _ _ = false

-- FALSE stands before TRUE, '0' before '1', and an enumeration's values stand in the order of their literals
unfoldable pub precedes : Val → Val → Bool
precedes (Boolean a) (Boolean b) = not a && b
precedes (Bit a) (Bit b) = not a && b
precedes (Int a) (Int b) = int_lt a b
precedes (Real a) (Real b) = int_lt a b
precedes (Time a) (Time b) = int_lt a b
precedes (Enum s a) (Enum t b) = nat_lt a b
precedes _ _ = false

-- ---- shifts of n bits by k places. The last element is the lowest bit

-- the last n - k elements, moved to the left; '0' follows them
abbrev pub left_shifted : ℕ → ℕ → ℕ → ℕ
left_shifted n k a = a % 2 ^ (n - k) * 2 ^ k

-- the first n - k elements, moved to the right; '0' stands before them
abbrev pub right_shifted : ℕ → ℕ → ℕ
right_shifted k a = a / 2 ^ k

-- the places that a shift to the left leaves, filled with the last element
abbrev pub last_filled : ℕ → ℕ → ℕ → ℕ
last_filled n k a = if nat_eq (a % 2) 0 then 0 else 2 ^ min k n - 1

-- the places that a shift to the right leaves, filled with the first element
abbrev pub first_filled : ℕ → ℕ → ℕ → ℕ
first_filled n k a = if nat_eq (a / 2 ^ (n - 1)) 0 then 0 else 2 ^ n - 2 ^ (n - k)

-- the first k elements move behind the others
abbrev pub rotated : ℕ → ℕ → ℕ → ℕ
rotated n k a = a % 2 ^ (n - k) * 2 ^ k + a / 2 ^ (n - k)

abbrev pub shifted : BinaryOperator → ℕ → ℕ → ℕ → ℕ
shifted Sll n k a = left_shifted n k a
shifted Srl n k a = right_shifted k a
shifted Sla n k a = left_shifted n k a + last_filled n k a
shifted Sra n k a = right_shifted k a + first_filled n k a
shifted Rol n k a = rotated n (k % n) a
shifted Ror n k a = rotated n (n - k % n) a
shifted _ n k a = 0

-- the same shift the other way
abbrev pub opposite : BinaryOperator → BinaryOperator
opposite Sll = Srl
opposite Srl = Sll
opposite Sla = Sra
opposite Sra = Sla
opposite Rol = Ror
opposite Ror = Rol
opposite op = op

unfoldable pub shift_of : BinaryOperator → Val → Val → Result Val ValFault
shift_of op (Bits n a) (Int (pos k)) = Ok (Bits n (shifted op n k a))
shift_of op (Bits n a) (Int (negsuc k)) = Ok (Bits n (shifted (opposite op) n (suc k) a))
shift_of op _ _ = Err Range

-- ---- concatenation: a bit counts as a vector of one element

abbrev pub width_of : Val → ℕ
width_of (Bit b) = 1
width_of (Bits n a) = n
width_of _ = 0

abbrev pub content_of : Val → ℕ
content_of (Bit b) = if b then 1 else 0
content_of (Bits n a) = a
content_of _ = 0

unfoldable pub concat_of : Val → Val → Result Val ValFault
concat_of a b = Ok (Bits (width_of a + width_of b) (content_of a * 2 ^ width_of b + content_of b))

-- ---- arithmetic

unfoldable pub sum_value : Val → Val → Result Val ValFault
sum_value (Int a) (Int b) = integer_ranged (a +ℤ b)
sum_value (Real a) (Real b) = real_result (sum_of a b)
sum_value (Time a) (Time b) = time_ranged (a +ℤ b)
sum_value _ _ = Err Range

unfoldable pub difference_value : Val → Val → Result Val ValFault
difference_value (Int a) (Int b) = integer_ranged (a -ℤ b)
difference_value (Real a) (Real b) = real_result (difference_of a b)
difference_value (Time a) (Time b) = time_ranged (a -ℤ b)
difference_value _ _ = Err Range

-- a time by a real, rounded to the nearest tick
unfoldable pub time_by_real : ℤ → ℤ → Result Val ValFault
time_by_real t r = time_ranged (rnd (t *ℤ r) one)

unfoldable pub time_over_real : ℤ → ℤ → Result Val ValFault
time_over_real t r = divided_by r (time_ranged (rnd (t *ℤ one) r))

-- divided towards 0
unfoldable pub integer_quotient : ℤ → ℤ → Result Val ValFault
integer_quotient a b = divided_by b (integer_ranged (int_div a b))

unfoldable pub time_quotient : ℤ → ℤ → Result Val ValFault
time_quotient t i = divided_by i (time_ranged (int_div t i))

-- what is left of a beside a multiple of b, with the sign of b
abbrev pub modulus : ℤ → ℤ → ℤ
modulus a (pos b) = int_rem_euclid a (pos b)
modulus a (negsuc b) = neg_ℤ (int_rem_euclid (neg_ℤ a) (negsuc b))

unfoldable pub integer_modulus : ℤ → ℤ → Result Val ValFault
integer_modulus a b = divided_by b (integer_ranged (modulus a b))

-- what is left of a beside a multiple of b, with the sign of a
unfoldable pub integer_remainder : ℤ → ℤ → Result Val ValFault
integer_remainder a b = divided_by b (integer_ranged (int_rem a b))

unfoldable pub product_value : Val → Val → Result Val ValFault
product_value (Int a) (Int b) = integer_ranged (a *ℤ b)
product_value (Real a) (Real b) = real_result (product_of a b)
product_value (Time t) (Int i) = time_ranged (t *ℤ i)
product_value (Int i) (Time t) = time_ranged (t *ℤ i)
product_value (Time t) (Real r) = time_by_real t r
product_value (Real r) (Time t) = time_by_real t r
product_value _ _ = Err Range

unfoldable pub quotient_value : Val → Val → Result Val ValFault
quotient_value (Int a) (Int b) = integer_quotient a b
quotient_value (Real a) (Real b) = real_result (quotient_of a b)
quotient_value (Time t) (Int i) = time_quotient t i
quotient_value (Time t) (Real r) = time_over_real t r
quotient_value (Time a) (Time b) = integer_quotient a b
quotient_value _ _ = Err Range

unfoldable pub modulus_value : Val → Val → Result Val ValFault
modulus_value (Int a) (Int b) = integer_modulus a b
modulus_value _ _ = Err Range

unfoldable pub remainder_value : Val → Val → Result Val ValFault
remainder_value (Int a) (Int b) = integer_remainder a b
remainder_value _ _ = Err Range

-- a product of integers that is itself an operand again
unfoldable pub integer_product : ℤ → ℤ → Result ℤ ValFault
integer_product a b = if nat_le (unsigned_abs (a *ℤ b)) most_integer then Ok (a *ℤ b) else Err Overflow

-- a number times itself: n - 1 products from the left, and 1 for n of 0
unfoldable pub powers : {E : Type 0} → (ℤ → ℤ → Result ℤ E) → ℤ → ℤ → ℕ → Result ℤ E
powers times unit a zero = Ok unit
powers times unit a (suc zero) = Ok a
powers times unit a (suc (suc n)) = and_then (λ p. times p a) (powers times unit a (suc n))

unfoldable pub integer_powers : ℤ → ℕ → Result ℤ ValFault
integer_powers a n = powers integer_product (pos 1) a n

unfoldable pub real_powers : ℤ → ℕ → Result ℤ NumFault
real_powers a n = powers product_of one a n

abbrev pub integer_result : Result ℤ ValFault → Result Val ValFault
integer_result (Ok z) = Ok (Int z)
integer_result (Err e) = Err e

-- an exponent is from 0 to the greatest one
unfoldable pub with_exponent : ℤ → (ℕ → Result Val ValFault) → Result Val ValFault
with_exponent (pos n) power = if nat_le n most_exponent then power n else Err Range
with_exponent (negsuc n) power = Err Range

unfoldable pub power_value : Val → Val → Result Val ValFault
power_value (Int a) (Int n) = with_exponent n (λ k. integer_result (integer_powers a k))
power_value (Real a) (Int n) = with_exponent n (λ k. real_result (real_powers a k))
power_value _ _ = Err Range

-- ---- the operators

unfoldable pub negated : Val → Val
negated (Int a) = Int (neg_ℤ a)
negated (Real a) = Real (neg_ℤ a)
negated (Time a) = Time (neg_ℤ a)
negated a = a

unfoldable pub magnitude_of : Val → Val
magnitude_of (Int a) = Int (pos (unsigned_abs a))
magnitude_of (Real a) = Real (pos (unsigned_abs a))
magnitude_of (Time a) = Time (pos (unsigned_abs a))
magnitude_of a = a

unfoldable pub inverted : Val → Val
inverted (Boolean a) = Boolean (not a)
inverted (Bit a) = Bit (not a)
inverted (Bits n a) = Bits n (all_ones n - a)
inverted a = a

unfoldable pub unary_of : UnaryOperator → Val → Result Val ValFault
unary_of Plus a = Ok a
unary_of Minus a = Ok (negated a)
unary_of Abs a = Ok (magnitude_of a)
unary_of Not a = Ok (inverted a)

unfoldable pub binary_of : BinaryOperator → Val → Val → Result Val ValFault
binary_of And a b = logical_of And a b
binary_of Or a b = logical_of Or a b
binary_of Nand a b = logical_of Nand a b
binary_of Nor a b = logical_of Nor a b
binary_of Xor a b = logical_of Xor a b
binary_of Xnor a b = logical_of Xnor a b
binary_of Equal a b = Ok (Boolean (equals a b))
binary_of NotEqual a b = Ok (Boolean (not (equals a b)))
binary_of Less a b = Ok (Boolean (precedes a b))
binary_of LessEqual a b = Ok (Boolean (not (precedes b a)))
binary_of Greater a b = Ok (Boolean (precedes b a))
binary_of GreaterEqual a b = Ok (Boolean (not (precedes a b)))
binary_of Sll a b = shift_of Sll a b
binary_of Srl a b = shift_of Srl a b
binary_of Sla a b = shift_of Sla a b
binary_of Sra a b = shift_of Sra a b
binary_of Rol a b = shift_of Rol a b
binary_of Ror a b = shift_of Ror a b
binary_of Add a b = sum_value a b
binary_of Subtract a b = difference_value a b
binary_of Concat a b = concat_of a b
binary_of Multiply a b = product_value a b
binary_of Divide a b = quotient_value a b
binary_of Mod a b = modulus_value a b
binary_of Rem a b = remainder_value a b
binary_of Power a b = power_value a b

-- ---- conversions

-- `integer(r)`: the nearest integer, halves away from 0, and Range where it is none
unfoldable pub integer_of : ℤ → Result ℤ ValFault
integer_of r = if nat_le (unsigned_abs (rnd r one)) most_integer then Ok (rnd r one) else Err Range

-- `real(i)`
abbrev pub real_of : ℤ → ℤ
real_of i = i *ℤ one
