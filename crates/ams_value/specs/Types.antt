-- The types of values, and the operators' types (IEEE 1076-2008, 9.2).
use Rattle.std.specs.Prelude.{ℕ, ◌+◌, ◌<◌, ◌≤◌, ◌^◌, unsigned_abs, nat_eq, nat_le, nat_lt, ◌&&◌, Bool, true, if◌then◌else◌, List, get_or, Option, Some, None, IsSome}
use Rattle.fix_core.specs.Units.{most_units, most_ticks}
use Rattle.ams_value.specs.Ranges.{most_integer, most_elements}
use Rattle.ams_value.specs.declared.op.UnaryOperator.{UnaryOperator}
use Rattle.ams_value.specs.declared.op.UnaryOperator.TheVariants.{Plus, Minus, Abs, Not}
use Rattle.ams_value.specs.declared.op.BinaryOperator.{BinaryOperator}
use Rattle.ams_value.specs.declared.op.BinaryOperator.TheVariants.{And, Or, Nand, Nor, Xor, Xnor, Equal, NotEqual, Less, LessEqual, Greater, GreaterEqual, Sll, Srl, Sla, Sra, Rol, Ror, Add, Subtract, Concat, Multiply, Divide, Mod, Rem, Power}
use Rattle.ams_value.specs.declared.val.Val.{Val}
use Rattle.ams_value.specs.declared.val.Val.TheVariants as val
use Rattle.ams_value.specs.declared.value_type.ValueType.{ValueType}
use Rattle.ams_value.specs.declared.value_type.ValueType.TheVariants.{Boolean, Bit, Integer, Real, Time, Enumeration, BitVector}

-- the base type of a value
abbrev pub type_of : Val → ValueType
type_of (val.Bool b) = Boolean
type_of (val.Bit b) = Bit
type_of (val.Int i) = Integer
type_of (val.Real r) = Real
type_of (val.Time t) = Time
type_of (val.Enum number position) = Enumeration number
type_of (val.Bits length content) = BitVector length

-- so many elements at most, and no bit beyond them
abbrev pub IsVector : ℕ → ℕ → Type 0
IsVector length content = (length ≤ most_elements) × (content < 2 ^ length)

-- what a value holds lies in the range of its type
abbrev pub IsValue : Val → Type 0
IsValue (val.Bool b) = Unit {0}
IsValue (val.Bit b) = Unit {0}
IsValue (val.Int i) = unsigned_abs i ≤ most_integer
IsValue (val.Real r) = unsigned_abs r ≤ most_units
IsValue (val.Time t) = unsigned_abs t ≤ most_ticks
IsValue (val.Enum number position) = Unit {0}
IsValue (val.Bits length content) = IsVector length content

-- the same as a test, which asks of an enumeration value too that its position is one of its type's literals. The list has the number of literals of each enumeration type
abbrev pub is_in_range : List ℕ → Val → Bool
is_in_range literals (val.Bool b) = true
is_in_range literals (val.Bit b) = true
is_in_range literals (val.Int i) = nat_le (unsigned_abs i) most_integer
is_in_range literals (val.Real r) = nat_le (unsigned_abs r) most_units
is_in_range literals (val.Time t) = nat_le (unsigned_abs t) most_ticks
is_in_range literals (val.Enum number position) = nat_lt position (get_or literals number 0)
is_in_range literals (val.Bits length content) = nat_le length most_elements && nat_lt content (2 ^ length)

-- ---- the types of results, by the types of the operands

-- an integer, a real or a time
abbrev pub number_type : ValueType → Option ValueType
number_type Integer = Some Integer
number_type Real = Some Real
number_type Time = Some Time
number_type _ = None

-- a boolean, a bit or bits
abbrev pub truth_type : ValueType → Option ValueType
truth_type Boolean = Some Boolean
truth_type Bit = Some Bit
truth_type (BitVector n) = Some (BitVector n)
truth_type _ = None

abbrev pub unary_type : UnaryOperator → ValueType → Option ValueType
unary_type Plus t = number_type t
unary_type Minus t = number_type t
unary_type Abs t = number_type t
unary_type Not t = truth_type t

-- two of one type, bits of one length
abbrev pub logical_type : ValueType → ValueType → Option ValueType
logical_type Boolean Boolean = Some Boolean
logical_type Bit Bit = Some Bit
logical_type (BitVector m) (BitVector n) = if nat_eq m n then Some (BitVector m) else None
logical_type _ _ = None

-- two of one scalar type
abbrev pub order_type : ValueType → ValueType → Option ValueType
order_type Boolean Boolean = Some Boolean
order_type Bit Bit = Some Boolean
order_type Integer Integer = Some Boolean
order_type Real Real = Some Boolean
order_type Time Time = Some Boolean
order_type (Enumeration m) (Enumeration n) = if nat_eq m n then Some Boolean else None
order_type _ _ = None

-- two of one type, bits of any lengths
abbrev pub equality_type : ValueType → ValueType → Option ValueType
equality_type (BitVector m) (BitVector n) = Some Boolean
equality_type s t = order_type s t

abbrev pub shift_type : ValueType → ValueType → Option ValueType
shift_type (BitVector n) Integer = Some (BitVector n)
shift_type _ _ = None

abbrev pub sum_type : ValueType → ValueType → Option ValueType
sum_type Integer Integer = Some Integer
sum_type Real Real = Some Real
sum_type Time Time = Some Time
sum_type _ _ = None

-- bits of so many elements
abbrev pub vector_type : ℕ → Option ValueType
vector_type n = if nat_le n most_elements then Some (BitVector n) else None

abbrev pub concat_type : ValueType → ValueType → Option ValueType
concat_type Bit Bit = Some (BitVector 2)
concat_type Bit (BitVector n) = vector_type (1 + n)
concat_type (BitVector m) Bit = vector_type (m + 1)
concat_type (BitVector m) (BitVector n) = vector_type (m + n)
concat_type _ _ = None

abbrev pub product_type : ValueType → ValueType → Option ValueType
product_type Integer Integer = Some Integer
product_type Real Real = Some Real
product_type Time Integer = Some Time
product_type Time Real = Some Time
product_type Integer Time = Some Time
product_type Real Time = Some Time
product_type _ _ = None

abbrev pub quotient_type : ValueType → ValueType → Option ValueType
quotient_type Integer Integer = Some Integer
quotient_type Real Real = Some Real
quotient_type Time Integer = Some Time
quotient_type Time Real = Some Time
quotient_type Time Time = Some Integer
quotient_type _ _ = None

abbrev pub remainder_type : ValueType → ValueType → Option ValueType
remainder_type Integer Integer = Some Integer
remainder_type _ _ = None

abbrev pub power_type : ValueType → ValueType → Option ValueType
power_type Integer Integer = Some Integer
power_type Real Integer = Some Real
power_type _ _ = None

abbrev pub binary_type : BinaryOperator → ValueType → ValueType → Option ValueType
binary_type And s t = logical_type s t
binary_type Or s t = logical_type s t
binary_type Nand s t = logical_type s t
binary_type Nor s t = logical_type s t
binary_type Xor s t = logical_type s t
binary_type Xnor s t = logical_type s t
binary_type Equal s t = equality_type s t
binary_type NotEqual s t = equality_type s t
binary_type Less s t = order_type s t
binary_type LessEqual s t = order_type s t
binary_type Greater s t = order_type s t
binary_type GreaterEqual s t = order_type s t
binary_type Sll s t = shift_type s t
binary_type Srl s t = shift_type s t
binary_type Sla s t = shift_type s t
binary_type Sra s t = shift_type s t
binary_type Rol s t = shift_type s t
binary_type Ror s t = shift_type s t
binary_type Add s t = sum_type s t
binary_type Subtract s t = sum_type s t
binary_type Concat s t = concat_type s t
binary_type Multiply s t = product_type s t
binary_type Divide s t = quotient_type s t
binary_type Mod s t = remainder_type s t
binary_type Rem s t = remainder_type s t
binary_type Power s t = power_type s t

-- ---- well-typed operands

-- two values for which a table has a type of the result
pub record Fit (table : ValueType → ValueType → Option ValueType) (a b : Val) : Type 0 where
  pub left : IsValue a
  pub right : IsValue b
  pub known : IsSome (table (type_of a) (type_of b))

pub record IsTypedUnary (op : UnaryOperator) (a : Val) : Type 0 where
  pub operand : IsValue a
  pub known : IsSome (unary_type op (type_of a))

abbrev pub IsTypedBinary : BinaryOperator → Val → Val → Type 0
IsTypedBinary op a b = Fit (binary_type op) a b
