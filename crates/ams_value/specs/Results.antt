-- What is promised of the operators' results.
use Rattle.std.specs.Prelude.{◌≡◌, ℕ, List, true, Option, Some, Ok}
use Rattle.std.specs.Bool.{Decides}
use Rattle.ams_value.specs.declared.op.UnaryOperator.{UnaryOperator}
use Rattle.ams_value.specs.declared.op.BinaryOperator.{BinaryOperator}
use Rattle.ams_value.specs.declared.val.Val.{Val}
use Rattle.ams_value.specs.declared.value_type.ValueType.{ValueType}
use Rattle.ams_value.specs.Types.{type_of, IsValue, is_in_range, unary_type, binary_type, logical_type, IsTypedUnary, IsTypedBinary, Fit}
use Rattle.ams_value.specs.Values.{unary_of, binary_of, decided_by, equals}

-- a value of the type, in its range
pub record IsOf (t : Option ValueType) (v : Val) : Type 0 where
  pub within : IsValue v
  pub typed : t ≡ Some (type_of v)

-- a result is of the type that the operator's table has, and in its range
pub record ResultsAreTyped : Type 0 where
  pub unary : (op : UnaryOperator) (a v : Val) → IsTypedUnary op a → unary_of op a ≡ Ok v → IsOf (unary_type op (type_of a)) v
  pub binary : (op : BinaryOperator) (a b v : Val) → IsTypedBinary op a b → binary_of op a b ≡ Ok v → IsOf (binary_type op (type_of a) (type_of b)) v

-- a value that passes the test of ranges lies in the range of its type
abbrev pub RangesGiveValues : Type 0
RangesGiveValues = (literals : List ℕ) (v : Val) → is_in_range literals v ≡ true → IsValue v

-- a result passes the test of ranges, whatever enumeration types there are
pub record ResultsAreInRange : Type 0 where
  pub unary : (literals : List ℕ) (op : UnaryOperator) (a v : Val) → IsTypedUnary op a → unary_of op a ≡ Ok v → is_in_range literals v ≡ true
  pub binary : (literals : List ℕ) (op : BinaryOperator) (a b v : Val) → IsTypedBinary op a b → binary_of op a b ≡ Ok v → is_in_range literals v ≡ true

-- `equals` tells whether two values are one value
abbrev pub EqualsDecides : Type 0
EqualsDecides = (a b : Val) → Decides (equals a b) (a ≡ b)

-- where the left operand of a logical operator decides, the right one changes nothing
abbrev pub LeftDecides : Type 0
LeftDecides = (op : BinaryOperator) (a b v : Val) → Fit logical_type a b → decided_by op a ≡ Some v → binary_of op a b ≡ Ok v
