-- What is known of a value before the run (static expressions: IEEE 1076, 9.4).
use Rattle.std.specs.Prelude.{ℕ, ◌-◌, ◌/◌, ◌%◌, ◌^◌, nat_eq, if◌then◌else◌, ℤ, pos, int_lt, unsigned_abs, ◌-ℤ◌, Option, Some, None, Result, Ok, Err}
use Rattle.fix_core.specs.declared.NumFault.{NumFault}
use Rattle.math_fix.specs.Functions.{exp_of, sin_of, cos_of, sqrt_of}
use Rattle.ams_value.specs.declared.val.Val.{Val}
use Rattle.ams_value.specs.declared.val.Val.TheVariants as val
use Rattle.ams_value.specs.declared.fault.ValFault.{ValFault}
use Rattle.ams_value.specs.declared.op.UnaryOperator.{UnaryOperator}
use Rattle.ams_value.specs.declared.op.BinaryOperator.{BinaryOperator}
use Rattle.ams_value.specs.Values.{unary_of, binary_of, decided_by, integer_of, real_of}
use Rattle.flat_expr.specs.declared.expr.Function.{Function}
use Rattle.flat_expr.specs.declared.expr.Function.TheVariants as function
use Rattle.flat_expr.specs.declared.expr.Direction.{Direction}
use Rattle.flat_expr.specs.declared.expr.Direction.TheVariants.{To, Downto}
use Rattle.flat_expr.specs.declared.expr.IndexRange.{IndexRange}
use Rattle.name_scope.specs.declared.thing.Kind.{Kind}
use Rattle.name_scope.specs.declared.thing.Kind.TheVariants.{Of, Vector}
use Rattle.name_scope.specs.declared.thing.SubtypeConstraint.{SubtypeConstraint}
use Rattle.name_scope.specs.declared.thing.SubtypeConstraint.TheVariants as constraint
use Rattle.elab_meaning.specs.declared.typed.StaticValue.{StaticValue}
use Rattle.elab_meaning.specs.declared.typed.StaticValue.TheVariants.{Known, Faulty, Later, Changing}

abbrev pub answered : Result Val ValFault → StaticValue
answered (Ok v) = Known v
answered (Err e) = Faulty

abbrev pub number : Result ℤ NumFault → StaticValue
number (Ok r) = Known (val.Real r)
number (Err e) = Faulty

abbrev pub whole : Result ℤ ValFault → StaticValue
whole (Ok i) = Known (val.Int i)
whole (Err e) = Faulty

abbrev pub unary_value : UnaryOperator → StaticValue → StaticValue
unary_value op (Known a) = answered (unary_of op a)
unary_value op x = x

-- of two operands: nothing is known of the whole where one of them changes, or is known later
abbrev pub together : (Val → StaticValue → StaticValue) → StaticValue → StaticValue → StaticValue
together f Changing b = Changing
together f a Changing = Changing
together f Later b = Later
together f a Later = Later
together f Faulty b = Faulty
together f (Known a) b = f a b

-- the answer that the left operand decided, or the operator's
abbrev pub unless_decided : Option Val → BinaryOperator → Val → StaticValue → StaticValue
unless_decided (Some d) op a b = Known d
unless_decided None op a (Known b) = answered (binary_of op a b)
unless_decided None op a b = b

abbrev pub binary_value : BinaryOperator → StaticValue → StaticValue → StaticValue
binary_value op = together (λ a. unless_decided (decided_by op a) op a)

-- where the length of an operand isn't known, neither is the value
abbrev pub open_value : StaticValue → StaticValue → StaticValue
open_value = together (λ a b. Later)

abbrev pub joined_value : BinaryOperator → Kind → Kind → StaticValue → StaticValue → StaticValue
joined_value op (Of s) (Of u) a b = binary_value op a b
joined_value op s u a b = open_value a b

abbrev pub call_of : Function → Val → StaticValue
call_of function.Real (val.Int i) = Known (val.Real (real_of i))
call_of function.Integer (val.Real r) = whole (integer_of r)
call_of function.Exp (val.Real r) = number (exp_of r)
call_of function.Sin (val.Real r) = Known (val.Real (sin_of r))
call_of function.Cos (val.Real r) = Known (val.Real (cos_of r))
call_of function.Sqrt (val.Real r) = number (sqrt_of r)
call_of _ v = Faulty

abbrev pub call_value : Function → StaticValue → StaticValue
call_value f (Known a) = call_of f a
call_value f x = x

-- ---- elements of vectors

-- how many places an index stands behind the leftmost element
abbrev pub places_by : Direction → ℤ → ℤ → ℤ
places_by To left i = i -ℤ left
places_by Downto left i = left -ℤ i

-- the element so many places behind the leftmost one, which is the highest bit of the content
abbrev pub bit_of : ℕ → ℕ → ℤ → StaticValue
bit_of length content place =
    if int_lt place (pos 0) then Faulty
    else (if int_lt place (pos length) then Known (val.Bit (nat_eq (content / 2 ^ (length - 1 - unsigned_abs place) % 2) 1)) else Faulty)

abbrev pub element_of : IndexRange → Val → StaticValue → StaticValue
element_of range (val.Bits length content) (Known (val.Int i)) = bit_of length content (places_by range.direction (pos range.left) i)
element_of range _ _ = Faulty

abbrev pub element_value : SubtypeConstraint → StaticValue → StaticValue → StaticValue
element_value (constraint.Index range) v i = together (element_of range) v i
element_value _ v i = open_value v i
