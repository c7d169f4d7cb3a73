-- What is known of an expression before anything is read.
use Rattle.std.specs.Prelude.{ℕ, nat_eq, Bool, true, false, ℤ, pos, neg_ℤ, unsigned_abs, if◌then◌else◌, Option, Some, None, Result, Ok, Err}
use Rattle.fix_core.specs.declared.NumFault.{NumFault}
use Rattle.fix_core.specs.Units.{one}
use Rattle.fix_core.specs.Fixed.{sum_of, difference_of, product_of, quotient_of}
use Rattle.ams_value.specs.declared.val.Val.{Val}
use Rattle.ams_value.specs.declared.val.Val.TheVariants as val
use Rattle.ams_value.specs.declared.op.UnaryOperator.{UnaryOperator}
use Rattle.ams_value.specs.declared.op.UnaryOperator.TheVariants as unary
use Rattle.ams_value.specs.declared.op.BinaryOperator.{BinaryOperator}
use Rattle.ams_value.specs.declared.op.BinaryOperator.TheVariants as binary
use Rattle.flat_expr.specs.declared.expr.Function.{Function}
use Rattle.flat_expr.specs.declared.expr.Function.TheVariants as function
use Rattle.flat_expr.specs.declared.expr.Unknown.{Unknown}
use Rattle.flat_expr.specs.declared.expr.FlatExpr.{FlatExpr}
use Rattle.flat_expr.specs.declared.expr.FlatExpr.TheOpen.{FlatExpr-F}
use Rattle.flat_expr.specs.declared.expr.FlatExpr.TheFolds.{fold-FlatExpr}
use Rattle.design_meaning.specs.Value.{same_unknown}
use Rattle.constant_slopes.specs.declared.known.Known.{Known}

abbrev pub literal_number : Val → Option ℤ
literal_number (val.Real x) = Some x
literal_number _ = None

-- a result that there is
abbrev pub found : Result ℤ NumFault → Option ℤ
found (Ok z) = Some z
found (Err e) = None

abbrev pub with_two : (ℤ → ℤ → Result ℤ NumFault) → Option ℤ → Option ℤ → Option ℤ
with_two f (Some p) (Some q) = found (f p q)
with_two f _ _ = None

abbrev pub negative : Option ℤ → Option ℤ
negative (Some z) = Some (neg_ℤ z)
negative None = None

abbrev pub is_zero : Option ℤ → Bool
is_zero (Some z) = nat_eq (unsigned_abs z) 0
is_zero None = false

-- 0 where the slope is 0
abbrev pub zero_only : Option ℤ → Option ℤ
zero_only slope = if is_zero slope then Some (pos 0) else None

abbrev pub unary_known : UnaryOperator → Known → Known
unary_known unary.Minus a = record { number = negative a.number; slope = negative a.slope }
unary_known unary.Abs a = record { number = None; slope = zero_only a.slope }
unary_known _ a = record { number = None; slope = a.slope }

-- of a product: of a number that is known and a slope, beside a part of 0; 0 where both operands have the slope 0
abbrev pub product_known : Known → Known → Option ℤ
product_known a b =
    if is_zero a.slope then (if is_zero b.slope then Some (pos 0) else with_two sum_of (Some (pos 0)) (with_two product_of a.number b.slope))
    else (if is_zero b.slope then with_two sum_of (with_two product_of a.slope b.number) (Some (pos 0)) else None)

-- of a quotient by a divisor that is known
abbrev pub quotient_known : Known → Known → Option ℤ
quotient_known a b = if is_zero b.slope then with_two quotient_of (with_two difference_of a.slope (Some (pos 0))) b.number else None

abbrev pub binary_known : BinaryOperator → Known → Known → Option ℤ
binary_known binary.Add a b = with_two sum_of a.slope b.slope
binary_known binary.Subtract a b = with_two difference_of a.slope b.slope
binary_known binary.Multiply a b = product_known a b
binary_known binary.Divide a b = quotient_known a b
binary_known binary.Power a b = None
binary_known _ a b = Some (pos 0)

abbrev pub call_known : Function → Known → Option ℤ
call_known function.Exp a = zero_only a.slope
call_known function.Sin a = zero_only a.slope
call_known function.Cos a = zero_only a.slope
call_known function.Sqrt a = None
call_known _ a = Some (pos 0)

abbrev pub sloped : Option ℤ → Known
sloped slope = record { number = None; slope = slope }

abbrev pub known_at : Unknown → FlatExpr-F Known → Known
known_at u (FlatExpr-F.Literal v) = record { number = literal_number v; slope = Some (pos 0) }
known_at u (FlatExpr-F.Unknown other) = sloped (Some (if same_unknown other u then one else pos 0))
known_at u (FlatExpr-F.Unary op kind a) = unary_known op a
known_at u (FlatExpr-F.Binary op kind a b) = sloped (binary_known op a b)
known_at u (FlatExpr-F.Call f a) = sloped (call_known f a)
known_at u _ = sloped (Some (pos 0))

abbrev pub known_of : Unknown → FlatExpr → Known
known_of u = fold-FlatExpr Known (known_at u)

-- the slope that the expression has wherever it has a value, where that is known
abbrev pub constant_of : Unknown → FlatExpr → Option ℤ
constant_of u e = (known_of u e).slope
