-- An operator of two numbers gives what the operator of the values gives, and so with a function of one.
use Rattle.std.proofs.Common.{◌≡◌, ℕ, suc, ℤ, pos, negsuc, Bool, true, false, Option, Some, None, Result, Ok, Err, refl, sym, ◌∙◌, ap, subst}
use Rattle.std.specs.Prelude.{nat_le, if◌then◌else◌}
use Rattle.fix_core.specs.declared.NumFault.{NumFault}
use Rattle.fix_core.specs.declared.NumFault.TheVariants as number
use Rattle.fix_core.specs.Passes.{and_then, ◌>>=◌}
use Rattle.ams_value.specs.declared.val.Val.{Val}
use Rattle.ams_value.specs.declared.val.Val.TheVariants as val
use Rattle.ams_value.specs.declared.op.UnaryOperator.{UnaryOperator}
use Rattle.ams_value.specs.declared.op.UnaryOperator.TheVariants as unary
use Rattle.ams_value.specs.declared.op.BinaryOperator.{BinaryOperator}
use Rattle.ams_value.specs.declared.op.BinaryOperator.TheVariants as binary
use Rattle.ams_value.specs.Ranges.{most_exponent}
use Rattle.ams_value.specs.Values.{unary_of, negated, magnitude_of, binary_of, decided_by, sum_value, difference_value, product_value, quotient_value, power_value, with_exponent, real_powers, real_result}
use Rattle.flat_expr.specs.declared.expr.Function.{Function}
use Rattle.flat_expr.specs.declared.expr.Function.TheVariants as function
use Rattle.design_meaning.specs.declared.fault.EvalFault.{EvalFault}
use Rattle.design_meaning.specs.Faults.{numeric, operated}
use Rattle.design_meaning.specs.Readings.{Readings}
use Rattle.design_meaning.specs.Value.{real, unless_decided, called, unary_slope, binary_slope, power_slope, called_slope}
use Rattle.tape_code.specs.declared.instruction.RealFunction.{RealFunction}
use Rattle.tape_code.specs.declared.instruction.RealFunction.TheVariants as real_function
use Rattle.tape_code.specs.declared.instruction.RealOperator.{RealOperator}
use Rattle.tape_code.specs.declared.instruction.RealOperator.TheVariants as real_operator
use Rattle.tape_code.specs.declared.instruction.Instruction.{Instruction}
use Rattle.tape_code.specs.declared.instruction.Instruction.TheVariants as i
use Rattle.tape_code.specs.Code.{unary_instruction, binary_instruction, power_instruction, real_function_of}
use Rattle.tape_code.specs.Steps.{function_number, operator_number, function_slope, operator_slope}

real_ok : (m : Result ℤ NumFault) (z : ℤ) → numeric m ≡ Ok z → operated (real_result m) ≡ Ok (val.Real z)
real_ok (Ok a) z h = cc
real_ok (Err e) z h = absurd (cc)

as_value : (m : Result ℤ NumFault) (z : ℤ) → numeric m ≡ Ok z → real (numeric m) ≡ Ok (val.Real z)
as_value (Ok a) z h = cc
as_value (Err e) z h = absurd (cc)

-- ---- functions of one operand

pub unary_gives : (op : UnaryOperator) (f : RealFunction) (x z : ℤ) → unary_instruction op ≡ i.Function f → function_number f x ≡ Ok z → operated (unary_of op (val.Real x)) ≡ Ok (val.Real z)
unfolding unary_of negated magnitude_of
unary_gives unary.Plus real_function.Plus x z is h = cc
unary_gives unary.Minus real_function.Minus x z is h = cc
unary_gives unary.Abs real_function.Absolute x z is h = cc
unary_gives _ _ x z is h = absurd (cc)

pub unary_rises : (op : UnaryOperator) (f : RealFunction) (v x d z : ℤ) → unary_instruction op ≡ i.Function f → function_slope f v x d ≡ Ok z → unary_slope op (Ok x) d ≡ Ok z
unary_rises unary.Plus real_function.Plus v x d z is h = h
unary_rises unary.Minus real_function.Minus v x d z is h = h
unary_rises unary.Abs real_function.Absolute v x d z is h = h
unary_rises _ _ v x d z is h = absurd (cc)

pub call_gives : (f : Function) (g : RealFunction) (x z : ℤ) → real_function_of f ≡ Some g → function_number g x ≡ Ok z → called f (val.Real x) ≡ Ok (val.Real z)
call_gives function.Exp real_function.Exp x z is h = as_value _ z h
call_gives function.Sin real_function.Sin x z is h = cc
call_gives function.Cos real_function.Cos x z is h = cc
call_gives function.Sqrt real_function.Sqrt x z is h = as_value _ z h
call_gives _ _ x z is h = absurd (cc)

pub call_rises : (f : Function) (g : RealFunction) (v x d z : ℤ) → real_function_of f ≡ Some g → function_slope g v x d ≡ Ok z → called_slope f (Ok v) (Ok x) (Ok d) ≡ Ok z
call_rises function.Exp real_function.Exp v x d z is h = h
call_rises function.Sin real_function.Sin v x d z is h = h
call_rises function.Cos real_function.Cos v x d z is h = h
call_rises function.Sqrt real_function.Sqrt v x d z is h = h
call_rises _ _ v x d z is h = absurd (cc)

-- ---- operators of two operands

-- what an operator gives of two values
abbrev pub value_by : BinaryOperator → Val → Result Val EvalFault → Result Val EvalFault
value_by op x b = unless_decided (decided_by op x) (λ left. and_then (λ y. operated (binary_of op left y)) b) x

pub binary_gives : (op : BinaryOperator) (right : ℕ) (o : RealOperator) (n : ℕ) (x y z : ℤ) → binary_instruction op right ≡ i.Operator o n → operator_number o x y ≡ Ok z
    → value_by op (val.Real x) (Ok (val.Real y)) ≡ Ok (val.Real z)
unfolding decided_by binary_of sum_value difference_value product_value quotient_value
binary_gives binary.Add right real_operator.Add n x y z is h = real_ok _ z h
binary_gives binary.Subtract right real_operator.Subtract n x y z is h = real_ok _ z h
binary_gives binary.Multiply right real_operator.Multiply n x y z is h = real_ok _ z h
binary_gives binary.Divide right real_operator.Divide n x y z is h = real_ok _ z h
binary_gives _ right _ n x y z is h = absurd (cc)

pub binary_rises : (op : BinaryOperator) (right : ℕ) (o : RealOperator) (n : ℕ) (v x d y e z : ℤ) → binary_instruction op right ≡ i.Operator o n → operator_slope o v x d y e ≡ Ok z
    → binary_slope op (Ok v) (Ok x) (Ok d) (Ok y) (Ok e) (Ok (val.Real y)) ≡ Ok z
binary_rises binary.Add right real_operator.Add n v x d y e z is h = h
binary_rises binary.Subtract right real_operator.Subtract n v x d y e z is h = h
binary_rises binary.Multiply right real_operator.Multiply n v x d y e z is h = h
binary_rises binary.Divide right real_operator.Divide n v x d y e z is h = h
binary_rises _ right _ n v x d y e z is h = absurd (cc)

-- ---- powers

pub power_gives : (n : ℕ) (x z : ℤ) → nat_le n most_exponent ≡ true → numeric (real_powers x n) ≡ Ok z → value_by binary.Power (val.Real x) (Ok (val.Int (pos n))) ≡ Ok (val.Real z)
unfolding decided_by binary_of power_value with_exponent
power_gives n x z fits h = rw fits (real_ok _ z h)
