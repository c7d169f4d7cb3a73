-- What an instruction gives.
use Rattle.std.specs.Prelude.{◌≡◌, ◌<◌, ℕ, suc, ◌-◌, nat_lt, ℤ, pos, neg_ℤ, unsigned_abs, if◌then◌else◌, List, length, get_or, Result, Ok, Err}
use Rattle.fix_core.specs.Passes.{and_then}
use Rattle.fix_core.specs.Units.{one}
use Rattle.fix_core.specs.Fixed.{ranged}
use Rattle.math_fix.specs.Functions.{exp_of, sin_of, cos_of, sqrt_of}
use Rattle.ams_value.specs.declared.val.Val.{Val}
use Rattle.ams_value.specs.declared.val.Val.TheVariants as val
use Rattle.ams_value.specs.declared.op.UnaryOperator.TheVariants as unary
use Rattle.ams_value.specs.declared.op.BinaryOperator.TheVariants as binary
use Rattle.ams_value.specs.Values.{real_powers}
use Rattle.flat_expr.specs.declared.expr.Function.TheVariants as function
use Rattle.flat_expr.specs.declared.expr.Unknown.{Unknown}
use Rattle.design_meaning.specs.declared.fault.EvalFault.{EvalFault}
use Rattle.design_meaning.specs.declared.fault.EvalFault.TheVariants.{Range}
use Rattle.design_meaning.specs.Faults.{numeric}
use Rattle.design_meaning.specs.Readings.{Readings, seen_of, unknown_of}
use Rattle.design_meaning.specs.Value.{plus, minus, times, over, same_unknown, unary_slope, binary_slope, power_slope, called_slope}
use Rattle.tape_code.specs.declared.instruction.RealFunction.{RealFunction}
use Rattle.tape_code.specs.declared.instruction.RealFunction.TheVariants as real_function
use Rattle.tape_code.specs.declared.instruction.RealOperator.{RealOperator}
use Rattle.tape_code.specs.declared.instruction.RealOperator.TheVariants as real_operator
use Rattle.tape_code.specs.declared.instruction.Instruction.{Instruction}
use Rattle.tape_code.specs.declared.instruction.Instruction.TheVariants as i

-- the number before place k, behind which so many others stand up to k; 0 where there is none
abbrev pub earlier : List ℤ → ℕ → ℕ → ℤ
earlier numbers k skipped = if nat_lt skipped k then get_or numbers (k - 1 - skipped) (pos 0) else pos 0

-- ---- values

abbrev pub real_number : Val → Result ℤ EvalFault
real_number (val.Real x) = Ok x
real_number _ = Err Range

abbrev pub function_number : RealFunction → ℤ → Result ℤ EvalFault
function_number real_function.Plus x = Ok x
function_number real_function.Minus x = Ok (neg_ℤ x)
function_number real_function.Absolute x = Ok (pos (unsigned_abs x))
function_number real_function.Exp x = numeric (exp_of x)
function_number real_function.Sin x = Ok (sin_of x)
function_number real_function.Cos x = Ok (cos_of x)
function_number real_function.Sqrt x = numeric (sqrt_of x)

abbrev pub operator_number : RealOperator → ℤ → ℤ → Result ℤ EvalFault
operator_number real_operator.Add x y = plus x y
operator_number real_operator.Subtract x y = minus x y
operator_number real_operator.Multiply x y = times x y
operator_number real_operator.Divide x y = over x y

-- what the instruction at place k gives, where these numbers stand before it
abbrev pub number_step : Readings → Instruction → List ℤ → ℕ → Result ℤ EvalFault
number_step r (i.Literal x) numbers k = Ok x
number_step r (i.Signal s) numbers k = real_number (seen_of r s).value
number_step r (i.Unknown u) numbers k = numeric (ranged (unknown_of r u))
number_step r i.Now numbers k = Ok (pos r.now)
number_step r (i.Function f) numbers k = function_number f (earlier numbers k 0)
number_step r (i.Operator op right) numbers k = operator_number op (earlier numbers k right) (earlier numbers k 0)
number_step r (i.Power n) numbers k = numeric (real_powers (earlier numbers k 0) n)
number_step r i.Other numbers k = Err Range

-- ---- slopes by an unknown

-- of f x with the value v, of x with the slope d
abbrev pub function_slope : RealFunction → ℤ → ℤ → ℤ → Result ℤ EvalFault
function_slope real_function.Plus v x d = Ok d
function_slope real_function.Minus v x d = unary_slope unary.Minus (Ok x) d
function_slope real_function.Absolute v x d = unary_slope unary.Abs (Ok x) d
function_slope real_function.Exp v x d = called_slope function.Exp (Ok v) (Ok x) (Ok d)
function_slope real_function.Sin v x d = called_slope function.Sin (Ok v) (Ok x) (Ok d)
function_slope real_function.Cos v x d = called_slope function.Cos (Ok v) (Ok x) (Ok d)
function_slope real_function.Sqrt v x d = called_slope function.Sqrt (Ok v) (Ok x) (Ok d)

-- of x op y with the value v, of x and y with the slopes d and e
abbrev pub operator_slope : RealOperator → ℤ → ℤ → ℤ → ℤ → ℤ → Result ℤ EvalFault
operator_slope real_operator.Add v x d y e = plus d e
operator_slope real_operator.Subtract v x d y e = minus d e
operator_slope real_operator.Multiply v x d y e = binary_slope binary.Multiply (Ok v) (Ok x) (Ok d) (Ok y) (Ok e) (Ok (val.Real y))
operator_slope real_operator.Divide v x d y e = binary_slope binary.Divide (Ok v) (Ok x) (Ok d) (Ok y) (Ok e) (Ok (val.Real y))

-- the slope of what the instruction at place k gives, where these are the numbers, its own too, and the slopes before it
abbrev pub slope_step : Unknown → Instruction → List ℤ → List ℤ → ℕ → Result ℤ EvalFault
slope_step u (i.Unknown other) numbers slopes k = Ok (if same_unknown other u then one else pos 0)
slope_step u (i.Function f) numbers slopes k = function_slope f (get_or numbers k (pos 0)) (earlier numbers k 0) (earlier slopes k 0)
slope_step u (i.Operator op right) numbers slopes k =
    operator_slope op (get_or numbers k (pos 0)) (earlier numbers k right) (earlier slopes k right) (earlier numbers k 0) (earlier slopes k 0)
slope_step u (i.Power n) numbers slopes k = power_slope (Ok (earlier numbers k 0)) (Ok (earlier slopes k 0)) (val.Int (pos n))
slope_step u _ numbers slopes k = Ok (pos 0)

-- ---- runs

-- each number is what its instruction gives
abbrev pub HasNumbers : Readings → List Instruction → ℕ → List ℤ → Type 0
HasNumbers r code n numbers = (k : ℕ) → k < n → number_step r (get_or code k i.Other) numbers k ≡ Ok (get_or numbers k (pos 0))

abbrev pub HasSlopes : Unknown → List Instruction → List ℤ → ℕ → List ℤ → Type 0
HasSlopes u code numbers n slopes = (k : ℕ) → k < n → slope_step u (get_or code k i.Other) numbers slopes k ≡ Ok (get_or slopes k (pos 0))
