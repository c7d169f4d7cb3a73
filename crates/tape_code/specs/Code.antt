-- The instructions of an expression: those of its operands from the left on, and its own last.
use Rattle.std.specs.Prelude.{ℕ, Bool, true, false, nat_le, ℤ, pos, negsuc, if◌then◌else◌, List, [], ◌∷◌, ◌++◌, length, Option, Some, None}
use Rattle.ams_value.specs.declared.val.Val.{Val}
use Rattle.ams_value.specs.declared.val.Val.TheVariants as val
use Rattle.ams_value.specs.declared.op.UnaryOperator.{UnaryOperator}
use Rattle.ams_value.specs.declared.op.UnaryOperator.TheVariants as unary
use Rattle.ams_value.specs.declared.op.BinaryOperator.{BinaryOperator}
use Rattle.ams_value.specs.declared.op.BinaryOperator.TheVariants as binary
use Rattle.ams_value.specs.Ranges.{most_exponent}
use Rattle.ams_value.specs.Values.{real_of}
use Rattle.flat_expr.specs.declared.expr.Function.{Function}
use Rattle.flat_expr.specs.declared.expr.Function.TheVariants as function
use Rattle.flat_expr.specs.declared.expr.FlatExpr.{FlatExpr}
use Rattle.flat_expr.specs.declared.expr.FlatExpr.TheOpen.{FlatExpr-F}
use Rattle.flat_expr.specs.declared.expr.FlatExpr.TheFolds.{fold-FlatExpr}
use Rattle.tape_code.specs.declared.instruction.RealFunction.{RealFunction}
use Rattle.tape_code.specs.declared.instruction.RealFunction.TheVariants as real_function
use Rattle.tape_code.specs.declared.instruction.RealOperator.TheVariants as real_operator
use Rattle.tape_code.specs.declared.instruction.Instruction.{Instruction}
use Rattle.tape_code.specs.declared.instruction.Instruction.TheVariants as i

-- what is made of an expression: its instructions, and the integer where it is a literal of INTEGER
pub record Compiled : Type 0 where
  pub code : List Instruction
  pub integer : Option ℤ

abbrev pub literal_instruction : Val → Instruction
literal_instruction (val.Real x) = i.Literal x
literal_instruction _ = i.Other

abbrev pub literal_integer : Val → Option ℤ
literal_integer (val.Int n) = Some n
literal_integer _ = None

abbrev pub unary_instruction : UnaryOperator → Instruction
unary_instruction unary.Plus = i.Function real_function.Plus
unary_instruction unary.Minus = i.Function real_function.Minus
unary_instruction unary.Abs = i.Function real_function.Absolute
unary_instruction unary.Not = i.Other

-- the exponent has to be a literal
abbrev pub power_instruction : Option ℤ → Instruction
power_instruction (Some (pos n)) = if nat_le n most_exponent then i.Power n else i.Other
power_instruction (Some (negsuc n)) = i.Other
power_instruction None = i.Other

-- of an operator whose right operand has so many instructions
abbrev pub binary_instruction : BinaryOperator → ℕ → Instruction
binary_instruction binary.Add right = i.Operator real_operator.Add right
binary_instruction binary.Subtract right = i.Operator real_operator.Subtract right
binary_instruction binary.Multiply right = i.Operator real_operator.Multiply right
binary_instruction binary.Divide right = i.Operator real_operator.Divide right
binary_instruction _ right = i.Other

abbrev pub is_power : BinaryOperator → Bool
is_power binary.Power = true
is_power _ = false

-- a power keeps its base alone
abbrev pub binary_code : BinaryOperator → Compiled → Compiled → List Instruction
binary_code op a b =
    if is_power op then a.code ++ power_instruction b.integer ∷ [] else a.code ++ b.code ++ binary_instruction op (length b.code) ∷ []

-- an integer that is converted keeps nothing but the number
abbrev pub conversion : Function → Option ℤ → Instruction
conversion function.Real (Some n) = i.Literal (real_of n)
conversion _ n = i.Other

abbrev pub real_function_of : Function → Option RealFunction
real_function_of function.Exp = Some real_function.Exp
real_function_of function.Sin = Some real_function.Sin
real_function_of function.Cos = Some real_function.Cos
real_function_of function.Sqrt = Some real_function.Sqrt
real_function_of _ = None

abbrev pub call_by : Option RealFunction → Function → Compiled → List Instruction
call_by (Some f) name a = a.code ++ i.Function f ∷ []
call_by None name a = conversion name a.integer ∷ []

abbrev pub call_code : Function → Compiled → List Instruction
call_code name a = call_by (real_function_of name) name a

abbrev pub no_integer : List Instruction → Compiled
no_integer code = record { code = code; integer = None }

abbrev pub compiled_at : FlatExpr-F Compiled → Compiled
compiled_at (FlatExpr-F.Literal v) = record { code = literal_instruction v ∷ []; integer = literal_integer v }
compiled_at (FlatExpr-F.Signal s kind) = no_integer (i.Signal s ∷ [])
compiled_at (FlatExpr-F.Unknown u) = no_integer (i.Unknown u ∷ [])
compiled_at FlatExpr-F.NowReal = no_integer (i.Now ∷ [])
compiled_at (FlatExpr-F.Unary op kind a) = no_integer (a.code ++ unary_instruction op ∷ [])
compiled_at (FlatExpr-F.Binary op kind a b) = no_integer (binary_code op a b)
compiled_at (FlatExpr-F.Call f a) = no_integer (call_code f a)
compiled_at _ = no_integer (i.Other ∷ [])

abbrev pub compiled : FlatExpr → Compiled
compiled = fold-FlatExpr Compiled compiled_at

abbrev pub code_of : FlatExpr → List Instruction
code_of e = (compiled e).code
