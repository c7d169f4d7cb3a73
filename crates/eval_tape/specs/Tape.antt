-- Tapes, and what their runs say of the expression.
use Rattle.std.specs.Prelude.{◌≡◌, ◌<◌, ℕ, ℤ, pos, List, length, get_or, map, Option, None, Ok}
use Rattle.ams_value.specs.declared.val.Val.TheVariants as val
use Rattle.flat_expr.specs.declared.expr.Unknown.{Unknown}
use Rattle.flat_expr.specs.declared.expr.Unknown.TheVariants.{Quantity}
use Rattle.flat_expr.specs.declared.expr.FlatExpr.{FlatExpr}
use Rattle.design_meaning.specs.Readings.{Readings}
use Rattle.design_meaning.specs.Value.{value_of, slope_of, slopes_of}
use Rattle.constant_slopes.specs.Constant.{constant_of}
use Rattle.tape_code.specs.declared.instruction.Instruction.{Instruction}
use Rattle.tape_code.specs.Code.{code_of}
use Rattle.tape_code.specs.Steps.{HasNumbers}

-- the instructions of an expression, the unknowns by which its slopes are asked, and those of the slopes that are constant
pub record Content : Type 0 where
  pub code : List Instruction
  pub unknowns : List Unknown
  pub constants : List (Option ℤ)

abbrev pub constants_of : FlatExpr → List Unknown → List (Option ℤ)
constants_of e unknowns = map (λ u. constant_of u e) unknowns

abbrev pub tape_of : FlatExpr → List Unknown → Content
tape_of e unknowns = record { code = code_of e; unknowns = unknowns; constants = constants_of e unknowns }

-- this is the value of the expression that has the instructions
abbrev pub IsValue : Readings → List Instruction → ℤ → Type 0
IsValue r code v = (e : FlatExpr) → code ≡ code_of e → value_of e r ≡ Ok (val.Real v)

-- this is the slope of the expression that has the instructions and this constant slope, or none, where these are the numbers
-- of the instructions
abbrev pub IsSlope : Unknown → Option ℤ → List Instruction → List ℤ → ℤ → Type 0
IsSlope u constant code numbers z =
    (e : FlatExpr) (r : Readings) → code ≡ code_of e → constant ≡ constant_of u e → HasNumbers r code (length code) numbers → slope_of e u r ≡ Ok z

-- these are its slopes by the first unknowns
abbrev pub AreSlopes : List Unknown → List (Option ℤ) → ℕ → List Instruction → List ℤ → List ℤ → Type 0
AreSlopes unknowns constants n code numbers out = (i : ℕ) → i < n → IsSlope (get_or unknowns i (Quantity 0)) (get_or constants i None) code numbers (get_or out i (pos 0))

-- these are its value and all its slopes
abbrev pub AreResults : Readings → List Unknown → List (Option ℤ) → List Instruction → ℤ → List ℤ → Type 0
AreResults r unknowns constants code v out = (e : FlatExpr) → code ≡ code_of e → constants ≡ constants_of e unknowns → slopes_of e unknowns r ≡ Ok (v, out)
