-- What the numbers of the instructions say of the expression.
use Rattle.std.specs.Prelude.{◌≡◌, ◌-◌, ℤ, pos, List, length, get_or, Ok}
use Rattle.ams_value.specs.declared.val.Val.TheVariants as val
use Rattle.flat_expr.specs.declared.expr.Unknown.{Unknown}
use Rattle.flat_expr.specs.declared.expr.FlatExpr.{FlatExpr}
use Rattle.design_meaning.specs.Readings.{Readings}
use Rattle.design_meaning.specs.Value.{value_of, slope_of}
use Rattle.tape_code.specs.Code.{code_of}
use Rattle.tape_code.specs.Steps.{HasNumbers, HasSlopes}

-- the number of the last instruction
abbrev pub last_of : FlatExpr → List ℤ → ℤ
last_of e numbers = get_or numbers (length (code_of e) - 1) (pos 0)

-- where each instruction gives a number, the last one is the value of the expression
abbrev pub LastIsTheValue : Type 0
LastIsTheValue = (e : FlatExpr) (r : Readings) (numbers : List ℤ) → HasNumbers r (code_of e) (length (code_of e)) numbers → value_of e r ≡ Ok (val.Real (last_of e numbers))

-- and where each has a slope too, the last one is the slope of the expression
abbrev pub LastIsTheSlope : Type 0
LastIsTheSlope = (e : FlatExpr) (r : Readings) (u : Unknown) (numbers slopes : List ℤ) → HasNumbers r (code_of e) (length (code_of e)) numbers
    → HasSlopes u (code_of e) numbers (length (code_of e)) slopes → slope_of e u r ≡ Ok (last_of e slopes)
