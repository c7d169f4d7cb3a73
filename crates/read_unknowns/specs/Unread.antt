-- The slopes by unknowns that an equation doesn't read.
use Rattle.std.specs.Prelude.{◌≡◌, false, ℤ, pos, Result, IfOk}
use Rattle.flat_expr.specs.declared.expr.Unknown.{Unknown}
use Rattle.flat_design.specs.declared.objects.Pair.{Pair}
use Rattle.design_meaning.specs.declared.fault.EvalFault.{EvalFault}
use Rattle.design_meaning.specs.Readings.{Readings}
use Rattle.design_meaning.specs.Equations.{row_of, row_slope}
use Rattle.read_unknowns.specs.Asked.{stands_on}

-- two slopes are one, or one fault, and a slope is 0
pub record AreAlike (a b : Result ℤ EvalFault) : Type 0 where
  pub same : a ≡ b
  pub none : IfOk a (λ z. z ≡ pos 0)

abbrev pub UnreadSlopesAreAlike : Type 0
UnreadSlopesAreAlike =
    (p : Pair) (r : Readings) (u v : Unknown) → stands_on p u ≡ false → stands_on p v ≡ false → AreAlike (row_slope (row_of p) r u) (row_slope (row_of p) r v)
