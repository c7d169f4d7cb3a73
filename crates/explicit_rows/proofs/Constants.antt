-- Constant slopes of an equation.
use Rattle.std.proofs.Common.{◌≡◌, ℤ, Some, Result, Ok, Err, refl, sym}
use Rattle.std.specs.Prelude.{IsOk}
use Rattle.flat_expr.specs.declared.expr.Unknown.{Unknown}
use Rattle.flat_design.specs.declared.objects.Pair.{Pair}
use Rattle.design_meaning.specs.declared.fault.EvalFault.{EvalFault}
use Rattle.design_meaning.specs.Readings.{Readings}
use Rattle.design_meaning.specs.Equations.{row_of, residual_of, row_slope}
use Rattle.prepared_pairs.specs.Prepared.{constant_in_row}
use Rattle.prepared_pairs.proofs.Whole.{constant_is_the_row_slope}

pub constant_is : (p : Pair) (r : Readings) (u : Unknown) (z : ℤ) → Some z ≡ constant_in_row p u → IsOk (residual_of (row_of p) r) → Ok z ≡ row_slope (row_of p) r u
constant_is p r u z known has =
    at (residual_of (row_of p) r) refl has
  where
    at : (m : Result ℤ EvalFault) → residual_of (row_of p) r ≡ m → IsOk m → Ok z ≡ row_slope (row_of p) r u
    at (Ok v) e h = sym (constant_is_the_row_slope p r u v z e (sym known))
    at (Err q) e h = absurd (cc)
