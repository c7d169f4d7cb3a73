-- A constant slope of an equation is its slope wherever it has a residual.
use Rattle.std.specs.Prelude.{◌≡◌, ℤ, Some, Ok}
use Rattle.flat_expr.specs.declared.expr.Unknown.{Unknown}
use Rattle.flat_design.specs.declared.objects.Pair.{Pair}
use Rattle.design_meaning.specs.Readings.{Readings}
use Rattle.design_meaning.specs.Equations.{row_of, residual_of, row_slope}
use Rattle.prepared_pairs.specs.Prepared.{constant_in_row}

abbrev pub ConstantIsTheRowSlope : Type 0
ConstantIsTheRowSlope = (p : Pair) (r : Readings) (u : Unknown) (residual z : ℤ) → residual_of (row_of p) r ≡ Ok residual → constant_in_row p u ≡ Some z → row_slope (row_of p) r u ≡ Ok z
