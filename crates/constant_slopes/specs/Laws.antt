-- A constant slope is the slope wherever the expression has a value.
use Rattle.std.specs.Prelude.{◌≡◌, ℤ, Some, Ok}
use Rattle.ams_value.specs.declared.val.Val.{Val}
use Rattle.flat_expr.specs.declared.expr.Unknown.{Unknown}
use Rattle.flat_expr.specs.declared.expr.FlatExpr.{FlatExpr}
use Rattle.design_meaning.specs.Readings.{Readings}
use Rattle.design_meaning.specs.Value.{value_of, slope_of}
use Rattle.constant_slopes.specs.Constant.{constant_of}

abbrev pub ConstantIsTheSlope : Type 0
ConstantIsTheSlope = (e : FlatExpr) (u : Unknown) (r : Readings) (v : Val) (z : ℤ) → value_of e r ≡ Ok v → constant_of u e ≡ Some z → slope_of e u r ≡ Ok z
