-- A constant slope is the slope.
use Rattle.std.proofs.Common.{◌≡◌, ℤ, Option, Some, None, Result, Ok, Err, refl}
use Rattle.fix_core.specs.declared.NumFault.{NumFault}
use Rattle.fix_core.specs.Passes.{and_then}
use Rattle.fix_core.specs.Fixed.{difference_of}
use Rattle.ams_value.specs.declared.val.Val.{Val}
use Rattle.flat_expr.specs.declared.expr.Unknown.{Unknown}
use Rattle.flat_design.specs.declared.objects.Pair.{Pair}
use Rattle.design_meaning.specs.declared.fault.EvalFault.{EvalFault}
use Rattle.design_meaning.specs.Faults.{numeric}
use Rattle.design_meaning.specs.Readings.{Readings}
use Rattle.design_meaning.specs.Value.{number_of, value_of, slope_of, minus}
use Rattle.design_meaning.specs.Equations.{row_of, row_slope}
use Rattle.constant_slopes.specs.Constant.{constant_of, with_two, found}
use Rattle.constant_slopes.proofs.Whole.{constant_is_the_slope}
use Rattle.prepared_pairs.specs.Laws.{ConstantIsTheRowSlope}

-- a difference that was found has no fault
found_numeric : (x : Result ℤ NumFault) (z : ℤ) → found x ≡ Some z → numeric x ≡ Ok z
found_numeric (Ok y) z h = cc
found_numeric (Err e) z h = absurd (cc)

slopes_differ : (p : Pair) (r : Readings) (u : Unknown) (v w : Val) (z : ℤ) (a b : Option ℤ) → value_of p.left r ≡ Ok v → value_of p.right r ≡ Ok w
    → constant_of u p.left ≡ a → constant_of u p.right ≡ b → with_two difference_of a b ≡ Some z → row_slope (row_of p) r u ≡ Ok z
slopes_differ p r u v w z (Some x) (Some y) left right a b h =
    let first : slope_of p.left u r ≡ Ok x = constant_is_the_slope p.left u r v x left a in
    let second : slope_of p.right u r ≡ Ok y = constant_is_the_slope p.right u r w y right b in
    rw (first, second) (found_numeric (difference_of x y) z h)
slopes_differ p r u v w z None b left right e f h = absurd (cc)
slopes_differ p r u v w z (Some x) None left right e f h = absurd (cc)

pub constant_is_the_row_slope : ConstantIsTheRowSlope
constant_is_the_row_slope p r u residual z h k =
    at (value_of p.left r) (value_of p.right r) refl refl h
  where
    at : (a b : Result Val EvalFault) → value_of p.left r ≡ a → value_of p.right r ≡ b → and_then (λ x. and_then (λ y. minus x y) (number_of b)) (number_of a) ≡ Ok residual → row_slope (row_of p) r u ≡ Ok z
    at (Ok v) (Ok w) e f g = slopes_differ p r u v w z (constant_of u p.left) (constant_of u p.right) e f refl refl k
    at (Ok v) (Err q) e f g = absurd (cc)
    at (Err q) b e f g = absurd (cc)
