-- Operations on 0.
use Rattle.std.proofs.Common.{◌≡◌, ℕ, Bool, true, false, ℤ, pos, negsuc, ◌+ℤ◌, ◌-ℤ◌, ◌*ℤ◌, Option, Some, None, Result, Ok, Err, refl, sym, ◌∙◌, ap, arith}
use Rattle.std.specs.Prelude.{unsigned_abs, nat_eq, nat_le, if◌then◌else◌}
use Rattle.std.proofs.Math.IntN.{*ℤ-zero, *ℤ_comm}
use Rattle.std.proofs.lemmas.Int.{ints}
use Rattle.std.proofs.lemmas.Bool.Decides.{nat_tests}
use Rattle.fix_core.specs.declared.NumFault.{NumFault}
use Rattle.fix_core.specs.Rounding.{rnd, nearest}
use Rattle.fix_core.specs.Fixed.{one, ranged, sum_of, product_of}
use Rattle.constant_slopes.specs.Constant.{is_zero}

is_none : (n : ℕ) → nat_eq n 0 ≡ true → n ≡ 0
is_none n h = grind (arith, nat_tests)

size_zero : (z : ℤ) → unsigned_abs z ≡ 0 → z ≡ pos 0
size_zero (pos n) h = ap pos h
size_zero (negsuc n) h = absurd (omega arith)

pub zero_is : (s : Option ℤ) → is_zero s ≡ true → s ≡ Some (pos 0)
zero_is (Some z) h = ap Some (size_zero z (is_none (unsigned_abs z) h))
zero_is None h = absurd (cc)

pub times_zero : (x : ℤ) → product_of x (pos 0) ≡ Ok (pos 0)
unfolding product_of ranged rnd nearest
times_zero x = rw (*ℤ-zero x) refl

pub zero_times : (x : ℤ) → product_of (pos 0) x ≡ Ok (pos 0)
unfolding product_of ranged rnd nearest
zero_times x = rw (*ℤ_comm (pos 0) x, *ℤ-zero x) refl

pub zero_sum : sum_of (pos 0) (pos 0) ≡ Ok (pos 0)
unfolding sum_of ranged
zero_sum = refl
