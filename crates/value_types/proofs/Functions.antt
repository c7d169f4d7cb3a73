-- The ranges of what the predefined functions give.
use Rattle.std.proofs.Common.{◌≡◌, ◌≤◌, ◌<◌, ◌+◌, ◌*◌, ◌*ℤ◌, inl, inr, ℕ, zero, suc, ℤ, pos, negsuc, Bool, true, false, Result, Ok, Err, IfOk, arith, refl}
use Rattle.std.specs.Prelude.{unsigned_abs, int_lt, nat_le, if◌then◌else◌}
use Rattle.std.specs.Int.{int_div_euclid, int_rem_euclid}
use Rattle.std.proofs.lemmas.Int.{ints}
use Rattle.std.proofs.lemmas.Bool.Decides.{nat_tests}
use Rattle.std.proofs.lemmas.Nat.{mul-le}
use Rattle.std.proofs.lemmas.Bool.{cases_lt}
use Rattle.fix_core.specs.declared.NumFault.{NumFault}
use Rattle.fix_core.specs.declared.NumFault.TheVariants.{Overflow}
use Rattle.fix_core.specs.Passes.{and_then}
use Rattle.fix_core.specs.Rounding.{rnd}
use Rattle.fix_core.specs.Fixed.{one, IsInRange, ranged, product_of}
use Rattle.math_fix.specs.Functions.{series, exp_term, sin_term, cos_term, angle_of, exp_of, sin_of, cos_of, root, sqrt_of, multiplied_by, times_power_of_e}
use Rattle.math_fix.proofs.Cases.{root_low}
use Rattle.math_fix.proofs.Bounds.{turns_near, exp_series-le, sin_series-le, cos_series-le}
use Rattle.ams_value.specs.declared.fault.ValFault.{ValFault}
use Rattle.ams_value.specs.declared.fault.ValFault.TheVariants.{Range}
use Rattle.ams_value.specs.Values.{integer_of}

pub ok_then : {A B E : Type 0} (P : A → Type 0) (Q : B → Type 0) (f : A → Result B E) (m : Result A E) → IfOk m P → ((a : A) → P a → IfOk (f a) Q) → IfOk (and_then f m) Q
ok_then P Q f (Ok a) h more = more a h
ok_then P Q f (Err e) h more = tt

pub ok_if : {A E : Type 0} (P : A → Type 0) (t : Bool) (a b : Result A E) → IfOk a P → IfOk b P → IfOk (if t then a else b) P
ok_if P true a b h k = h
ok_if P false a b h k = k

ok_test : {A E : Type 0} (P : A → Type 0) (t : Bool) (a : A) (e : E) → (t ≡ true → P a) → IfOk (if t then Ok a else Err e) P
ok_test P true a e h = h refl
ok_test P false a e h = tt

pub at_most : (m n : ℕ) → nat_le m n ≡ true → m ≤ n
at_most m n h = grind (arith, nat_tests)

pub ranged_in : (z : ℤ) → IfOk (ranged z) IsInRange
unfolding ranged
ranged_in z = ok_test IsInRange (nat_le (unsigned_abs z) 1000000000000000000000000) z Overflow (λ h. at_most (unsigned_abs z) 1000000000000000000000000 h)

product_in : (a b : ℤ) → IfOk (product_of a b) IsInRange
unfolding product_of
product_in a b = ranged_in (rnd (a *ℤ b) one)

multiplied_in : (n : ℕ) (factor s : ℤ) → IsInRange s → IfOk (multiplied_by n factor s) IsInRange
unfolding multiplied_by
multiplied_in zero factor s h = h
multiplied_in (suc n) factor s h = ok_then IsInRange IsInRange (multiplied_by n factor) (product_of s factor) (product_in s factor) (λ t k. multiplied_in n factor t k)

times_power_in : (n s : ℤ) → IsInRange s → IfOk (times_power_of_e n s) IsInRange
times_power_in (pos n) s h = multiplied_in n (pos 2718281828459) s h
times_power_in (negsuc n) s h = multiplied_in (suc n) (pos 367879441171) s h

fraction_in : (x : ℤ) → unsigned_abs (int_rem_euclid x one) ≤ 1000000000000
fraction_in (pos a) = omega arith
fraction_in (negsuc a) = omega arith

exp_sum_in : (x : ℤ) → IsInRange (series (exp_term (int_rem_euclid x one)) 17)
exp_sum_in x = omega (arith, exp_series-le (int_rem_euclid x one) 17 (fraction_in x) (omega arith))

pub exp_in : (x : ℤ) → IfOk (exp_of x) IsInRange
unfolding exp_of
exp_in x =
    ok_if IsInRange (int_lt (pos 30) (int_div_euclid x one)) (Err Overflow)
    (if int_lt (int_div_euclid x one) (negsuc 39) then Ok (pos 0) else times_power_of_e (int_div_euclid x one) (series (exp_term (int_rem_euclid x one)) 17)) tt
    (ok_if IsInRange (int_lt (int_div_euclid x one) (negsuc 39)) (Ok (pos 0)) (times_power_of_e (int_div_euclid x one) (series (exp_term (int_rem_euclid x one)) 17)) (omega arith)
    (times_power_in (int_div_euclid x one) (series (exp_term (int_rem_euclid x one)) 17) (exp_sum_in x)))

angle_in : (x : ℤ) → unsigned_abs (angle_of x) ≤ 3141592653590
unfolding angle_of
angle_in x = omega (arith, turns_near x (rnd x (pos 6283185307180)) refl)

pub sin_in : (x : ℤ) → IsInRange (sin_of x)
unfolding sin_of
sin_in x = omega (arith, sin_series-le (angle_of x) 13 (angle_in x) (omega arith))

pub cos_in : (x : ℤ) → IsInRange (cos_of x)
unfolding cos_of
cos_in x = omega (arith, cos_series-le (angle_of x) 13 (angle_in x) (omega arith))

square_root-le : (r b : ℕ) → r * r ≤ b * b → r ≤ b
square_root-le r b h =
    elim (cases_lt b r) [
      | inl lt ↦ absurd (let more : suc b * suc b ≤ r * r = mul-le (suc b) (suc b) r r lt lt in grind arith)
      | inr le ↦ le
    ]

root_in : (n : ℕ) → n ≤ 1000000000000000000000000 → root (n * 1000000000000) ≤ 1000000000000000000
root_in n h = square_root-le (root (n * 1000000000000)) 1000000000000000000 (omega (arith, root_low (n * 1000000000000)))

pub sqrt_in : (x : ℤ) → IsInRange x → IfOk (sqrt_of x) IsInRange
unfolding sqrt_of
sqrt_in (pos n) h = omega (arith, root_in n (omega arith))
sqrt_in (negsuc n) h = tt

pub integer_in : (r : ℤ) → IfOk (integer_of r) (λ (i : ℤ). unsigned_abs i ≤ 2147483647)
unfolding integer_of
integer_in r = ok_test (λ (i : ℤ). unsigned_abs i ≤ 2147483647) (nat_le (unsigned_abs (rnd r one)) 2147483647) (rnd r one) Range (λ h. at_most (unsigned_abs (rnd r one)) 2147483647 h)
