-- The cases of exp, and roots.
use Rattle.std.proofs.Common.{◌≡◌, ℕ, zero, suc, ◌+◌, ◌*◌, ◌<◌, ◌≤◌, true, false, ℤ, pos, negsuc, ◌<ℤ◌, ◌≤ℤ◌, Ok, Err, refl, ◌⊎◌, inl, inr, arith}
use Rattle.std.proofs.lemmas.Int.{ints}
use Rattle.std.proofs.lemmas.Nat.{mul-le}
use Rattle.std.proofs.lemmas.Bool.{cases_lt}
use Rattle.std.proofs.lemmas.Bool.Decides.{leb_tells}
use Rattle.std.specs.Prelude.{unsigned_abs, int_lt}
use Rattle.std.specs.Int.{int_div_euclid, int_rem_euclid}
use Rattle.fix_core.specs.Units.{units_per_one}
use Rattle.fix_core.specs.declared.NumFault.TheVariants.{Overflow, Domain}
use Rattle.fix_core.specs.Fixed.{one}
use Rattle.math_fix.specs.Functions.{series, exp_term, exp_of, multiplied_by, times_power_of_e, root, sqrt_of, RootIsGreatest}

pub exp_high : (x : ℤ) → pos 30 <ℤ int_div_euclid x one → exp_of x ≡ Err Overflow
unfolding exp_of
exp_high x h = let t : int_lt (pos 30) (int_div_euclid x one) ≡ true = grind (arith, h) in rw t refl

pub exp_low : (x : ℤ) → int_div_euclid x one <ℤ negsuc 39 → exp_of x ≡ Ok (pos 0)
unfolding exp_of
exp_low x h =
    let f : int_lt (pos 30) (int_div_euclid x one) ≡ false = grind (arith, ints, h) in
    let t : int_lt (int_div_euclid x one) (negsuc 39) ≡ true = grind (arith, ints, h) in
    rw (f, t) refl

pub exp_between : (x : ℤ) → int_div_euclid x one ≤ℤ pos 30 → negsuc 39 ≤ℤ int_div_euclid x one → exp_of x ≡ times_power_of_e (int_div_euclid x one) (series (exp_term (int_rem_euclid x one)) 17)
unfolding exp_of
exp_between x h l =
    let f : int_lt (pos 30) (int_div_euclid x one) ≡ false = grind (arith, ints, h) in
    let g : int_lt (int_div_euclid x one) (negsuc 39) ≡ false = grind (arith, ints, l) in
    rw (f, g) refl

pub power_up : (n s : ℤ) → pos 0 ≤ℤ n → times_power_of_e n s ≡ multiplied_by (unsigned_abs n) (pos 2718281828459) s
power_up (pos n) s h = refl
power_up (negsuc n) s h = absurd (omega (arith, ints))

pub power_down : (n s : ℤ) → n <ℤ pos 0 → times_power_of_e n s ≡ multiplied_by (unsigned_abs n) (pos 367879441171) s
power_down (pos n) s h = absurd (omega (arith, ints))
power_down (negsuc n) s h = refl

-- ---- roots

root_next : (n : ℕ) → ((root (suc n) ≡ root n + 1) × ((root n + 1) * (root n + 1) ≤ suc n)) ⊎ ((root (suc n) ≡ root n) × (suc n < (root n + 1) * (root n + 1)))
unfolding root
root_next n =
    elim (leb_tells ((root n + 1) * (root n + 1)) (suc n)) [
      | inl t ↦ inl (rw t.0 refl, t.1)
      | inr f ↦ inr (rw f.0 refl, f.1)
    ]

root_zero : root 0 ≡ 0
unfolding root
root_zero = refl

pub root_low : (n : ℕ) → root n * root n ≤ n
root_low zero = rw root_zero (omega arith)
root_low (suc n) = elim (root_next n) [ inl t ↦ rw t.0 t.1 | inr f ↦ rw f.0 (omega (arith, root_low n)) ]

pub root_high : (n : ℕ) → n < (root n + 1) * (root n + 1)
root_high zero = rw root_zero (omega arith)
root_high (suc n) = elim (root_next n) [ inl t ↦ rw t.0 (omega (arith, root_high n)) | inr f ↦ rw f.0 f.1 ]

square_lt : (a b : ℕ) → a * a < b * b → a < b
square_lt a b h =
    elim (cases_lt a b) [ inl l ↦ l | inr ge ↦ let more : b * b ≤ a * a = mul-le b b a a ge ge in absurd (omega arith) ]

pub root_alone : (n r : ℕ) → r * r ≤ n → n < (r + 1) * (r + 1) → r ≡ root n
root_alone n r low high =
    let up : r < root n + 1 = square_lt r (root n + 1) (omega (arith, root_high n)) in
    let down : root n < r + 1 = square_lt (root n) (r + 1) (omega (arith, root_low n)) in
    omega arith

pub root_is_greatest : RootIsGreatest
root_is_greatest = record {
  greatest = λ n. record {
    square = root_low n;
    greatest = λ s le. let lt : s < root n + 1 = square_lt s (root n + 1) (omega (arith, root_high n)) in omega arith;
  };
  unique = λ n r i.
      root_alone n r i.square (elim (cases_lt n ((r + 1) * (r + 1))) [
        | inl lt ↦ lt
        | inr more ↦ let le : r + 1 ≤ r = i.greatest (r + 1) more in absurd (omega arith)
      ]);
}

pub sqrt_negative : (x : ℤ) → x <ℤ pos 0 → sqrt_of x ≡ Err Domain
unfolding sqrt_of
sqrt_negative (pos n) h = absurd (omega (arith, ints))
sqrt_negative (negsuc n) h = refl

pub sqrt_is : (x : ℤ) (r : ℕ) → pos 0 ≤ℤ x → r * r ≤ unsigned_abs x * units_per_one → unsigned_abs x * units_per_one < (r + 1) * (r + 1) → sqrt_of x ≡ Ok (pos r)
unfolding sqrt_of
sqrt_is (pos n) r h low high = rw (← (root_alone (n * units_per_one) r low high)) refl
sqrt_is (negsuc n) r h low high = absurd (omega (arith, ints))

pub ruleset roots = (sqrt_negative, sqrt_is)

pub ruleset exps = (exp_high, exp_low, exp_between, power_up, power_down)

pub ruleset greatest = (root_is_greatest)
