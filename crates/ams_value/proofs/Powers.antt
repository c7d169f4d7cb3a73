-- Powers, product by product.
use Rattle.std.proofs.Common.{◌≡◌, ℕ, zero, suc, ◌+◌, ◌-◌, ◌<◌, ◌≤◌, ℤ, pos, negsuc, ◌*ℤ◌, ◌<ℤ◌, ◌≤ℤ◌, Ok, Err, refl, ◌∙◌, add-one, arith}
use Rattle.std.proofs.lemmas.Int.{ints}
use Rattle.std.specs.Prelude.{unsigned_abs, Result}
use Rattle.fix_core.specs.declared.NumFault.{NumFault}
use Rattle.fix_core.specs.Fixed.{one, product_of}
use Rattle.ams_value.specs.Ranges.{most_integer}
use Rattle.ams_value.specs.declared.fault.ValFault.{ValFault}
use Rattle.ams_value.specs.declared.fault.ValFault.TheVariants.{Range, Overflow}
use Rattle.ams_value.specs.declared.val.Val.{Val}
use Rattle.ams_value.specs.declared.val.Val.TheVariants.{Int, Real}
use Rattle.ams_value.specs.Values.{integer_product, powers, integer_powers, real_powers, with_exponent, power_value, integer_result, real_result}

pub product_is : (a b : ℤ) → unsigned_abs (a *ℤ b) ≤ most_integer → integer_product a b ≡ Ok (a *ℤ b)
unfolding integer_product
product_is a b h = grind arith

pub product_past : (a b : ℤ) → most_integer < unsigned_abs (a *ℤ b) → integer_product a b ≡ Err Overflow
unfolding integer_product
product_past a b h = grind arith

pub ruleset products = (product_is, product_past)

more : {E : Type 0} (times : ℤ → ℤ → Result ℤ E) (unit a p : ℤ) (k : ℕ) → 0 < k → powers times unit a k ≡ Ok p → powers times unit a (k + 1) ≡ times p a
unfolding powers
more times unit a p zero h e = absurd (omega arith)
more times unit a p (suc k) h e = rw (add-one (suc k), e) refl

fails_next : {E : Type 0} (times : ℤ → ℤ → Result ℤ E) (unit a : ℤ) (f : E) (k : ℕ) → 0 < k → powers times unit a k ≡ Err f → powers times unit a (suc k) ≡ Err f
unfolding powers
fails_next times unit a f zero h e = absurd (omega arith)
fails_next times unit a f (suc k) h e = rw e refl

fails : {E : Type 0} (times : ℤ → ℤ → Result ℤ E) (unit a : ℤ) (f : E) (k m n : ℕ) → 0 < k → n ≡ m + k → powers times unit a k ≡ Err f → powers times unit a n ≡ Err f
fails times unit a f k zero n h s e = let same : n ≡ k = omega arith in rw same e
fails times unit a f k (suc m) n h s e =
    let before : powers times unit a (m + k) ≡ Err f = fails times unit a f k m (m + k) h refl e in
    let same : n ≡ suc (m + k) = omega arith in
    rw same (fails_next times unit a f (m + k) (omega arith) before)

pub integer_none : (a : ℤ) → integer_powers a 0 ≡ Ok (pos 1)
unfolding integer_powers powers
integer_none a = refl

pub integer_one : (a : ℤ) → integer_powers a 1 ≡ Ok a
unfolding integer_powers powers
integer_one a = refl

pub integer_more : (a p q : ℤ) (k : ℕ) → 0 < k → integer_powers a k ≡ Ok p → integer_product p a ≡ Ok q → integer_powers a (k + 1) ≡ Ok q
unfolding integer_powers
integer_more a p q k h e f = more integer_product (pos 1) a p k h e ∙ f

pub integer_fails : (a p : ℤ) (f : ValFault) (k n : ℕ) → 0 < k → k < n → integer_powers a k ≡ Ok p → integer_product p a ≡ Err f → integer_powers a n ≡ Err f
unfolding integer_powers
integer_fails a p f k n h lt e g = fails integer_product (pos 1) a f (k + 1) (n - (k + 1)) n (omega arith) (omega arith) (more integer_product (pos 1) a p k h e ∙ g)

pub ruleset integers = (integer_none, integer_one, integer_more, integer_fails)

pub real_none : (a : ℤ) → real_powers a 0 ≡ Ok one
unfolding real_powers powers
real_none a = refl

pub real_one : (a : ℤ) → real_powers a 1 ≡ Ok a
unfolding real_powers powers
real_one a = refl

pub real_more : (a p q : ℤ) (k : ℕ) → 0 < k → real_powers a k ≡ Ok p → product_of p a ≡ Ok q → real_powers a (k + 1) ≡ Ok q
unfolding real_powers
real_more a p q k h e f = more product_of one a p k h e ∙ f

pub real_fails : (a p : ℤ) (f : NumFault) (k n : ℕ) → 0 < k → k < n → real_powers a k ≡ Ok p → product_of p a ≡ Err f → real_powers a n ≡ Err f
unfolding real_powers
real_fails a p f k n h lt e g = fails product_of one a f (k + 1) (n - (k + 1)) n (omega arith) (omega arith) (more product_of one a p k h e ∙ g)

pub ruleset reals = (real_none, real_one, real_more, real_fails)

with_small : (n : ℤ) (power : ℕ → Result Val ValFault) → pos 0 ≤ℤ n → n ≤ℤ pos 64 → with_exponent n power ≡ power (unsigned_abs n)
unfolding with_exponent
with_small (pos n) power h g = let le : n ≤ 64 = omega (arith, ints) in grind arith
with_small (negsuc n) power h g = absurd (omega (arith, ints))

with_negative : (n : ℤ) (power : ℕ → Result Val ValFault) → n <ℤ pos 0 → with_exponent n power ≡ Err Range
unfolding with_exponent
with_negative (pos n) power h = absurd (omega (arith, ints))
with_negative (negsuc n) power h = refl

with_large : (n : ℤ) (power : ℕ → Result Val ValFault) → pos 64 <ℤ n → with_exponent n power ≡ Err Range
unfolding with_exponent
with_large (pos n) power h = let lt : 64 < n = omega (arith, ints) in grind arith
with_large (negsuc n) power h = absurd (omega (arith, ints))

pub negative_exponent : (a : Val) (n : ℤ) → n <ℤ pos 0 → power_value a (Int n) ≡ Err Range
unfolding power_value
negative_exponent (Int a) n h = with_negative n (λ k. integer_result (integer_powers a k)) h
negative_exponent (Real a) n h = with_negative n (λ k. real_result (real_powers a k)) h
negative_exponent _ n h = refl

pub large_exponent : (a : Val) (n : ℤ) → pos 64 <ℤ n → power_value a (Int n) ≡ Err Range
unfolding power_value
large_exponent (Int a) n h = with_large n (λ k. integer_result (integer_powers a k)) h
large_exponent (Real a) n h = with_large n (λ k. real_result (real_powers a k)) h
large_exponent _ n h = refl

pub integer_exponent : (a n : ℤ) → pos 0 ≤ℤ n → n ≤ℤ pos 64 → power_value (Int a) (Int n) ≡ integer_result (integer_powers a (unsigned_abs n))
unfolding power_value
integer_exponent a n h g = with_small n (λ k. integer_result (integer_powers a k)) h g

pub real_exponent : (a n : ℤ) → pos 0 ≤ℤ n → n ≤ℤ pos 64 → power_value (Real a) (Int n) ≡ real_result (real_powers a (unsigned_abs n))
unfolding power_value
real_exponent a n h g = with_small n (λ k. real_result (real_powers a k)) h g

pub ruleset exponents = (negative_exponent, large_exponent, integer_exponent, real_exponent)
