-- Powers, and the contents of vectors.
use Rattle.std.proofs.Common.{◌≡◌, ℕ, zero, suc, ◌+◌, ◌-◌, ◌*◌, ◌/◌, ◌^◌, ◌<◌, ◌≤◌, nat_le, Bool, true, false, if◌then◌else◌, Option, Some, None, IfSome, arith, refl, sym, ap, ◌∙◌, subst}
use Rattle.std.proofs.lemmas.Bool.Decides.{nat_tests}
use Rattle.std.proofs.Math.Nat.{pow-zero, pow-succ', mul-zero, mul-one, zero-mul, mul_assoc, div-div-eq-div-mul, one-le-pow, mul-le-mul_left, pow-le-pow_right}
use Rattle.expr_types.specs.Known.{limited}

one_more : (e : ℕ) → 0 < e → e ≡ suc (e - 1)
one_more e h = omega arith

pub raised_none : (d b e : ℕ) → d ≡ 0 → d * b ^ e ≡ d
raised_none d b e h = ap (λ x. x * b ^ e) h ∙ (zero-mul (b ^ e) ∙ sym h)

pub raised_last : (d b e : ℕ) → e ≡ 0 → d * b ^ e ≡ d
raised_last d b e h = ap (λ k. d * b ^ k) h ∙ (ap (λ x. d * x) (pow-zero b) ∙ mul-one d)

pub raised_step : (d b e : ℕ) → 0 < e → d * b * b ^ (e - 1) ≡ d * b ^ e
raised_step d b e h = sym (ap (λ k. d * b ^ k) (one_more e h) ∙ (ap (λ x. d * x) (pow-succ' b (e - 1)) ∙ sym (mul_assoc d b (b ^ (e - 1)))))

positive : (d b : ℕ) → 0 < d * b → 0 < b
positive d zero h =
    let e : d * 0 ≡ 0 = mul-zero d in
    omega arith
positive d (suc b) h = omega arith

grows : (x p : ℕ) → 1 ≤ p → x ≤ x * p
grows x p h = subst (λ y. y ≤ x * p) (mul-one x) (mul-le-mul_left x h)

above_limit : (limit v : ℕ) → limit < v → limited limit v ≡ None
above_limit limit v h =
    let e : nat_le v limit ≡ false = grind (arith, nat_tests) in
    ap (λ b. if b then Some v else None) e

pub raised_over : (limit d b e : ℕ) → 0 < e → limit < d * b → limited limit (d * b ^ e) ≡ None
raised_over limit d b e h g =
    let here : 0 < b = positive d b (omega arith) in
    let more : d * b ≤ d * b * b ^ (e - 1) = grows (d * b) (b ^ (e - 1)) (one-le-pow (e - 1) b here) in
    let same : d * b * b ^ (e - 1) ≡ d * b ^ e = raised_step d b e h in
    above_limit limit (d * b ^ e) (omega arith)

pub lowered_none : (m e : ℕ) → m ≡ 0 → m / 10 ^ e ≡ m
lowered_none m e h = ap (λ x. x / 10 ^ e) h ∙ (nothing (10 ^ e) ∙ sym h)
  where
    nothing : (x : ℕ) → 0 / x ≡ 0
    nothing x = grind arith

pub lowered_last : (m e : ℕ) → e ≡ 0 → m / 10 ^ e ≡ m
lowered_last m e h = ap (λ k. m / 10 ^ k) h ∙ grind arith

pub lowered_step : (m e : ℕ) → 0 < e → m / 10 / 10 ^ (e - 1) ≡ m / 10 ^ e
lowered_step m e h = div-div-eq-div-mul m 10 (10 ^ (e - 1)) ∙ sym (ap (λ k. m / 10 ^ k) (one_more e h) ∙ ap (λ x. m / x) (pow-succ' 10 (e - 1)))

twice : (i : ℕ) → 2 ^ (i + 1) ≡ 2 * 2 ^ i
twice i = ap (λ k. 2 ^ k) more ∙ pow-succ' 2 i
  where
    more : i + 1 ≡ suc i
    more = omega arith

pub even_bound : (i a : ℕ) → a < 2 ^ i → 2 * a < 2 ^ (i + 1)
even_bound i a h =
    let e : 2 ^ (i + 1) ≡ 2 * 2 ^ i = twice i in
    omega arith

pub odd_bound : (i a : ℕ) → a < 2 ^ i → 2 * a + 1 < 2 ^ (i + 1)
odd_bound i a h =
    let e : 2 ^ (i + 1) ≡ 2 * 2 ^ i = twice i in
    omega arith

-- fewer than 64 elements leave room for one more
pub small_content : (o : Option ℕ) (i n : ℕ) → i < n → n ≤ 64 → IfSome o (λ a. a < 2 ^ i) → IfSome o (λ a. a < 9223372036854775808)
small_content None i n h k g = tt
small_content (Some a) i n h k g =
    let small : i ≤ 63 = omega arith in
    let m : 2 ^ i ≤ 2 ^ 63 = pow-le-pow_right (omega arith) small in
    omega arith
