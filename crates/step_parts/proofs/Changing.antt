-- The error of a step by the greatest change of a dot.
use Rattle.std.proofs.Common.{◌≡◌, ℕ, ◌+◌, ◌*◌, ◌<◌, ◌≤◌, ℤ, List, [], ◌∷◌, length, drop, get_or, inl, inr, refl, sym, ap, ◌∙◌, arith}
use Rattle.std.specs.Prelude.{max, ◌-ℤ◌, unsigned_abs}
use Rattle.std.proofs.Math.Nat.{mul-le-mul_left, lt_of_mul-lt-mul_right}
use Rattle.std.proofs.lemmas.Bool.{cases_lt}
use Rattle.std.proofs.lemmas.List.{drop_all}
use Rattle.fix_core.specs.Laws.{at_place, nearest_low, nearest_high}
use Rattle.fix_core.specs.Rounding.{nearest}
use Rattle.fix_core.specs.Units.{units_per_one, most_units}
use Rattle.design_meaning.specs.Steps.{step_error}
use Rattle.step_parts.specs.Changes.{largest_change}

-- ---- the greatest change, from the last place to the first

pub no_change : (before after : List ℤ) (i : ℕ) → length before ≤ i → largest_change (drop i before) (drop i after) ≡ 0
unfolding largest_change
no_change before after i h = let none : drop i before ≡ [] = drop_all i before h in rw none refl

pub change_here : (before after : List ℤ) (i : ℕ) (d e : ℤ) → i < length before → i < length after → d ≡ get_or before i d → e ≡ get_or after i e
    → largest_change (drop i before) (drop i after) ≡ max (unsigned_abs (e -ℤ d)) (largest_change (drop (i + 1) before) (drop (i + 1) after))
unfolding largest_change
change_here before after i d e hb ha rd re = rw (at_place before i d hb rd, at_place after i e ha re) refl

-- ---- rounding keeps the order

nearest-mono : (m n d : ℕ) → 0 < d → m ≤ n → nearest m d ≤ nearest n d
nearest-mono m n d h le =
    let p : ℕ = nearest m d in
    let q : ℕ = nearest n d in
    let low : 2 * (p * d) ≤ 2 * m + d = nearest_low m d in
    let high : 2 * n < 2 * (q * d) + d = nearest_high n d h in
    let small : p * d < (q + 1) * d = omega arith in
    let fewer : p < q + 1 = lt_of_mul-lt-mul_right d small in
    omega arith

nearest-max : (s a b d : ℕ) → 0 < d → max (nearest (s * a) d) (nearest (s * b) d) ≡ nearest (s * max a b) d
nearest-max s a b d h =
    elim (cases_lt a b) [
      | inl less ↦
          let top : max a b ≡ b = omega arith in
          let most = nearest-mono (s * a) (s * b) d h (mul-le-mul_left s (omega arith)) in
          rw top (omega (arith, most))
      | inr more ↦
          let top : max a b ≡ a = omega arith in
          let most = nearest-mono (s * b) (s * a) d h (mul-le-mul_left s more) in
          rw top (omega (arith, most))
    ]

nothing : (s : ℕ) → nearest (s * 0) (2 * units_per_one) ≡ 0
unfolding nearest
nothing s = let none : s * 0 ≡ 0 = omega arith in rw none refl

pub error_is : (s : ℕ) (before after : List ℤ) → step_error s before after ≡ nearest (s * largest_change before after) (2 * units_per_one)
unfolding largest_change
error_is s [] after = sym (nothing s)
error_is s (d ∷ before) [] = sym (nothing s)
error_is s (d ∷ before) (e ∷ after) =
    ap (max (nearest (s * unsigned_abs (e -ℤ d)) (2 * units_per_one))) (error_is s before after)
    ∙ nearest-max s (unsigned_abs (e -ℤ d)) (largest_change before after) (2 * units_per_one) (omega arith)

-- ---- what the code computes

pub product_small : (s c : ℕ) → s ≤ 1000000000000 → c ≤ 2 * most_units → s * c ≤ 2000000000000000000000000000000000000
product_small s c hs hc =
    let long : s * c ≤ s * (2 * most_units) = mul-le-mul_left s hc in
    omega (arith, long)

pub error_found : (s t c e : ℕ) (before after : List ℤ) → t ≡ s → c ≡ largest_change before after → e ≡ nearest (t * c) (2 * units_per_one) → e ≡ step_error s before after
error_found s t c e before after et ec ee =
    ee ∙ ap (λ k. nearest (k * c) (2 * units_per_one)) et ∙ ap (λ k. nearest (s * k) (2 * units_per_one)) ec ∙ sym (error_is s before after)
