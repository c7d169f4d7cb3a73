-- The digits of a number of at most 32 bytes fit 128 bits.
use Rattle.std.proofs.Common.{◌≡◌, ℕ, zero, suc, ◌+◌, ◌-◌, ◌*◌, ◌^◌, ◌≤◌, ◌<◌, ◌⊎◌, Bool, true, false, cond, ◌&&◌, eqb, List, [], ◌∷◌, length, get_or, take, drop, refl, sym, ap, ◌∙◌, arith, inl, inr}
use Rattle.std.proofs.Math.Nat.{one-le-pow, pow-suc, pow-le-pow_right, mul-le-mul_left}
use Rattle.std.proofs.lemmas.Bool.{eq-eqb, cases_eq, or_cases, and_parts, eqb-true, ltb-true, ne_eqb}
use Rattle.std.proofs.lemmas.List.{drop_more}
use Rattle.std.specs.Char.{digit_value}
use Rattle.ams_lexer.specs.Runs.{begins, goes_on, IsRun}
use Rattle.ams_lexer.proofs.NumberLaws.{exponent_takes}
use Rattle.ams_lexer.specs.Numbers.{exponent_length, digit, IsDigits, value_after, IsExponent, unsigned}

pub larger : (n base d k m : ℕ) → m ≡ k + 1 → base ≤ 16 → n < 16 ^ k → d < base → n * base + d < 16 ^ m
larger n base d k m next small below digit =
    let e : 16 ^ m ≡ 16 ^ k * 16 = (let s : m ≡ suc k = omega arith in ap (λ (j : ℕ). 16 ^ j) s) ∙ pow-suc 16 k in
    let m = mul-le-mul_left n small in
    omega (arith, e, m)

pub fits : (k : ℕ) → k ≤ 32 → 16 ^ k ≤ 2 ^ 128
fits k h = pow-le-pow_right {n = 16} (omega arith) h

pub run_at : (p : ℕ → Bool) (w : List ℕ) (i : ℕ) → IsRun p w → i < length w → (p (get_or w i 0) ≡ true) ⊎ (get_or w i 0 ≡ 95)
run_at p [] i run h = absurd (omega arith)
run_at p (b ∷ w) zero run h =
    elim (or_cases (p b) (eqb b 95 && begins p w) run.0) [ inl e ↦ inl e | inr e ↦ inr (eqb-true b 95 (and_parts (eqb b 95) (begins p w) e).0) ]
run_at p (b ∷ w) (suc i) run h = run_at p w i run.1 (omega arith)

-- a byte of the digits that is no underscore
pub digit_below : (base : ℕ) (w : List ℕ) (i : ℕ) → IsRun (digit base) w → i < length w → (get_or w i 0 ≡ 95 → ⊥) → digit_value (get_or w i 0) < base
digit_below base w i run h none =
    elim (run_at (digit base) w i run h) [ inl e ↦ ltb-true (digit_value (get_or w i 0)) base e | inr e ↦ absurd (none e) ]

pub value_after-digit : (base n : ℕ) (w : List ℕ) (i : ℕ) → i < length w → (get_or w i 0 ≡ 95 → ⊥) → value_after base n (drop i w) ≡ value_after base (n * base + digit_value (get_or w i 0)) (drop (i + 1) w)
value_after-digit base n w i h none =
    let e = drop_more w i 0 h in
    let no = ne_eqb (get_or w i 0) 95 none in
    ap (value_after base n) e ∙ rw (no, value_after) refl

pub value_after-underscore : (base n : ℕ) (w : List ℕ) (i : ℕ) → i < length w → get_or w i 0 ≡ 95 → value_after base n (drop i w) ≡ value_after base n (drop (i + 1) w)
value_after-underscore base n w i h is =
    let e = drop_more w i 0 h in
    ap (value_after base n) (e ∙ ap (λ (b : ℕ). b ∷ drop (i + 1) w) is)

-- an exponent that takes no minus is an exponent
unsigned-plain : (w : List ℕ) → IsDigits 10 (unsigned false w) → unsigned true w ≡ unsigned false w
unsigned-plain [] h = refl
unsigned-plain (b ∷ w) h =
    elim (cases_eq b 45) [
      | inl e ↦ absurd (let t : false ≡ true = ap (λ (c : ℕ). begins (digit 10) (unsigned false (c ∷ w))) (sym e) ∙ h.0 in cc)
      | inr e ↦ let no = ne_eqb b 45 e in rw no refl
    ]

pub same_room : (n k m : ℕ) → m ≡ k + 1 → n < 16 ^ k → n < 16 ^ m
same_room n k m next below =
    let e : 16 ^ m ≡ 16 ^ k * 16 = (let s : m ≡ suc k = omega arith in ap (λ (j : ℕ). 16 ^ j) s) ∙ pow-suc 16 k in
    omega (arith, e)

pub exponent_signed : (w : List ℕ) → IsExponent false w → IsExponent true w
exponent_signed [] is = tt
exponent_signed (b ∷ w) is = (is.0, rw (unsigned-plain w is.1) is.1)

pub power_positive : (k : ℕ) → 0 < 16 ^ k
power_positive k = one-le-pow k 16 (omega arith)

value_bound_if : (base n k b : ℕ) (w : List ℕ) → base ≤ 16 → n < 16 ^ k → goes_on (digit base) (b ∷ w) ≡ true → cond (eqb b 95) n (n * base + digit_value b) < 16 ^ (k + 1)
value_bound_if base n k b w small below on =
    elim (cases_eq b 95) [
      | inl e ↦ let t = eq-eqb b 95 e in rw t (same_room n k (k + 1) refl below)
      | inr none ↦
          let no = ne_eqb b 95 none in
          let d : digit base b ≡ true = elim (or_cases (digit base b) (eqb b 95 && begins (digit base) w) on) [
            | inl e ↦ e
            | inr e ↦ absurd (none (eqb-true b 95 (and_parts (eqb b 95) (begins (digit base) w) e).0))
          ] in
          rw no (larger n base (digit_value b) k (k + 1) refl small below (ltb-true (digit_value b) base d))
    ]

pub value_bound : (base : ℕ) (w : List ℕ) (n k : ℕ) → base ≤ 16 → n < 16 ^ k → IsRun (digit base) w → value_after base n w < 16 ^ (k + length w)
value_bound base [] n k small below run = let e : k + 0 ≡ k = omega arith in rw e below
value_bound base (b ∷ w) n k small below run =
    let e : k + suc (length w) ≡ (k + 1) + length w = omega arith in
    let first = value_bound_if base n k b w small below run.0 in
    rw e (value_bound base w (cond (eqb b 95) n (n * base + digit_value b)) (k + 1) small first run.1)

-- the whole part of a real number leaves room for its fraction
pub room_left : (w : List ℕ) (more : ℕ) → IsRun (digit 10) w → length w + more ≤ 32 → value_after 10 0 w < 16 ^ (32 - more)
room_left w more run short =
    let below = value_bound 10 w 0 0 (omega arith) (omega arith) run in
    let top : 16 ^ (0 + length w) ≤ 16 ^ (32 - more) = pow-le-pow_right {n = 16} (omega arith) (omega arith) in
    omega (arith, below, top)

exponent_as : (signed : Bool) (w : List ℕ) → IsExponent signed w → IsExponent true w
exponent_as true w is = is
exponent_as false w is = exponent_signed w is

pub exponent_spelled : (signed : Bool) (bs : List ℕ) → IsExponent true (take (exponent_length signed bs) bs)
exponent_spelled signed bs = exponent_as signed (take (exponent_length signed bs) bs) (exponent_takes signed bs)
