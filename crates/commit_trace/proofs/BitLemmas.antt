-- Bits of a content.
use Rattle.std.proofs.Common.{◌≡◌, ℕ, suc, ◌+◌, ◌/◌, ◌%◌, ◌^◌, ◌<◌, ◌≤◌, List, [], ◌∷◌, ◌++◌, nat_eq, nat_lt, length, take, drop, set, sym, ap, ◌∙◌, append_assoc, arith}
use Rattle.std.proofs.Math.Nat.{div-eq_of_lt, lt_of_lt_of_le}
use Rattle.std.proofs.Math.Pow.{pow_mono}
use Rattle.std.proofs.lemmas.List.{take_more_set, drop-set-lt}
use Rattle.trace_text.specs.Trace.{bit_text, bits_text}

-- a content of 64 bits has none that is set past them
pub no_bit_past : (content place : ℕ) → content < 2 ^ 64 → 64 ≤ place → nat_lt place 64 ≡ nat_eq (content / 2 ^ place % 2) 1
no_bit_past content place small past =
    let none : content / 2 ^ place ≡ 0 = div-eq_of_lt (lt_of_lt_of_le small (pow_mono past)) in
    rw none (grind arith)

-- a digit over a place, and the bits below it over the places behind
pub bits_put : (old new : List ℕ) (at count place content end digit : ℕ) → at < length old → at < end → count ≡ suc place →
    digit ∷ [] ≡ bit_text (nat_eq (content / 2 ^ place % 2) 1) →
    new ≡ take (at + 1) (set old at digit) ++ (bits_text place content ++ drop end (set old at digit)) →
    new ≡ take at old ++ (bits_text count content ++ drop end old)
bits_put old new at count place content end digit within behind next shown e =
    let bits = bits_text place content in
    let rest = drop end old in
    let kept : drop end (set old at digit) ≡ rest = drop-set-lt end old at digit behind in
    let put : take (at + 1) (set old at digit) ≡ take at old ++ digit ∷ [] = take_more_set old at digit within in
    e
    ∙ ap (λ (l : List ℕ). l ++ (bits ++ drop end (set old at digit))) put
    ∙ ap (λ (l : List ℕ). (take at old ++ digit ∷ []) ++ (bits ++ l)) kept
    ∙ append_assoc (take at old) (digit ∷ []) (bits ++ rest)
    ∙ ap (λ (l : List ℕ). take at old ++ (l ++ (bits ++ rest))) shown
    ∙ ap (λ (l : List ℕ). take at old ++ l) (sym (append_assoc (bit_text (nat_eq (content / 2 ^ place % 2) 1)) bits rest))
    ∙ ap (λ k. take at old ++ (bits_text k content ++ rest)) (sym next)
