-- The numbers of drivers.
use Rattle.std.proofs.Common.{◌≡◌, ℕ, suc, ◌<◌, ◌≤◌, ◌+◌, Bool, true, false, List, [], ◌∷◌, length, get_or, set, drop, inl, inr, refl, sym, ap, subst, ◌∙◌, arith}
use Rattle.std.specs.Prelude.{Some, None, unwrap_or, nat_lt, nat_eq, cond}
use Rattle.std.specs.List.{All}
use Rattle.std.proofs.lemmas.Bool.{cases_eq}
use Rattle.std.proofs.lemmas.Bool.Decides.{nat_tests}
use Rattle.std.proofs.lemmas.List.Recursion.{is_position_or_len}
use Rattle.std.proofs.lemmas.List.{get_or-set_same, get_or-set_other, length-set, drop_all}
use Rattle.std.proofs.lemmas.List.Elements.{All-head, All-tail}
use Rattle.fix_core.specs.Laws.{at_place}
use Rattle.driver_set.specs.Numbers.{number_of}

-- the first place at which a signal stands, by recursion
abbrev pub first_in : ℕ → List ℕ → ℕ
first_in i [] = 0
first_in i (x ∷ xs) = cond (nat_eq i x) 0 (suc (first_in i xs))

first_in-le : (i : ℕ) (xs : List ℕ) → first_in i xs ≤ length xs
first_in-le i [] = omega arith
first_in-le i (x ∷ xs) = at (nat_eq i x) (first_in-le i xs)
  where
    at : (b : Bool) → first_in i xs ≤ length xs → cond b 0 (suc (first_in i xs)) ≤ length (x ∷ xs)
    at true h = omega arith
    at false h = omega (arith, h)

found_or_end : (k n : ℕ) → k ≤ n → unwrap_or (cond (nat_lt k n) (Some k) None) n ≡ k
found_or_end k n h = grind (arith, nat_tests)

one_more : (k : ℕ) → suc k ≡ 1 + k
one_more k = omega arith

pub number_is_first : (i : ℕ) (xs : List ℕ) → number_of xs i ≡ first_in i xs
number_is_first i xs =
    let same = is_position_or_len (first_in i) (nat_eq i) refl (λ x more. ap (cond (nat_eq i x) 0) (one_more (first_in i more))) xs in
    rw (← same) (found_or_end (first_in i xs) (length xs) (first_in-le i xs))

same_number : (i x : ℕ) → i ≡ x → nat_eq i x ≡ true
same_number i x e = grind (arith, nat_tests)

other_number : (i x : ℕ) → (i ≡ x → ⊥) → nat_eq i x ≡ false
other_number i x e = grind (arith, nat_tests)

-- ---- a driven signal is one of the signals

first_inside : (i n : ℕ) (xs : List ℕ) → first_in i xs < length xs → All (λ (j : ℕ). j < n) xs → i < n
first_inside i n [] h all = absurd (omega arith)
first_inside i n (x ∷ xs) h all =
    elim (cases_eq i x) [
      | inl same ↦ let here : x < n = All-head (λ (j : ℕ). j < n) x xs all in omega arith
      | inr other ↦
          let past : first_in i (x ∷ xs) ≡ suc (first_in i xs) = rw (other_number i x other) refl in
          first_inside i n xs (omega arith) (All-tail (λ (j : ℕ). j < n) x xs all)
    ]

pub driven_inside : (xs : List ℕ) (i n : ℕ) → number_of xs i < length xs → All (λ (j : ℕ). j < n) xs → i < n
driven_inside xs i n h all = first_inside i n xs (subst (λ (k : ℕ). k < length xs) (number_is_first i xs) h) all

-- ---- the numbers from behind: those of the driven signals from a place on

-- the number of a signal, as long as the driven signals from a place on are numbered alone
abbrev pub AreFrom : ℕ → List ℕ → List ℕ → Type 0
AreFrom k driven numbers = (i : ℕ) → i < length numbers → get_or numbers i 0 ≡ k + number_of (drop k driven) i

hit : (k : ℕ) (i d : ℕ) (rest : List ℕ) → i ≡ d → k + first_in i (d ∷ rest) ≡ k
hit k i d rest e = rw (same_number i d e) (omega arith)

miss : (k : ℕ) (i d : ℕ) (rest : List ℕ) → (i ≡ d → ⊥) → k + first_in i (d ∷ rest) ≡ (k + 1) + first_in i rest
miss k i d rest e = rw (other_number i d e) (omega arith)

pub one_less : (driven numbers : List ℕ) (n d : ℕ) → n < length driven → d ≡ get_or driven n d → d < length numbers → AreFrom (n + 1) driven numbers → AreFrom n driven (set numbers d n)
one_less driven numbers n d h is inside before = λ i hi.
    let long : i < length numbers = omega (arith, length-set {A = ℕ}) in
    let cut : drop n driven ≡ d ∷ drop (n + 1) driven = at_place driven n d h is in
    let whole : number_of (drop n driven) i ≡ first_in i (d ∷ drop (n + 1) driven) = number_is_first i (drop n driven) ∙ ap (first_in i) cut in
    elim (cases_eq i d) [
      | inl same ↦
          let read : get_or (set numbers d n) i 0 ≡ n = rw same (get_or-set_same numbers d n 0 inside) in
          read ∙ sym (hit n i d (drop (n + 1) driven) same) ∙ ap (λ (k : ℕ). n + k) (sym whole)
      | inr other ↦
          let read : get_or (set numbers d n) i 0 ≡ get_or numbers i 0 = get_or-set_other numbers d i n 0 other in
          let earlier : get_or numbers i 0 ≡ (n + 1) + first_in i (drop (n + 1) driven) = before i long ∙ ap (λ (k : ℕ). (n + 1) + k) (number_is_first i (drop (n + 1) driven)) in
          read ∙ earlier ∙ sym (miss n i d (drop (n + 1) driven) other) ∙ ap (λ (k : ℕ). n + k) (sym whole)
    ]

-- none of them is numbered
pub none_numbered : (driven numbers : List ℕ) (n : ℕ) → n ≡ length driven → ((i : ℕ) → i < length numbers → get_or numbers i 0 ≡ n) → AreFrom n driven numbers
none_numbered driven numbers n e all = λ i h.
    let gone : drop n driven ≡ [] = drop_all n driven (omega arith) in
    let none : number_of (drop n driven) i ≡ 0 = ap (λ (xs : List ℕ). number_of xs i) gone in
    let read : get_or numbers i 0 ≡ n = all i h in
    omega arith
