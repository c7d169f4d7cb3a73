-- Members of rising lists of numbers.
use Rattle.std.proofs.Common.{◌≡◌, ◌≢◌, ◌⊎◌, inl, inr, refl, ap, sym, ◌∙◌, ℕ, zero, suc, ◌+◌, ◌-◌, ◌<◌, ◌≤◌, Bool, true, false, ◌||◌, nat_eq, List, [], ◌∷◌, ◌++◌, length, take, get_or, add-one, arith}
use Rattle.std.specs.List.{Contains}
use Rattle.std.specs.List.Sorted.{IsStrictlyIncreasing}
use Rattle.std.proofs.Math.Seq.{take-suc}
use Rattle.std.proofs.lemmas.Bool.{cases_lt}
use Rattle.std.proofs.lemmas.Bool.Decides.{nat_tests}
use Rattle.std.proofs.lemmas.List.{get_or_default}
use Rattle.resumption_calls.specs.Calls.{is_called}

pub either : (b : Bool) → (b ≡ true) ⊎ (b ≡ false)
either true = inl refl
either false = inr refl

same_number : (j x : ℕ) → nat_eq j x ≡ true → j ≡ x
same_number j x h = grind (arith, nat_tests)

is_same : (j x : ℕ) → j ≡ x → nat_eq j x ≡ true
is_same j x h = grind (arith, nat_tests)

or_left : (a b : Bool) → a ≡ true → (a || b) ≡ true
or_left true b h = refl
or_left false b h = absurd (cc)

or_right : (a b : Bool) → b ≡ true → (a || b) ≡ true
or_right true b h = refl
or_right false b h = h

or_cases : (a b : Bool) → (a || b) ≡ true → (a ≡ true) ⊎ (b ≡ true)
or_cases true b h = inl refl
or_cases false b h = inr h

neither : (a b : Bool) → (a || b) ≡ false → (a ≡ false) × (b ≡ false)
neither true b h = absurd (cc)
neither false b h = (refl, h)

-- a member has a place
pub place_of : (j : ℕ) (xs : List ℕ) → is_called xs j ≡ true → (p : ℕ) × (p < length xs) × (get_or xs p 0 ≡ j)
place_of j [] h = absurd (cc)
place_of j (x ∷ xs) h =
    elim (or_cases (nat_eq j x) (is_called xs j) h) [
      | inl here ↦ (0, omega arith, sym (same_number j x here))
      | inr later ↦ let more = place_of j xs later in (suc more.0, omega (arith, more.1), more.2)
    ]

pub contains_called : (j : ℕ) (xs : List ℕ) → is_called xs j ≡ true → Contains xs j
contains_called j xs h = let there = place_of j xs h in (there.0, there.1, get_or_default xs there.0 j 0 there.1 ∙ there.2)

pub member_at : (j : ℕ) (xs : List ℕ) (p : ℕ) → p < length xs → get_or xs p 0 ≡ j → is_called xs j ≡ true
member_at j [] p h is = absurd (omega arith)
member_at j (x ∷ xs) zero h is = or_left (nat_eq j x) (is_called xs j) (is_same j x (sym is))
member_at j (x ∷ xs) (suc p) h is = or_right (nat_eq j x) (is_called xs j) (member_at j xs p (omega arith) is)

-- one more in front of the end
front_more : (xs : List ℕ) (i j : ℕ) → i < length xs → is_called (take (i + 1) xs) j ≡ (is_called (take i xs) j || nat_eq j (get_or xs i 0))
front_more xs i j h = ap (λ n. is_called (take n xs) j) (add-one i) ∙ (ap (λ (z : List ℕ). is_called z j) (take-suc xs i 0 h) ∙ any_last (take i xs) (get_or xs i 0))
  where
    any_last : (ys : List ℕ) (y : ℕ) → is_called (ys ++ y ∷ []) j ≡ (is_called ys j || nat_eq j y)
    any_last [] y = or_none (nat_eq j y)
      where
        or_none : (b : Bool) → (b || false) ≡ b
        or_none true = refl
        or_none false = refl
    any_last (z ∷ ys) y = ap (λ b. nat_eq j z || b) (any_last ys y) ∙ or_assoc (nat_eq j z) (is_called ys j) (nat_eq j y)
      where
        or_assoc : (a b c : Bool) → (a || (b || c)) ≡ ((a || b) || c)
        or_assoc true b c = refl
        or_assoc false b c = refl

pub front_last : (xs : List ℕ) (i j : ℕ) → i < length xs → is_called (take (i + 1) xs) j ≡ true → (is_called (take i xs) j ≡ true) ⊎ (j ≡ get_or xs i 0)
front_last xs i j h is =
    elim (or_cases (is_called (take i xs) j) (nat_eq j (get_or xs i 0)) (sym (front_more xs i j h) ∙ is)) [
      | inl before ↦ inl before
      | inr last ↦ inr (same_number j (get_or xs i 0) last)
    ]

pub front_not : (xs : List ℕ) (i j : ℕ) → i < length xs → is_called (take (i + 1) xs) j ≡ false → (is_called (take i xs) j ≡ false) × (j ≢ get_or xs i 0)
front_not xs i j h is =
    let both : (is_called (take i xs) j ≡ false) × (nat_eq j (get_or xs i 0) ≡ false) = neither (is_called (take i xs) j) (nat_eq j (get_or xs i 0)) (sym (front_more xs i j h) ∙ is) in
    (both.0, λ same. let yes : nat_eq j (get_or xs i 0) ≡ true = is_same j (get_or xs i 0) same in let no : nat_eq j (get_or xs i 0) ≡ false = both.1 in cc)

pub front_of_none : (xs : List ℕ) (i j : ℕ) → is_called xs j ≡ false → is_called (take i xs) j ≡ false
front_of_none [] zero j h = refl
front_of_none [] (suc i) j h = refl
front_of_none (x ∷ xs) zero j h = refl
front_of_none (x ∷ xs) (suc i) j h =
    let both : (nat_eq j x ≡ false) × (is_called xs j ≡ false) = neither (nat_eq j x) (is_called xs j) h in
    ap (λ b. b || is_called (take i xs) j) both.0 ∙ front_of_none xs i j both.1

-- in a rising list what is less stands in front
rising : (xs : List ℕ) → IsStrictlyIncreasing xs → (a n : ℕ) → a + n < length xs → get_or xs a 0 ≤ get_or xs (a + n) 0
rising xs rises a zero h = let same : a + 0 ≡ a = omega arith in rw same (omega arith)
rising xs rises a (suc n) h =
    let more : get_or xs a 0 ≤ get_or xs (a + n) 0 = rising xs rises a n (omega arith) in
    let last : get_or xs (a + n) 0 < get_or xs (a + n + 1) 0 = rises (a + n) (omega arith) in
    let same : a + suc n ≡ a + n + 1 = omega arith in
    rw same (omega arith)

not_before : (xs : List ℕ) → IsStrictlyIncreasing xs → (i p : ℕ) → p < length xs → i ≤ p → get_or xs i 0 ≤ get_or xs p 0
not_before xs rises i p h le =
    let same : i + (p - i) ≡ p = omega arith in
    let at : get_or xs i 0 ≤ get_or xs (i + (p - i)) 0 = rising xs rises i (p - i) (omega arith) in
    rw same at at

front_at : (xs : List ℕ) (i p : ℕ) → p < i → get_or (take i xs) p 0 ≡ get_or xs p 0
front_at [] zero p h = refl
front_at [] (suc i) p h = refl
front_at (x ∷ xs) zero p h = absurd (omega arith)
front_at (x ∷ xs) (suc i) zero h = refl
front_at (x ∷ xs) (suc i) (suc p) h = front_at xs i p (omega arith)

front_length : (xs : List ℕ) (i p : ℕ) → p < i → p < length xs → p < length (take i xs)
front_length [] i p h lt = absurd (omega arith)
front_length (x ∷ xs) zero p h lt = absurd (omega arith)
front_length (x ∷ xs) (suc i) zero h lt = omega arith
front_length (x ∷ xs) (suc i) (suc p) h lt = let more : p < length (take i xs) = front_length xs i p (omega arith) (omega arith) in omega arith

pub stands_before : (xs : List ℕ) → IsStrictlyIncreasing xs → (i j : ℕ) → i < length xs → j < get_or xs i 0 → is_called xs j ≡ true → is_called (take i xs) j ≡ true
stands_before xs rises i j h less is =
    let there = place_of j xs is in
    elim (cases_lt there.0 i) [
      | inl lt ↦ member_at j (take i xs) there.0 (front_length xs i there.0 lt there.1) (front_at xs i there.0 lt ∙ there.2)
      | inr ge ↦ let past : get_or xs i 0 ≤ get_or xs there.0 0 = not_before xs rises i there.0 there.1 ge in absurd (omega (arith, past, there.2, less))
    ]
