-- Lists to which a member is added where none like it is there.
use Rattle.std.proofs.Common.{◌≡◌, ◌≤◌, ◌<◌, ◌⊎◌, inl, ℕ, Bool, true, false, if◌then◌else◌, cond, List, [], ◌∷◌, ◌++◌, length, get_or, Some, None, refl, sym, subst, length-append, arith}
use Rattle.std.specs.Prelude.{nat_eq, nat_lt, unwrap_or}
use Rattle.std.specs.List.{All, AllPairs, Contains, position_or_len}
use Rattle.std.proofs.lemmas.Bool.Decides.{nat_tests}
use Rattle.std.proofs.lemmas.List.Elements.{All-push, Contains-get_or, Contains-push, Contains-push_cases, Contains-append_left}
use Rattle.std.proofs.lemmas.List.Quantifiers.{all_pairs_push}
use Rattle.std.proofs.lemmas.List.Sums.{passes_at_first, fails_before_first}
use Rattle.flat_design.specs.Lists.{number_in, with_member}
use Rattle.reading_laws.specs.Growing.{Extends}

number_at_end : (k n : ℕ) → nat_eq (unwrap_or (cond (nat_lt k n) (Some k) None) n) n ≡ true → n ≤ k
number_at_end k n h = go (nat_lt k n) refl h
  where
    go : (b : Bool) → nat_lt k n ≡ b → nat_eq (unwrap_or (cond b (Some k) None) n) n ≡ true → n ≤ k
    go true less is = grind (arith, nat_tests)
    go false less is = grind (arith, nat_tests)

number_inside : (k n : ℕ) → nat_eq (unwrap_or (cond (nat_lt k n) (Some k) None) n) n ≡ false → k < n
number_inside k n h = go (nat_lt k n) refl h
  where
    go : (b : Bool) → nat_lt k n ≡ b → nat_eq (unwrap_or (cond b (Some k) None) n) n ≡ false → k < n
    go true less is = grind (arith, nat_tests)
    go false less is = grind (arith, nat_tests)

module _ (X : Type 0) (same : X → Bool) (x : X) where
  abbrev IsNew : List X → Bool
  IsNew xs = nat_eq (number_in same xs) (length xs)

  -- a new member is like none before it
  none_alike : (xs : List X) → IsNew xs ≡ true → (k : ℕ) (d : X) → k < length xs → same (get_or xs k d) ≡ false
  none_alike xs is k d less = let long = number_at_end (position_or_len same xs) (length xs) is in fails_before_first same xs k d (omega arith)

  pub member_cases : (xs : List X) (y : X) → Contains (with_member same x xs) y → Contains xs y ⊎ (x ≡ y)
  member_cases xs y = go (IsNew xs)
    where
      go : (b : Bool) → Contains (if b then xs ++ x ∷ [] else xs) y → Contains xs y ⊎ (x ≡ y)
      go true h = Contains-push_cases xs x y h
      go false h = inl h

  pub member_there : ((y : X) → same y ≡ true → y ≡ x) → (xs : List X) → Contains (with_member same x xs) x
  member_there equal xs = go (IsNew xs) refl
    where
      go : (b : Bool) → IsNew xs ≡ b → Contains (if b then xs ++ x ∷ [] else xs) x
      go true is = Contains-push xs x
      go false is =
          let inside = number_inside (position_or_len same xs) (length xs) is in
          subst (Contains xs) (equal (get_or xs (position_or_len same xs) x) (passes_at_first same xs x inside)) (Contains-get_or xs (position_or_len same xs) x inside)

  pub member_all : (P : X → Type 0) (xs : List X) → All P xs → P x → All P (with_member same x xs)
  member_all P xs h g = go (IsNew xs)
    where
      go : (b : Bool) → All P (if b then xs ++ x ∷ [] else xs)
      go true = All-push P xs x h g
      go false = h

  pub member_pairs : (R : X → X → Type 0) → ((y : X) → same y ≡ false → R y x) → (xs : List X) → AllPairs R xs → AllPairs R (with_member same x xs)
  member_pairs R apart xs h = go (IsNew xs) refl
    where
      go : (b : Bool) → IsNew xs ≡ b → AllPairs R (if b then xs ++ x ∷ [] else xs)
      go true is = all_pairs_push R xs x h (λ k d less. apart (get_or xs k d) (none_alike xs is k d less))
      go false is = h

-- ---- fronts

pub contains_further : (X : Type 0) (old new : List X) → Extends X old new → (y : X) → Contains old y → Contains new y
contains_further X old new h y c = subst (λ (l : List X). Contains l y) (sym h.whole) (Contains-append_left old h.more y c)

pub no_shorter : (X : Type 0) (old new : List X) → Extends X old new → length old ≤ length new
no_shorter X old new h = subst (λ (l : List X). length old ≤ length l) (sym h.whole) (simp length-append (omega arith))
