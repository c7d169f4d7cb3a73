-- A list without repetitions is no longer than one that has all its members; members of longer lists; faults that are none.
use Rattle.std.proofs.Common.{◌≡◌, ◌≤◌, ◌<◌, ◌⊎◌, ⊎_elim, ℕ, zero, suc, ◌+◌, List, [], ◌∷◌, ◌++◌, length, get_or, refl, sym, ap, ◌∙◌, subst, length-append, append-nil, arith}
use Rattle.std.specs.List.{All, AllPairs, Contains}
use Rattle.std.proofs.lemmas.List.Elements.{All-head, All-weaker, Contains-append_cases, Contains-append_left, Contains-append_right}
use Rattle.reading_laws.specs.Growing.{Extends}

-- ---- no longer

module _ (X : Type 0) where
  -- a list with a member, parted there
  record Parted (ys : List X) (x : X) : Type 0 where
    front : List X
    back : List X
    whole : ys ≡ front ++ x ∷ back

  parted_at : (ys : List X) (i : ℕ) (x : X) → i < length ys → get_or ys i x ≡ x → Parted ys x
  parted_at [] i x lt is = absurd (omega arith)
  parted_at (y ∷ ys) zero x lt is = record { front = []; back = ys; whole = ap (λ z. z ∷ ys) is }
  parted_at (y ∷ ys) (suc i) x lt is =
      let p = parted_at ys i x (omega arith) is in
      record { front = y ∷ p.front; back = p.back; whole = ap (λ (l : List X). y ∷ l) p.whole }

  behind_first : (x y : X) (back : List X) (i : ℕ) → (x ≡ y → ⊥) → i < length (x ∷ back) → get_or (x ∷ back) i y ≡ y → Contains back y
  behind_first x y back zero apart lt is = absurd (apart is)
  behind_first x y back (suc i) apart lt is = let less : i < length back = omega arith in (i, less, is)

  -- a member other than that one
  other : (front back : List X) (x y : X) → (x ≡ y → ⊥) → Contains (front ++ x ∷ back) y → Contains (front ++ back) y
  other front back x y apart h =
      ⊎_elim (λ left. Contains-append_left front back y left)
      (λ right. Contains-append_right front back y (behind_first x y back right.0 apart right.1 right.2))
      (Contains-append_cases front (x ∷ back) y h)

  pub no_longer : (R : X → X → Type 0) → ((a b : X) → R a b → a ≡ b → ⊥) → (xs ys : List X) → AllPairs R xs → All (Contains ys) xs → length xs ≤ length ys
  no_longer R apart [] ys once inside = omega arith
  no_longer R apart (x ∷ xs) ys once inside =
      let c : Contains ys x = All-head (Contains ys) x xs inside in
      let p = parted_at ys c.0 x c.1 c.2 in
      let few : length xs ≤ length (p.front ++ p.back) =
      no_longer R apart xs (p.front ++ p.back) (λ i j d less lt. once (suc i) (suc j) d (omega arith) (omega arith))
      (λ k d lt.
      other p.front p.back x (get_or xs k d) (apart x (get_or xs k d) (once 0 (suc k) d (omega arith) (omega arith)))
      (subst (λ (l : List X). Contains l (get_or xs k d)) p.whole (inside (suc k) d (omega arith)))) in
      let long : length ys ≡ length (p.front ++ x ∷ p.back) = ap length p.whole in
      let one : length (p.front ++ x ∷ p.back) ≡ length p.front + length (x ∷ p.back) = length-append p.front (x ∷ p.back) in
      let two : length (p.front ++ p.back) ≡ length p.front + length p.back = length-append p.front p.back in
      omega arith

  -- ---- longer lists

  pub among_more : (old new : List X) → Extends X old new → (y : X) → Contains old y → Contains new y
  among_more old new h y c = subst (λ (l : List X). Contains l y) (sym h.whole) (Contains-append_left old h.more y c)

  pub all_among_more : (old new : List X) → Extends X old new → (xs : List X) → All (Contains old) xs → All (Contains new) xs
  all_among_more old new h xs c = All-weaker (Contains old) (Contains new) (λ y. among_more old new h y) xs c

  pub no_shorter : (old new : List X) → Extends X old new → length old ≤ length new
  no_shorter old new h =
      let long : length new ≡ length (old ++ h.more) = ap length h.whole in
      let sum : length (old ++ h.more) ≡ length old + length h.more = length-append old h.more in
      omega arith

  -- ---- lists that are empty

  pub none_first : (xs ys : List X) → xs ++ ys ≡ [] → xs ≡ []
  none_first [] ys h = refl
  none_first (x ∷ xs) ys h = absurd (cc)

  pub none_last : (xs ys : List X) → xs ++ ys ≡ [] → ys ≡ []
  none_last [] ys h = h
  none_last (x ∷ xs) ys h = absurd (cc)
