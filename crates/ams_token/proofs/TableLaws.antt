-- What a binary search in a table of rising texts says.
use Rattle.std.proofs.Common.{◌≡◌, ◌≢◌, MatchOption, Option, None, ℕ, zero, suc, ◌<◌, ◌≤◌, Bool, true, false, ◌&&◌, List, [], ◌∷◌, length, map, get_or, Contains, slice_get, nat_lt, Some, rules, refl, sym, ap, ◌∙◌, subst, arith, add-one}
use Rattle.std.specs.Ordering.{is_lt, nat_cmp, ordering_reverse, ordering_index, ordering_then}
use Rattle.std.specs.declared.cmp.Ordering.{Ordering}
use Rattle.std.specs.declared.cmp.Ordering.TheVariants.{Less, Equal, Greater}
use Rattle.std.specs.Cmp.Lexicographic.{slice_cmp}
use Rattle.std.specs.List.{HoldsAt}
use Rattle.std.specs.List.Sorted.{IsSortedBy, IsNonDecreasingBy, IsPartitionPoint}
use Rattle.std.proofs.lemmas.Cmp.{nat_list_cmp_total, tied_itself, ranked}
use Rattle.std.proofs.lemmas.List.{get_or-map, length-map}
use Rattle.std.proofs.lemmas.List.Sorted.{searchable_from_sorted}
use denote.Ref.{Bor}
use Rattle.ams_token.specs.Tables.{texts_of, rises, Holds}

and_parts : (a b : Bool) → (a && b) ≡ true → (a ≡ true) × (b ≡ true)
and_parts true b h = (refl, h)
and_parts false b h = cc

flipped : (o : Ordering) → is_lt o ≡ true → is_lt (ordering_reverse o) ≡ false
flipped Less h = refl
flipped Equal h = cc
flipped Greater h = cc

before : (x y : List ℕ) → is_lt (slice_cmp nat_cmp x y) ≡ true → is_lt (slice_cmp nat_cmp y x) ≡ false
before x y h = ap is_lt (nat_list_cmp_total.antisymm y x) ∙ flipped (slice_cmp nat_cmp x y) h

module _ {X : Type 0} where
  adjacent : (xs : List (X × Bor (List ℕ))) → rises (texts_of xs) ≡ true → (k : ℕ) (d : X × Bor (List ℕ)) → suc k < length xs → is_lt (slice_cmp nat_cmp (get_or xs (suc k) d).1.now (get_or xs k d).1.now) ≡ false
  adjacent [] h k d lt = absurd (omega (arith, lt))
  adjacent (x ∷ []) h k d lt = absurd (omega (arith, lt))
  adjacent (x ∷ y ∷ xs) h zero d lt = before x.1.now y.1.now (and_parts _ _ h).0
  adjacent (x ∷ y ∷ xs) h (suc k) d lt = adjacent (y ∷ xs) (and_parts _ _ h).1 k d (omega (arith, lt))

  sorted : (xs : List (X × Bor (List ℕ))) → rises (texts_of xs) ≡ true → IsSortedBy (λ a b. is_lt (slice_cmp nat_cmp a.1.now b.1.now)) xs
  sorted xs h k d low high = rw add-one (adjacent xs h k d (omega (arith, high)))

  searchable : (xs : List (X × Bor (List ℕ))) (text : List ℕ) → rises (texts_of xs) ≡ true → IsNonDecreasingBy (λ y. ordering_index (slice_cmp nat_cmp y.1.now text)) xs
  searchable xs text h = searchable_from_sorted nat_list_cmp_total (λ (b : X × Bor (List ℕ)). b.1.now) xs text (sorted xs h)

not_itself : (text : List ℕ) (o : Ordering) → slice_cmp nat_cmp text text ≡ o → (o ≡ Equal → ⊥) → ⊥
not_itself text o e other = other (sym e ∙ tied_itself nat_list_cmp_total text)

module _ {X : Type 0} where
  absent_from : (xs : List (X × Bor (List ℕ))) (d : X × Bor (List ℕ)) (text : List ℕ) (i : ℕ) → IsPartitionPoint (λ y. slice_cmp nat_cmp y.1.now text ≡ Less) (λ y. slice_cmp nat_cmp y.1.now text ≡ Greater) xs i → Contains (texts_of xs) text → ⊥
  absent_from xs d text i p (k, below, is) = go (nat_lt k i) refl
    where
      fits : k < length xs
      fits = let e = length-map xs (λ (x : X × Bor (List ℕ)). x.1.now) in omega (arith, e, below)

      same : (get_or xs k d).1.now ≡ text
      same = sym (get_or-map (λ (x : X × Bor (List ℕ)). x.1.now) xs k d text fits) ∙ is

      at_text : (o : Ordering) → slice_cmp nat_cmp (get_or xs k d).1.now text ≡ o → slice_cmp nat_cmp text text ≡ o
      at_text o e = subst (λ t. slice_cmp nat_cmp t text ≡ o) same e

      less : Less ≡ Equal → ⊥
      less e = cc

      greater : Greater ≡ Equal → ⊥
      greater e = cc

      go : (b : Bool) → nat_lt k i ≡ b → ⊥
      go true e = let lt : k < i = search (rules, arith) in not_itself text Less (at_text Less (p.0 k d (omega arith) lt)) less
      go false e = let le : i ≤ k = search (rules, arith) in not_itself text Greater (at_text Greater (p.1 k d le fits)) greater

  -- what a search that ends between two texts says
  pub absent : (xs : List (X × Bor (List ℕ))) (text : List ℕ) (i : ℕ) → rises (texts_of xs) ≡ true → (IsNonDecreasingBy (λ y. ordering_index (slice_cmp nat_cmp y.1.now text)) xs → IsPartitionPoint (λ y. slice_cmp nat_cmp y.1.now text ≡ Less) (λ y. slice_cmp nat_cmp y.1.now text ≡ Greater) xs i) → Contains (texts_of xs) text → ⊥
  absent [] text i h p (k, below, is) = absurd (omega (arith, below))
  absent (x ∷ xs) text i h p has = absent_from (x ∷ xs) x text i (p (searchable (x ∷ xs) text h)) has

equal : (x y : List ℕ) → slice_cmp nat_cmp x y ≡ Equal → x ≡ y
equal [] [] h = refl
equal [] (y ∷ ys) h = cc
equal (x ∷ xs) [] h = cc
equal (x ∷ xs) (y ∷ ys) h = go (nat_cmp x y) refl h (equal xs ys)
  where
    go : (o : Ordering) → o ≡ nat_cmp x y → ordering_then o (slice_cmp nat_cmp xs ys) ≡ Equal → (slice_cmp nat_cmp xs ys ≡ Equal → xs ≡ ys) → x ∷ xs ≡ y ∷ ys
    go Less e h more = cc
    go Equal e h more = let head : x ≡ y = ranked x y Equal e in let rest = more h in cc
    go Greater e h more = cc

module _ {X : Type 0} where
  -- what a search that ends at a text says
  pub found : (xs : List (X × Bor (List ℕ))) (d : X × Bor (List ℕ)) (text : List ℕ) (i : ℕ) → i < length xs → HoldsAt (λ y. slice_cmp nat_cmp y.1.now text ≡ Equal) xs i → Holds xs (get_or xs i d).0 text
  found [] d text i lt h = absurd (omega (arith, lt))
  found (x ∷ xs) d text zero lt h = (0, ap (λ t. Some (x.0, t)) (equal x.1.now text (h d)))
  found (x ∷ xs) d text (suc i) lt h = let rest = found xs d text i (omega (arith, lt)) h in (suc rest.0, rest.1)

-- ---- a table of all values, each with the text by which it is spelled

module _ {X : Type 0} (f : X → List ℕ) where
  some_is : (a b : X × List ℕ) → Some a ≡ Some b → a ≡ b
  some_is a b e = cc

  spelled : (xs : List (X × List ℕ)) (x : X) (text : List ℕ) (n : ℕ) → map (λ y. f y.0) xs ≡ map (λ y. y.1) xs → slice_get xs n ≡ Some (x, text) → f x ≡ text
  spelled [] x text n same e = cc
  spelled (y ∷ xs) x text zero same e =
      let head : f y.0 ≡ y.1 = cc in
      let pair : y ≡ (x, text) = some_is y (x, text) e in
      let value : y.0 ≡ x = ap (λ p. p.0) pair in
      let is : y.1 ≡ text = ap (λ p. p.1) pair in
      ap f (sym value) ∙ (head ∙ is)
  spelled (y ∷ xs) x text (suc n) same e = let rest : map (λ y. f y.0) xs ≡ map (λ y. y.1) xs = cc in spelled xs x text n rest e

  -- what a search in it says
  pub told : (xs : List (X × List ℕ)) (text : List ℕ) → map (λ y. f y.0) xs ≡ map (λ y. y.1) xs → ((x : X) → Contains (map (λ y. y.1) xs) (f x)) → (o : Option X) → MatchOption o (Contains (map (λ y. y.1) xs) text → ⊥) (λ x. (n : ℕ) × (slice_get xs n ≡ Some (x, text))) → MatchOption o ((x : X) → f x ≢ text) (λ x. f x ≡ text)
  told xs text same listed None h = λ x e. h (subst (Contains (map (λ y. y.1) xs)) e (listed x))
  told xs text same listed (Some x) h = spelled xs x text h.0 same h.1
