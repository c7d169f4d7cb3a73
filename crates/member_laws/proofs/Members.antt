-- A list without repetition whose members all stand in another list is no longer than that one.
use Rattle.std.proofs.Common.{◌≡◌, ◌≤◌, ◌<◌, ℕ, zero, suc, ◌+◌, nat_eq, Bool, true, false, ◌||◌, if◌then◌else◌, List, [], ◌∷◌, length, get_or, refl, sym, ap, ◌∙◌, subst, int_eq, arith}
use Rattle.std.specs.Prelude.{◌≢◌, ◌&&◌, ℤ}
use Rattle.std.specs.List.{list_any, All, AllPairs, Contains}
use Rattle.std.proofs.lemmas.Bool.Decides.{nat_tests, Decides-int_eq}
use Rattle.std.proofs.lemmas.List.Elements.{All-nil, All-cons, All-head, All-tail, All-weaker}
use Rattle.flat_design.specs.Lists.{same_threshold}
use Rattle.flat_design.specs.declared.objects.Threshold.{Threshold}
use Rattle.member_laws.specs.Members.{FewMembers}

true_is_false : {B : Type 0} → true ≡ false → B
true_is_false e = cc

-- what two things that are like a third are to one another
module _ (A : Type 0) (same : A → A → Bool) (alike : (a b c : A) → same a c ≡ true → same b c ≡ true → same a b ≡ true) where
  abbrev pub StandsIn : List A → A → Type 0
  StandsIn ys x = list_any (same x) ys ≡ true

  abbrev Differs : A → A → Type 0
  Differs a b = same a b ≡ false

  -- the list without the first member like this one
  without : A → List A → List A
  without x [] = []
  without x (y ∷ ys) = if same x y then ys else y ∷ without x ys

  shorter : (x : A) (ys : List A) → StandsIn ys x → length (without x ys) + 1 ≡ length ys
  unfolding without
  shorter x [] h = absurd (cc)
  shorter x (y ∷ ys) h = go (same x y) (λ k. shorter x ys k) h
    where
      go : (b : Bool) → (list_any (same x) ys ≡ true → length (without x ys) + 1 ≡ length ys) → (b || list_any (same x) ys) ≡ true
          → length (if b then ys else y ∷ without x ys) + 1 ≡ length (y ∷ ys)
      go true rest k = omega arith
      go false rest k = let one = rest k in omega (arith, one)

  one_of : (a b : Bool) → (a || b) ≡ true → a ≡ false → b ≡ true
  one_of true b h e = true_is_false e
  one_of false b h e = h

  still_there : (x z : A) (ys : List A) → Differs x z → StandsIn ys z → StandsIn (without x ys) z
  unfolding without
  still_there x z [] d h = h
  still_there x z (y ∷ ys) d h = go (same x y) (λ k. still_there x z ys d k) refl
    where
      other : (c : Bool) → same x y ≡ true → same z y ≡ c → c ≡ false
      other true is e = true_is_false (sym (alike x z y is e) ∙ d)
      other false is e = refl

      further : (b : Bool) → (StandsIn ys z → StandsIn (without x ys) z) → (b || list_any (same z) ys) ≡ true → (b || list_any (same z) (without x ys)) ≡ true
      further true rest k = refl
      further false rest k = rest k

      go : (b : Bool) → (StandsIn ys z → StandsIn (without x ys) z) → same x y ≡ b → StandsIn (if b then ys else y ∷ without x ys) z
      go true rest is = one_of (same z y) (list_any (same z) ys) h (other (same z y) is refl)
      go false rest is = further (same z y) rest h

  first_differs : (x : A) (xs : List A) → AllPairs Differs (x ∷ xs) → All (Differs x) xs
  first_differs x xs h k d lt = h 0 (suc k) d (omega arith) (omega arith)

  rest_differ : (x : A) (xs : List A) → AllPairs Differs (x ∷ xs) → AllPairs Differs xs
  rest_differ x xs h i j d less lt = h (suc i) (suc j) d (omega arith) (omega arith)

  still_all : (x : A) (xs ys : List A) → All (Differs x) xs → All (StandsIn ys) xs → All (StandsIn (without x ys)) xs
  still_all x xs ys d h k e lt = still_there x (get_or xs k e) ys (d k e lt) (h k e lt)

  pub few : (xs ys : List A) → AllPairs Differs xs → All (StandsIn ys) xs → length xs ≤ length ys
  few [] ys h k = omega arith
  few (x ∷ xs) ys h k =
      let here : StandsIn ys x = All-head (StandsIn ys) x xs k in
      let rest : length xs ≤ length (without x ys) = few xs (without x ys) (rest_differ x xs h) (still_all x xs ys (first_differs x xs h) (All-tail (StandsIn ys) x xs k)) in
      omega (arith, rest, shorter x ys here)

-- ---- members

one_is : (a b : Bool) → b ≡ true → (a || b) ≡ true
one_is true b h = refl
one_is false b h = h

module _ (A : Type 0) (same : A → A → Bool) (itself : (a : A) → same a a ≡ true) where
  found_at : (x : A) (ys : List A) (k : ℕ) → k < length ys → get_or ys k x ≡ x → list_any (same x) ys ≡ true
  found_at x [] k lt h = absurd (omega arith)
  found_at x (y ∷ ys) zero lt h = subst (λ z. (same x z || list_any (same x) ys) ≡ true) (sym h) (subst (λ b. (b || list_any (same x) ys) ≡ true) (sym (itself x)) refl)
  found_at x (y ∷ ys) (suc k) lt h = one_is (same x y) (list_any (same x) ys) (found_at x ys k (omega arith) h)

  pub found : (x : A) (ys : List A) → Contains ys x → list_any (same x) ys ≡ true
  found x ys h = found_at x ys h.0 h.1 h.2

-- ---- numbers and thresholds

pub alike_numbers : (a b c : ℕ) → nat_eq a c ≡ true → nat_eq b c ≡ true → nat_eq a b ≡ true
alike_numbers a b c h k = grind (arith, nat_tests)

pub same_number : (a : ℕ) → nat_eq a a ≡ true
same_number a = grind (arith, nat_tests)

pub unequal : (a b : ℕ) → a ≢ b → nat_eq a b ≡ false
unequal a b h = go (nat_eq a b) refl
  where
    go : (c : Bool) → nat_eq a b ≡ c → c ≡ false
    go true is = let e : a ≡ b = grind (arith, nat_tests) in absurd (h e)
    go false is = refl

-- the same by a test
pub few_among : (xs ys : List ℕ) → AllPairs (λ a b. a ≢ b) xs → All (λ q. list_any (nat_eq q) ys ≡ true) xs → length xs ≤ length ys
few_among xs ys h k = few ℕ nat_eq alike_numbers xs ys (λ i j d less lt. unequal (get_or xs i d) (get_or xs j d) (h i j d less lt)) k

few_numbers : (xs ys : List ℕ) → AllPairs (λ a b. a ≢ b) xs → All (Contains ys) xs → length xs ≤ length ys
few_numbers xs ys h k =
    few_among xs ys h (All-weaker (Contains ys) (λ x. list_any (nat_eq x) ys ≡ true) (λ x c. found ℕ nat_eq same_number x ys c) xs k)

both_parts : (a b : Bool) → (a && b) ≡ true → (a ≡ true) × (b ≡ true)
both_parts true b h = (refl, h)
both_parts false b h = absurd (cc)

and_is : (a b : Bool) → a ≡ true → b ≡ true → (a && b) ≡ true
and_is true b h k = k
and_is false b h k = h

alike_levels : (a b c : ℤ) → int_eq a c ≡ true → int_eq b c ≡ true → int_eq a b ≡ true
alike_levels a b c h k = (Decides-int_eq a b).1 ((Decides-int_eq a c).0 h ∙ sym ((Decides-int_eq b c).0 k))

same_thresholds : (a b c : Threshold) → same_threshold a c ≡ true → same_threshold b c ≡ true → same_threshold a b ≡ true
same_thresholds a b c h k =
    let p = both_parts (nat_eq a.quantity c.quantity) (int_eq a.level c.level) h in
    let q = both_parts (nat_eq b.quantity c.quantity) (int_eq b.level c.level) k in
    and_is (nat_eq a.quantity b.quantity) (int_eq a.level b.level) (alike_numbers a.quantity b.quantity c.quantity p.0 q.0) (alike_levels a.level b.level c.level p.1 q.1)

same_as_itself : (a : Threshold) → same_threshold a a ≡ true
same_as_itself a = and_is (nat_eq a.quantity a.quantity) (int_eq a.level a.level) (same_number a.quantity) ((Decides-int_eq a.level a.level).1 refl)

pub few_members : FewMembers
few_members = record {
  numbers = few_numbers;
  thresholds = λ xs ys h k.
      few Threshold same_threshold same_thresholds xs ys h
      (All-weaker (Contains ys) (λ x. list_any (same_threshold x) ys ≡ true) (λ x c. found Threshold same_threshold same_as_itself x ys c) xs k);
}
