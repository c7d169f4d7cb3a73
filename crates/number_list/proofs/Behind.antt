-- One more number behind a list.
use Rattle.std.proofs.Common.{◌≡◌, ℕ, zero, suc, ◌+◌, ◌<◌, nat_eq, nat_lt, Bool, true, false, not, ◌||◌, cond, if◌then◌else◌, List, [], ◌∷◌, ◌++◌, length, get_or, slice_get, position, Option, Some, None, IsSome, is_some, true≢false, ◌≤◌, refl, sym, ap, ◌∙◌, subst, arith, length-append}
use Rattle.std.specs.List.{list_any, position_or_len, prefix_len}
use Rattle.std.specs.Option.{option_map}
use Rattle.std.proofs.lemmas.Bool.Decides.{nat_tests}
use Rattle.std.proofs.lemmas.List.Quantifiers.{position-Some}
use Rattle.std.proofs.lemmas.Option.{slice_get-get_or}
use Rattle.indexmap.specs.IndexSet.{insert_key}
use Rattle.number_list.specs.Firsts.{kept_at, AreFirsts}

one-add : (n : ℕ) → 1 + n ≡ suc n
one-add n = omega arith

zero-lt : (n : ℕ) → nat_lt 0 (suc n) ≡ true
zero-lt n = grind (arith, nat_tests)

lt-suc : (a b : ℕ) → nat_lt (suc a) (suc b) ≡ nat_lt a b
lt-suc a b = grind (arith, nat_tests)

position-cons : (p : ℕ → Bool) (x : ℕ) (xs : List ℕ) → position p (x ∷ xs) ≡ cond (p x) (Some 0) (option_map (λ n. suc n) (position p xs))
position-cons p x xs = go (p x)
  where
    later : (b : Bool) (n : ℕ) → cond b (Some (suc n)) None ≡ option_map (λ m. suc m) (cond b (Some n) None)
    later true n = refl
    later false n = refl

    go : (b : Bool) → (let n = cond (not b) (1 + prefix_len (λ y. not (p y)) xs) 0 in cond (nat_lt n (suc (length xs))) (Some n) None) ≡ cond b (Some 0) (option_map (λ m. suc m) (position p xs))
    go true = ap (λ b. cond b (Some 0) None) (zero-lt (length xs))
    go false = ap (λ n. cond (nat_lt n (suc (length xs))) (Some n) None) (one-add (position_or_len p xs)) ∙ (ap (λ b. cond b (Some (suc (position_or_len p xs))) None) (lt-suc (position_or_len p xs) (length xs)) ∙ later (nat_lt (position_or_len p xs) (length xs)) (position_or_len p xs))

position_none : (p : ℕ → Bool) (xs : List ℕ) → position p xs ≡ None → list_any p xs ≡ false
position_none p [] e = refl
position_none p (x ∷ xs) e = go (p x) refl (sym (position-cons p x xs) ∙ e) (position_none p xs)
  where
    none : (o : Option ℕ) → option_map (λ k. suc k) o ≡ None → o ≡ None
    none None f = refl
    none (Some k) f = cc

    go : (b : Bool) → p x ≡ b → cond b (Some 0) (option_map (λ k. suc k) (position p xs)) ≡ None → (position p xs ≡ None → list_any p xs ≡ false) → (p x || list_any p xs) ≡ false
    go true h f more = cc
    go false h f more = ap (λ b. b || list_any p xs) h ∙ more (none (position p xs) f)

some_mapped : (b : Bool) (o : Option ℕ) → (b || is_some o) ≡ is_some (cond b (Some 0) (option_map (λ n. suc n) o))
some_mapped true o = refl
some_mapped false (Some n) = refl
some_mapped false None = refl

-- a number stands in a list where it has a place there
pub stands : (p : ℕ → Bool) (xs : List ℕ) → list_any p xs ≡ is_some (position p xs)
stands p [] = refl
stands p (x ∷ xs) = ap (λ b. p x || b) (stands p xs) ∙ (some_mapped (p x) (position p xs) ∙ sym (ap is_some (position-cons p x xs)))

abbrev either : Option ℕ → Option ℕ → Option ℕ
either (Some i) o = Some i
either None o = o

shifted : (b c : Bool) (o : Option ℕ) (n : ℕ) → cond b (Some 0) (option_map (λ m. suc m) (either o (cond c (Some n) None))) ≡ either (cond b (Some 0) (option_map (λ m. suc m) o)) (cond c (Some (suc n)) None)
shifted true c o n = refl
shifted false c (Some i) n = refl
shifted false true None n = refl
shifted false false None n = refl

behind : (p : ℕ → Bool) (xs : List ℕ) (y : ℕ) → position p (xs ++ y ∷ []) ≡ either (position p xs) (cond (p y) (Some (length xs)) None)
behind p [] y = position-cons p y []
behind p (x ∷ xs) y =
    position-cons p x (xs ++ y ∷ [])
    ∙ (ap (λ o. cond (p x) (Some 0) (option_map (λ m. suc m) o)) (behind p xs y)
    ∙ (shifted (p x) (p y) (position p xs) (length xs) ∙ ap (λ o. either o (cond (p y) (Some (suc (length xs))) None)) (sym (position-cons p x xs))))

get_before : (xs : List ℕ) (y i : ℕ) → i < length xs → slice_get (xs ++ y ∷ []) i ≡ slice_get xs i
get_before [] y i h = nothing (omega arith)
  where
    nothing : suc i ≤ 0 → slice_get (y ∷ []) i ≡ None
    nothing k = absurd (no k)
      where
        no : suc i ≤ 0 → ⊥
        no k = omega arith
get_before (x ∷ xs) y zero h = refl
get_before (x ∷ xs) y (suc i) h = get_before xs y i (omega arith)

get_last : (xs : List ℕ) (y n : ℕ) → n ≡ length xs → slice_get (xs ++ y ∷ []) n ≡ Some y
get_last xs y n e = ap (slice_get (xs ++ y ∷ [])) e ∙ last xs
  where
    last : (xs : List ℕ) → slice_get (xs ++ y ∷ []) (length xs) ≡ Some y
    last [] = refl
    last (x ∷ xs) = last xs

same_is : (x y : ℕ) → nat_eq x y ≡ true → x ≡ y
same_is x y e = grind (arith, nat_tests)

-- a number that stands in the list already
old_of : (all keys firsts : List ℕ) (y j : ℕ) → AreFirsts all keys firsts → position (nat_eq y) all ≡ Some j → AreFirsts (all ++ y ∷ []) keys firsts
old_of all keys firsts y j h e = record { lengths = h.lengths; places = λ x. behind (nat_eq x) all y ∙ (go x (nat_eq x y) refl ∙ h.places x) }
  where
    none : (o : Option ℕ) → either o None ≡ o
    none (Some i) = refl
    none None = refl

    go : (x : ℕ) (b : Bool) → nat_eq x y ≡ b → either (position (nat_eq x) all) (cond b (Some (length all)) None) ≡ position (nat_eq x) all
    go x true f =
        let there : position (nat_eq x) all ≡ Some j = ap (λ z. position (nat_eq z) all) (same_is x y f) ∙ e in
        ap (λ o. either o (Some (length all))) there ∙ sym there
    go x false f = none (position (nat_eq x) all)

pub old_number : (all keys firsts more : List ℕ) (y : ℕ) → AreFirsts all keys firsts → IsSome (position (nat_eq y) all) → more ≡ all ++ y ∷ [] → AreFirsts more keys firsts
old_number all keys firsts more y h s e = subst (λ xs. AreFirsts xs keys firsts) (sym e) (known (position (nat_eq y) all) refl s)
  where
    known : (o : Option ℕ) → position (nat_eq y) all ≡ o → IsSome o → AreFirsts (all ++ y ∷ []) keys firsts
    known (Some j) f s = old_of all keys firsts y j h f
    known None f s = absurd (true≢false (sym s))

-- what is kept for a number is there
kept_none : (keys firsts : List ℕ) (o : Option ℕ) (y : ℕ) → length firsts ≡ length keys → position (nat_eq y) keys ≡ o → kept_at firsts o ≡ None → o ≡ None
kept_none keys firsts None y l e f = refl
kept_none keys firsts (Some i) y l e f =
    let within : i < length keys = (position-Some (nat_eq y) keys i 0 e).0 in
    let got : slice_get firsts i ≡ Some (get_or firsts i 0) = slice_get-get_or firsts i 0 (omega arith) in
    cc

-- a new one
new_of : (all keys more firsts : List ℕ) (y n : ℕ) → AreFirsts all keys firsts → position (nat_eq y) all ≡ None → more ≡ insert_key nat_eq keys y → n ≡ length all → AreFirsts (all ++ y ∷ []) more (firsts ++ n ∷ [])
new_of all keys more firsts y n h e k c =
    let gone : position (nat_eq y) keys ≡ None = kept_none keys firsts (position (nat_eq y) keys) y h.lengths refl (sym (h.places y) ∙ e) in
    let is : more ≡ keys ++ y ∷ [] = k ∙ ap (λ b. if b then keys else keys ++ y ∷ []) (position_none (nat_eq y) keys gone) in
    subst (λ ks. AreFirsts (all ++ y ∷ []) ks (firsts ++ n ∷ [])) (sym is)
    (record {
      lengths = length-append firsts (n ∷ []) ∙ (ap (λ l. l + 1) h.lengths ∙ sym (length-append keys (y ∷ [])));
      places = λ x. behind (nat_eq x) all y ∙ (go x (position (nat_eq x) keys) refl ∙ ap (kept_at (firsts ++ n ∷ [])) (sym (behind (nat_eq x) keys y)));
    })
  where
    last : (x : ℕ) (b : Bool) → cond b (Some (length all)) None ≡ kept_at (firsts ++ n ∷ []) (cond b (Some (length keys)) None)
    last x true = ap Some (sym c) ∙ sym (get_last firsts n (length keys) (sym h.lengths))
    last x false = refl

    go : (x : ℕ) (o : Option ℕ) → position (nat_eq x) keys ≡ o → either (position (nat_eq x) all) (cond (nat_eq x y) (Some (length all)) None) ≡ kept_at (firsts ++ n ∷ []) (either o (cond (nat_eq x y) (Some (length keys)) None))
    go x None f = ap (λ p. either p (cond (nat_eq x y) (Some (length all)) None)) (h.places x ∙ ap (kept_at firsts) f) ∙ last x (nat_eq x y)
    go x (Some i) f =
        let within : i < length keys = (position-Some (nat_eq x) keys i 0 f).0 in
        let here : i < length firsts = omega (arith, h.lengths) in
        let got : slice_get firsts i ≡ Some (get_or firsts i 0) = slice_get-get_or firsts i 0 here in
        let at : position (nat_eq x) all ≡ Some (get_or firsts i 0) = h.places x ∙ (ap (kept_at firsts) f ∙ got) in
        ap (λ p. either p (cond (nat_eq x y) (Some (length all)) None)) at ∙ sym (get_before firsts n i here ∙ got)

pub new_number : (all keys firsts all_more keys_more firsts_more : List ℕ) (y : ℕ) → AreFirsts all keys firsts → position (nat_eq y) all ≡ None → all_more ≡ all ++ y ∷ [] → keys_more ≡ insert_key nat_eq keys y → firsts_more ≡ firsts ++ length all ∷ [] → AreFirsts all_more keys_more firsts_more
new_number all keys firsts all_more keys_more firsts_more y h e a k f =
    subst (λ xs. AreFirsts xs keys_more firsts_more) (sym a)
    (subst (λ xs. AreFirsts (all ++ y ∷ []) keys_more xs) (sym f) (new_of all keys keys_more firsts y (length all) h e k refl))
