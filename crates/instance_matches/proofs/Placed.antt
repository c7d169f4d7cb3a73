-- Associations beside the places of their formals.
use Rattle.std.proofs.Common.{◌≡◌, ℕ, suc, ◌+◌, nat_eq, nat_lt, Bool, true, false, not, ◌||◌, cond, if◌then◌else◌, List, [], ◌∷◌, ◌++◌, length, slice_get, position, is_some, Option, Some, None, refl, sym, ap, ◌∙◌, arith, append_assoc, length-append}
use Rattle.std.specs.List.{list_any, zip, position_or_len, prefix_len}
use Rattle.std.specs.Map.{lookup}
use Rattle.std.specs.Option.{option_map}
use Rattle.std.proofs.lemmas.Bool.Decides.{nat_tests}
use Rattle.std.proofs.lemmas.List.{append-nil}
use Rattle.unit_meaning.specs.declared.request.Assigned.{Assigned}
use Rattle.unit_meaning.specs.Walk.{formal_place, is_taken, with_match, matched_from, matched, closed_actual, actual_at}
use Rattle.instance_matches.specs.Places.{closed_at, unless_taken, with_place, placed}

-- ---- the first place of a number

one-add : (n : ℕ) → 1 + n ≡ suc n
one-add n = omega arith

zero-lt : (n : ℕ) → nat_lt 0 (suc n) ≡ true
zero-lt n = grind (arith, nat_tests)

lt-suc : (a b : ℕ) → nat_lt (suc a) (suc b) ≡ nat_lt a b
lt-suc a b = grind (arith, nat_tests)

position-cons : (p : ℕ → Bool) (x : ℕ) (xs : List ℕ) → position p (x ∷ xs) ≡ cond (p x) (Some 0) (option_map (λ n. suc n) (position p xs))
position-cons p x xs = go (p x)
  where
    later : (b : Bool) (n : ℕ) → cond b (Some (suc n)) None ≡ option_map (λ m. suc m) (cond b (Some n) None)
    later true n = refl
    later false n = refl

    go : (b : Bool) → (let n = cond (not b) (1 + prefix_len (λ y. not (p y)) xs) 0 in cond (nat_lt n (suc (length xs))) (Some n) None) ≡ cond b (Some 0) (option_map (λ m. suc m) (position p xs))
    go true = ap (λ b. cond b (Some 0) None) (zero-lt (length xs))
    go false = ap (λ n. cond (nat_lt n (suc (length xs))) (Some n) None) (one-add (position_or_len p xs)) ∙ (ap (λ b. cond b (Some (suc (position_or_len p xs))) None) (lt-suc (position_or_len p xs) (length xs)) ∙ later (nat_lt (position_or_len p xs) (length xs)) (position_or_len p xs))

pub taken_is : (p : ℕ → Bool) (xs : List ℕ) → is_some (position p xs) ≡ list_any p xs
taken_is p [] = refl
taken_is p (x ∷ xs) = ap is_some (position-cons p x xs) ∙ (go (p x) (position p xs) ∙ ap (λ b. p x || b) (taken_is p xs))
  where
    go : (b : Bool) (o : Option ℕ) → is_some (cond b (Some 0) (option_map (λ n. suc n) o)) ≡ (b || is_some o)
    go true o = refl
    go false (Some i) = refl
    go false None = refl

-- ---- what stands beside a place

abbrev pub beside : List Assigned → Option ℕ → Option Assigned
beside all (Some k) = slice_get all k
beside all None = None

nothing_beside : (o : Option ℕ) → None ≡ beside [] o
nothing_beside (Some k) = refl
nothing_beside None = refl

found_beside : (p : ℕ → Bool) (places : List ℕ) (all : List Assigned) → lookup p (zip places all) ≡ beside all (position p places)
found_beside p [] all = refl
found_beside p (i ∷ places) [] = nothing_beside (position p (i ∷ places))
found_beside p (i ∷ places) (a ∷ all) = ap (cond (p i) (Some a)) (found_beside p places all) ∙ (go (p i) (position p places) ∙ ap (beside (a ∷ all)) (sym (position-cons p i places)))
  where
    go : (b : Bool) (o : Option ℕ) → cond b (Some a) (beside all o) ≡ beside (a ∷ all) (cond b (Some 0) (option_map (λ n. suc n) o))
    go true o = refl
    go false (Some k) = refl
    go false None = refl

abbrev pub closed_beside : List Assigned → Option ℕ → Option Assigned
closed_beside all (Some k) = closed_at all k
closed_beside all None = None

pub found_in : (places : List ℕ) (all : List Assigned) (i : ℕ) → actual_at (zip places all) i ≡ closed_beside all (position (nat_eq i) places)
found_in places all i = ap closed_actual (found_beside (nat_eq i) places all) ∙ go (position (nat_eq i) places)
  where
    go : (o : Option ℕ) → closed_actual (beside all o) ≡ closed_beside all o
    go (Some k) = refl
    go None = refl

-- ---- the associations one after the other

taken_beside : (i : ℕ) (places : List ℕ) (all : List Assigned) → length places ≡ length all → is_taken i (zip places all) ≡ list_any (nat_eq i) places
taken_beside i [] all e = refl
taken_beside i (x ∷ places) [] e = absurd (omega arith)
taken_beside i (x ∷ places) (a ∷ all) e = ap (λ b. nat_eq i x || b) (taken_beside i places all (omega arith))

zip_behind : (places : List ℕ) (all : List Assigned) (i : ℕ) (a : Assigned) → length places ≡ length all → zip (places ++ i ∷ []) (all ++ a ∷ []) ≡ zip places all ++ (i, a) ∷ []
zip_behind [] [] i a e = refl
zip_behind [] (b ∷ all) i a e = absurd (omega arith)
zip_behind (x ∷ places) [] i a e = absurd (omega arith)
zip_behind (x ∷ places) (b ∷ all) i a e = ap (λ xs. (x, b) ∷ xs) (zip_behind places all i a (omega arith))

one_longer : (places : List ℕ) (all : List Assigned) (i : ℕ) (a : Assigned) → length places ≡ length all → length (places ++ i ∷ []) ≡ length (all ++ a ∷ [])
one_longer places all i a e = length-append places (i ∷ []) ∙ (ap (λ n. n + 1) e ∙ sym (length-append all (a ∷ [])))

-- the same one association further, at whatever place that one is
abbrev Further : List ℕ → ℕ → Assigned → List Assigned → List Assigned → List ℕ → ℕ → Type 0
Further names j a more before places i =
    matched_from names (j + 1) more (zip (places ++ i ∷ []) (before ++ a ∷ []))
    ≡ option_map (λ (ps : List ℕ). zip ps ((before ++ a ∷ []) ++ more)) (placed names (j + 1) more (places ++ i ∷ []))

abbrev behind : List ℕ → ℕ → Assigned → List Assigned → List Assigned → List ℕ → ℕ → Option (List (ℕ × Assigned))
behind names j a more before places i = matched_from names (j + 1) more (zip places before ++ (i, a) ∷ [])

further : (names : List ℕ) (j : ℕ) (a : Assigned) (more before : List Assigned) (places : List ℕ) (i : ℕ) → length places ≡ length before → Further names j a more before places i
    → behind names j a more before places i ≡ option_map (λ (ps : List ℕ). zip ps (before ++ a ∷ more)) (placed names (j + 1) more (places ++ i ∷ []))
further names j a more before places i e h =
    ap (matched_from names (j + 1) more) (sym (zip_behind places before i a e))
    ∙ (h ∙ ap (λ xs. option_map (λ (ps : List ℕ). zip ps xs) (placed names (j + 1) more (places ++ i ∷ []))) (append_assoc before (a ∷ []) more))

by_test : (names : List ℕ) (j : ℕ) (a : Assigned) (more before : List Assigned) (places : List ℕ) (i : ℕ) → length places ≡ length before → Further names j a more before places i → (b : Bool)
    → (if b then None else behind names j a more before places i) ≡ option_map (λ (ps : List ℕ). zip ps (before ++ a ∷ more)) (with_place (placed names (j + 1) more) places (if b then None else Some i))
by_test names j a more before places i e h true = refl
by_test names j a more before places i e h false = further names j a more before places i e h

one_matched : (names : List ℕ) (j : ℕ) (a : Assigned) (more before : List Assigned) (places : List ℕ) → length places ≡ length before → ((i : ℕ) → Further names j a more before places i) → (o : Option ℕ)
    → with_match (matched_from names (j + 1) more) (zip places before) a o ≡ option_map (λ (ps : List ℕ). zip ps (before ++ a ∷ more)) (with_place (placed names (j + 1) more) places (unless_taken places o))
one_matched names j a more before places e h None = refl
one_matched names j a more before places e h (Some i) =
    ap (λ (b : Bool). if b then None else behind names j a more before places i) (taken_beside i places before e)
    ∙ by_test names j a more before places i e (h i) (list_any (nat_eq i) places)

pub matched_since : (names : List ℕ) (j : ℕ) (more before : List Assigned) (places : List ℕ) → length places ≡ length before
    → matched_from names j more (zip places before) ≡ option_map (λ (ps : List ℕ). zip ps (before ++ more)) (placed names j more places)
matched_since names j [] before places e = ap (λ xs. Some (zip places xs)) (sym (append-nil before))
matched_since names j (a ∷ more) before places e =
    one_matched names j a more before places e (λ i. matched_since names (j + 1) more (before ++ a ∷ []) (places ++ i ∷ []) (one_longer places before i a e)) (formal_place names j a.formal)

pub matched_is : (names : List ℕ) (all : List Assigned) → matched names all ≡ option_map (λ (ps : List ℕ). zip ps all) (placed names 0 all [])
matched_is names all = matched_since names 0 all [] [] refl
