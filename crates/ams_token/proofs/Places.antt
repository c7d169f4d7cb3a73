-- The first place of a list at which a test passes.
use Rattle.std.proofs.Common.{◌≡◌, if◌then◌else◌, ℕ, zero, suc, ◌+◌, Bool, true, false, ◌||◌, not, cond, nat_lt, List, [], ◌∷◌, ◌++◌, length, map, slice_get, Option, Some, None, position, refl, sym, ap, ◌∙◌, subst, arith, true≢false, String}
use Rattle.std.specs.Option.{option_map}
use Rattle.std.specs.List.{position_or_len, prefix_len, list_any, IsDistinct, AllByRecursion}
use Rattle.std.specs.Str.{bytes_eq}
use Rattle.std.proofs.lemmas.Slice.Eq.{bytes_eq-Decides}
use Rattle.std.specs.String.{string_bytes, string_eq}
use Rattle.std.proofs.lemmas.Bool.{false_from_ne_true}
use Rattle.indexmap.specs.IndexSet.{insert_key}
use Rattle.ams_token.specs.NameTable.{with_name}
use Rattle.std.proofs.lemmas.Bool.Decides.{nat_tests}

one-add : (n : ℕ) → 1 + n ≡ suc n
one-add n = omega arith

zero-lt : (n : ℕ) → nat_lt 0 (suc n) ≡ true
zero-lt n = grind (arith, nat_tests)

lt-suc : (a b : ℕ) → nat_lt (suc a) (suc b) ≡ nat_lt a b
lt-suc a b = grind (arith, nat_tests)

module _ {X : Type 0} (p : X → Bool) where
  position-cons : (x : X) (xs : List X) → position p (x ∷ xs) ≡ cond (p x) (Some 0) (option_map (λ n. suc n) (position p xs))
  position-cons x xs = go (p x)
    where
      later : (b : Bool) (n : ℕ) → cond b (Some (suc n)) None ≡ option_map (λ m. suc m) (cond b (Some n) None)
      later true n = refl
      later false n = refl

      go : (b : Bool) → (let n = cond (not b) (1 + prefix_len (λ y. not (p y)) xs) 0 in cond (nat_lt n (suc (length xs))) (Some n) None) ≡ cond b (Some 0) (option_map (λ m. suc m) (position p xs))
      go true = ap (λ b. cond b (Some 0) None) (zero-lt (length xs))
      go false = ap (λ n. cond (nat_lt n (suc (length xs))) (Some n) None) (one-add (position_or_len p xs)) ∙ (ap (λ b. cond b (Some (suc (position_or_len p xs))) None) (lt-suc (position_or_len p xs) (length xs)) ∙ later (nat_lt (position_or_len p xs) (length xs)) (position_or_len p xs))

  abbrev Found : List X → ℕ → Type 0
  Found xs n = (x : X) × (slice_get xs n ≡ Some x) × (p x ≡ true) × (list_any p xs ≡ true)

  or_true : (b : Bool) → (b || true) ≡ true
  or_true true = refl
  or_true false = refl

  pub position_found : (xs : List X) (n : ℕ) → position p xs ≡ Some n → Found xs n
  position_found [] n e = cc
  position_found (x ∷ xs) n e = go (p x) refl (sym (position-cons x xs) ∙ e) (λ k g. position_found xs k g)
    where
      behind : (o : Option ℕ) (m : ℕ) → option_map (λ k. suc k) o ≡ Some m → ((k : ℕ) → o ≡ Some k → Found xs k) → p x ≡ false → Found (x ∷ xs) m
      behind None m f more h = cc
      behind (Some k) zero f more h = cc
      behind (Some k) (suc m) f more h =
          let same : k ≡ m = cc in
          let rest = more m (ap Some same) in
          (rest.0, rest.1, rest.2, ap (λ b. b || list_any p xs) h ∙ rest.3)

      go : (b : Bool) → p x ≡ b → cond b (Some 0) (option_map (λ k. suc k) (position p xs)) ≡ Some n → ((k : ℕ) → position p xs ≡ Some k → Found xs k) → Found (x ∷ xs) n
      go true h f more = let zero_is : 0 ≡ n = cc in subst (Found (x ∷ xs)) zero_is (x, refl, h, ap (λ b. b || list_any p xs) h)
      go false h f more = behind (position p xs) n f more h

  pub position_none : (xs : List X) → position p xs ≡ None → list_any p xs ≡ false
  position_none [] e = refl
  position_none (x ∷ xs) e = go (p x) refl (sym (position-cons x xs) ∙ e) (position_none xs)
    where
      none : (o : Option ℕ) → option_map (λ k. suc k) o ≡ None → o ≡ None
      none None f = refl
      none (Some k) f = cc

      go : (b : Bool) → p x ≡ b → cond b (Some 0) (option_map (λ k. suc k) (position p xs)) ≡ None → (position p xs ≡ None → list_any p xs ≡ false) → (p x || list_any p xs) ≡ false
      go true h f more = cc
      go false h f more = ap (λ b. b || list_any p xs) h ∙ more (none (position p xs) f)

pub position-map : {X Y : Type 0} (p : Y → Bool) (f : X → Y) (xs : List X) → position p (map f xs) ≡ position (λ x. p (f x)) xs
position-map p f [] = refl
position-map p f (x ∷ xs) = position-cons p (f x) (map f xs) ∙ (ap (λ o. cond (p (f x)) (Some 0) (option_map (λ m. suc m) o)) (position-map p f xs) ∙ sym (position-cons (λ x. p (f x)) x xs))

pub list_any-map : {X Y : Type 0} (p : Y → Bool) (f : X → Y) (xs : List X) → list_any p (map f xs) ≡ list_any (λ x. p (f x)) xs
list_any-map p f [] = refl
list_any-map p f (x ∷ xs) = ap (λ b. p (f x) || b) (list_any-map p f xs)

pub slice_get-last : {X : Type 0} (xs : List X) (x : X) → slice_get (xs ++ x ∷ []) (length xs) ≡ Some x
slice_get-last [] x = refl
slice_get-last (y ∷ xs) x = slice_get-last xs x

-- ---- texts

same_text : (x y : List ℕ) → bytes_eq x y ≡ true → y ≡ x
same_text x y e = sym ((bytes_eq-Decides x y).0 e)

-- a text with a number is in the table
pub there_already : (text : List ℕ) (names : List (List ℕ)) (n : ℕ) → position (bytes_eq text) names ≡ Some n → (names ≡ with_name names text) × (slice_get names n ≡ Some text)
there_already text names n e =
    let f = position_found (bytes_eq text) names n e in
    (sym (ap (λ b. if b then names else names ++ text ∷ []) f.3), f.1 ∙ ap Some (same_text text f.0 f.2))

-- a text with no number goes to the end
pub put_last : {A : Type 0} (ks : List (String A)) (k : String A) (text : List ℕ) → string_bytes k ≡ text → position (bytes_eq text) (map string_bytes ks) ≡ None → map string_bytes (insert_key string_eq ks k) ≡ map string_bytes ks ++ text ∷ []
put_last {A = A} ks k text same none =
    let new : list_any (bytes_eq text) (map string_bytes ks) ≡ false = position_none (bytes_eq text) (map string_bytes ks) none in
    let other : list_any (string_eq k) ks ≡ false = sym (list_any-map (bytes_eq (string_bytes k)) string_bytes ks) ∙ (ap (λ t. list_any (bytes_eq t) (map string_bytes ks)) same ∙ new) in
    ap (λ b. map string_bytes (if b then ks else ks ++ k ∷ [])) other ∙ (map-last ks ∙ ap (λ t. map string_bytes ks ++ t ∷ []) same)
  where
    map-last : (xs : List (String A)) → map string_bytes (xs ++ k ∷ []) ≡ map string_bytes xs ++ string_bytes k ∷ []
    map-last [] = refl
    map-last (x ∷ xs) = ap (λ ys. string_bytes x ∷ ys) (map-last xs)

pub added : (names new : List (List ℕ)) (text : List ℕ) (n : ℕ) → position (bytes_eq text) names ≡ None → n ≡ length names → new ≡ names ++ text ∷ [] → (new ≡ with_name names text) × (slice_get new n ≡ Some text)
added names new text n none at is =
    (is ∙ sym (ap (λ b. if b then names else names ++ text ∷ []) (position_none (bytes_eq text) names none)), ap (λ m. slice_get new m) at ∙ (ap (λ xs. slice_get xs (length names)) is ∙ slice_get-last names text))

-- ---- distinct texts

not_equal : {A : Type 0} (k : String A) (text : List ℕ) → bytes_eq (string_bytes k) text ≡ false → bytes_eq text (string_bytes k) ≡ false
not_equal k text h = false_from_ne_true _ (λ e. true≢false (sym ((bytes_eq-Decides (string_bytes k) text).1 (same_text text (string_bytes k) e)) ∙ h))

differs : {A : Type 0} (k : String A) (ks : List (String A)) (n : ℕ) (text : List ℕ) → AllByRecursion (λ y. string_eq k y ≡ false) ks → slice_get (map string_bytes ks) n ≡ Some text → bytes_eq (string_bytes k) text ≡ false
differs k [] n text all e = cc
differs k (x ∷ ks) zero text all e = let same : string_bytes x ≡ text = cc in subst (λ t. bytes_eq (string_bytes k) t ≡ false) same all.0
differs k (x ∷ ks) (suc n) text all e = differs k ks n text all.1 e

pub distinct_place : {A : Type 0} (ks : List (String A)) (n : ℕ) (text : List ℕ) → IsDistinct string_eq ks → slice_get (map string_bytes ks) n ≡ Some text → position (bytes_eq text) (map string_bytes ks) ≡ Some n
unfolding IsDistinct
distinct_place [] n text d e = cc
distinct_place (k ∷ ks) zero text d e =
    let same : string_bytes k ≡ text = cc in
    position-cons (bytes_eq text) (string_bytes k) (map string_bytes ks) ∙ ap (λ b. cond b (Some 0) (option_map (λ m. suc m) (position (bytes_eq text) (map string_bytes ks)))) ((bytes_eq-Decides text (string_bytes k)).1 (sym same))
distinct_place (k ∷ ks) (suc n) text d e =
    position-cons (bytes_eq text) (string_bytes k) (map string_bytes ks)
    ∙ (ap (λ b. cond b (Some 0) (option_map (λ m. suc m) (position (bytes_eq text) (map string_bytes ks)))) (not_equal k text (differs k ks n text d.0 e))
    ∙ ap (option_map (λ m. suc m)) (distinct_place ks n text d.1 e))
