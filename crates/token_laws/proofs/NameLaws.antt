-- The texts of a table of names are different.
use Rattle.std.proofs.Common.{◌≡◌, ℕ, zero, suc, Bool, true, false, ◌||◌, cond, List, [], ◌∷◌, ◌++◌, Option, Some, None, refl, sym, ap, ◌∙◌}
use Rattle.std.specs.Prelude.{slice_get, fold}
use Rattle.std.specs.List.{list_any}
use Rattle.std.specs.Str.{bytes_eq}
use Rattle.std.proofs.lemmas.Slice.Eq.{bytes_eq-Decides}
use Rattle.std.proofs.lemmas.List.Folds.{list_any-append}
use Rattle.ams_token.specs.NameTable.{known_names, with_name}
use Rattle.ams_lexer.specs.Pieces.{Lexeme, reserved, name, number, character, string, bits, mark}
use Rattle.ams_lexer.specs.Texts.{Cut, with_text, names_of}

abbrev pub Different : List (List ℕ) → Type 0
Different [] = Unit {0}
Different (x ∷ xs) = (list_any (bytes_eq x) xs ≡ false) × Different xs

true_false : (b : Bool) → b ≡ true → b ≡ false → ⊥
true_false b t f = cc

either_false : (a b : Bool) → (a || b) ≡ false → (a ≡ false) × (b ≡ false)
either_false true b h = absurd (true_false true refl h)
either_false false b h = (refl, h)

both_false : (a b : Bool) → a ≡ false → b ≡ false → (a || b) ≡ false
both_false a b e f = rw e f

same_bytes : (x y : List ℕ) → x ≡ y → bytes_eq x y ≡ true
same_bytes x y e = (bytes_eq-Decides x y).1 e

other_bytes : (x y : List ℕ) → bytes_eq x y ≡ false → bytes_eq y x ≡ false
other_bytes x y h = by_test (bytes_eq y x) refl
  where
    by_test : (b : Bool) → bytes_eq y x ≡ b → b ≡ false
    by_test false e = refl
    by_test true e = absurd (true_false (bytes_eq x y) (same_bytes x y (sym ((bytes_eq-Decides y x).0 e))) h)

or_true : (a b : Bool) → b ≡ true → (a || b) ≡ true
or_true true b h = refl
or_true false b h = h

-- a text that is in the table is found there
found : (xs : List (List ℕ)) (i : ℕ) (x : List ℕ) → slice_get xs i ≡ Some x → list_any (bytes_eq x) xs ≡ true
found [] i x h = cc
found (y ∷ ys) zero x h = let e : y ≡ x = cc in rw (same_bytes x y (sym e)) refl
found (y ∷ ys) (suc i) x h = or_true (bytes_eq x y) (list_any (bytes_eq x) ys) (found ys i x h)

-- each text stands at one place
pub one_place : (xs : List (List ℕ)) (i j : ℕ) (x : List ℕ) → Different xs → slice_get xs i ≡ Some x → slice_get xs j ≡ Some x → i ≡ j
one_place [] i j x d e f = cc
one_place (y ∷ ys) zero zero x d e f = refl
one_place (y ∷ ys) zero (suc j) x d e f =
    let same : y ≡ x = cc in
    absurd (true_false (list_any (bytes_eq y) ys) (ap (λ z. list_any (bytes_eq z) ys) same ∙ found ys j x f) d.0)
one_place (y ∷ ys) (suc i) zero x d e f =
    let same : y ≡ x = cc in
    absurd (true_false (list_any (bytes_eq y) ys) (ap (λ z. list_any (bytes_eq z) ys) same ∙ found ys i x e) d.0)
one_place (y ∷ ys) (suc i) (suc j) x d e f = ap suc (one_place ys i j x d.1 e f)

-- one more at the end
different_more : (xs : List (List ℕ)) (t : List ℕ) → Different xs → list_any (bytes_eq t) xs ≡ false → Different (xs ++ t ∷ [])
different_more [] t d n = (refl, tt)
different_more (x ∷ xs) t d n =
    let parts = either_false (bytes_eq t x) (list_any (bytes_eq t) xs) n in
    let last : (bytes_eq x t || false) ≡ false = both_false (bytes_eq x t) false (other_bytes t x parts.0) refl in (
      list_any-append (bytes_eq x) xs (t ∷ []) ∙ both_false (list_any (bytes_eq x) xs) (bytes_eq x t || false) d.0 last,
      different_more xs t d.1 parts.1,
    )

with_name-different : (xs : List (List ℕ)) (t : List ℕ) → Different xs → Different (with_name xs t)
with_name-different xs t d = by_test (list_any (bytes_eq t) xs) refl
  where
    by_test : (b : Bool) → list_any (bytes_eq t) xs ≡ b → Different (cond b xs (xs ++ t ∷ []))
    by_test true e = d
    by_test false e = different_more xs t d e

with_text-different : (xs : List (List ℕ)) (x : Option Lexeme) → Different xs → Different (with_text xs x)
with_text-different xs None d = d
with_text-different xs (Some (name t)) d = with_name-different xs t d
with_text-different xs (Some (string t)) d = with_name-different xs t d
with_text-different xs (Some (bits t)) d = with_name-different xs t d
with_text-different xs (Some (reserved x)) d = d
with_text-different xs (Some (number x)) d = d
with_text-different xs (Some (character x)) d = d
with_text-different xs (Some (mark x)) d = d

all-different : (cuts : List Cut) (xs : List (List ℕ)) → Different xs → Different (fold (λ names cut. with_text names cut.lexeme) xs cuts)
all-different [] xs d = d
all-different (cut ∷ more) xs d = all-different more (with_text xs cut.lexeme) (with_text-different xs cut.lexeme d)

pub names-different : (cuts : List Cut) → Different (names_of cuts)
names-different cuts = all-different cuts known_names (refl, (refl, (refl, (refl, tt))))
