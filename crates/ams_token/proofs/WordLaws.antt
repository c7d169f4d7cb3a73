-- Each reserved word is found by its text, and by no other.
use Rattle.std.proofs.Common.{◌≡◌, ℕ, List, [], ◌∷◌, map, Option, Some, refl, sym, ap, ◌∙◌, inl, inr}
use Rattle.std.specs.Str.{bytes_eq}
use Rattle.std.specs.List.{find}
use Rattle.std.specs.Option.{option_map}
use Rattle.std.proofs.lemmas.Slice.Eq.{bytes_eq-Decides}
use Rattle.std.proofs.lemmas.Bool.{cases_Bool}
use Rattle.ams_token.specs.declared.word.Word.{Word}
use Rattle.ams_token.specs.declared.word.Word.TheVariants as w
use Rattle.ams_token.specs.Spelling.{word_text}
use Rattle.ams_token.proofs.Listed.{word_table}

abbrev find_in : List (Word × List ℕ) → List ℕ → Option Word
find_in xs text = option_map (λ x. x.0) (find (λ x. bytes_eq text x.1) xs)

abbrev pub find_word : List ℕ → Option Word
find_word text = find_in word_table text

find_word-text : (x : Word) → find_word (word_text x) ≡ Some x
find_word-text w.Abs = refl
find_word-text _ = refl

some_word : (x y : Word) → Some x ≡ Some y → x ≡ y
some_word x y h = cc

found_in : (text : List ℕ) (xs : List (Word × List ℕ)) (x : Word) → map (λ y. word_text y.0) xs ≡ map (λ y. y.1) xs → find_in xs text ≡ Some x → word_text x ≡ text
found_in text [] x same h = absurd cc
found_in text (y ∷ xs) x same h =
    elim (cases_Bool (bytes_eq text y.1)) [
      | inl t ↦
          let e : Some y.0 ≡ Some x = rw t at h in
          let spelled : word_text y.0 ≡ y.1 = cc in
          ap word_text (sym (some_word y.0 x e)) ∙ (spelled ∙ sym ((bytes_eq-Decides text y.1).0 t))
      | inr f ↦
          let e : find_in xs text ≡ Some x = rw f at h in
          let rest : map (λ y. word_text y.0) xs ≡ map (λ y. y.1) xs = cc in
          found_in text xs x rest e
    ]

pub found_text : (text : List ℕ) (x : Word) → find_word text ≡ Some x → word_text x ≡ text
found_text text x h = found_in text word_table x refl h

pub word_found : (x : Word) (text : List ℕ) → word_text x ≡ text → find_word text ≡ Some x
word_found x text h = ap find_word (sym h) ∙ find_word-text x
