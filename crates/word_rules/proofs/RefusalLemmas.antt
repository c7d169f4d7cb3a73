-- The words are read one by one.
use Rattle.std.proofs.Common.{◌≡◌, ℕ, ◌+◌, ◌<◌, ◌≤◌, Bool, true, false, List, [], ◌∷◌, ◌++◌, Option, Some, None, is_some, String, string_bytes, get_or, length, take, drop, suc, refl, sym, ap, ◌∙◌, arith, add-one}
use Rattle.std.specs.Prelude.{option_copied}
use Rattle.std.specs.Borrow.{Bor}
use Rattle.std.specs.Option.{option_map_or}
use Rattle.std.specs.declared.alloc.Global.{Global}
use Rattle.std.proofs.lemmas.List.{get_or-map, length-map, length-take-le, take_more, take-map, drop_all}
use Rattle.std.proofs.Math.Seq.{drop-cons}
use Rattle.word_rules.specs.Words.{Text, texts, after_word, refused_behind, refusal, is_whole}
use Rattle.word_rules.proofs.CountLemmas.{CountsWords, counts_start, counts_few, counts_on}

-- the text of the word at a place
pub text_at : (words : List (String Global)) (at : ℕ) (word : String Global) (text : Text) → at < length words → word ≡ get_or words at word → text ≡ string_bytes word →
    text ≡ get_or (texts words) at []
text_at words at word text h e f = f ∙ sym (get_or-map string_bytes words at word [] h ∙ ap string_bytes (sym e))

pub length_texts : (words : List (String Global)) → length (texts words) ≡ length words
length_texts words = length-map words string_bytes

-- what a word comes to is asked of the texts
pub word_of_texts : (words : List (String Global)) (at : ℕ) (waiting : Option Text) (word : Text) (answer : Option (Option Text)) → answer ≡ after_word (texts (take at words)) waiting word →
    after_word (take at (texts words)) waiting word ≡ answer
word_of_texts words at waiting word answer is = ap (λ l. after_word l waiting word) (take-map string_bytes at words) ∙ sym is

text_ahead : (words : List Text) (at : ℕ) (word : Text) → at < length words → word ≡ get_or words at [] → drop at words ≡ word ∷ drop (at + 1) words
text_ahead words at word h e =
    drop-cons words at [] h ∙ ap (λ t. t ∷ drop (suc at) words) (sym e) ∙ ap (λ n. word ∷ drop n words) (sym (add-one at))

text_behind : (words : List Text) (at : ℕ) (word : Text) → at < length words → word ≡ get_or words at [] → take (at + 1) words ≡ take at words ++ word ∷ []
text_behind words at word h e = take_more words at [] h ∙ ap (λ t. take at words ++ t ∷ []) (sym e)

-- none of the words before a place is refused
pub record NoneRefused (words : List Text) (at : ℕ) (waiting : Option Text) : Type 0 where
  pub rest : refused_behind (take at words) waiting (drop at words) ≡ refused_behind [] None words
  pub counts : CountsWords (take at words) waiting

pub none_at_start : (words : List Text) → NoneRefused words 0 None
none_at_start words = record { rest = refl; counts = counts_start }

pub few_before : (words : List Text) (at : ℕ) (waiting : Option Text) → NoneRefused words at waiting → at ≤ length words → at ≤ 24
few_before words at waiting inv h = let few = counts_few (take at words) waiting inv.counts in let long = length-take-le at words h in omega arith

refused_is : (words : List Text) (n : ℕ) → refused_behind [] None words ≡ Some n → refusal words ≡ Some n
refused_is words n h = rw h refl

met : (before rest : List Text) (waiting : Option Text) (word : Text) (o : Option (Option Text)) → after_word before waiting word ≡ o →
    refused_behind before waiting (word ∷ rest) ≡ option_map_or (λ next. refused_behind (before ++ word ∷ []) next rest) o (Some (length before + 1))
met before rest waiting word o e = ap (λ r. option_map_or (λ next. refused_behind (before ++ word ∷ []) next rest) r (Some (length before + 1))) e

pub word_refused : (words : List Text) (at : ℕ) (waiting : Option Text) (word : Text) → NoneRefused words at waiting → at < length words → word ≡ get_or words at [] →
    after_word (take at words) waiting word ≡ None → refusal words ≡ Some (at + 1)
word_refused words at waiting word inv h e refused =
    refused_is words (at + 1)
    (sym inv.rest ∙ ap (refused_behind (take at words) waiting) (text_ahead words at word h e)
    ∙ met (take at words) (drop (at + 1) words) waiting word None refused
    ∙ ap (λ n. Some (n + 1)) (length-take-le at words (omega arith)))

pub word_accepted : (words : List Text) (at : ℕ) (waiting : Option Text) (word : Text) (next : Option Text) → NoneRefused words at waiting → at < length words → word ≡ get_or words at [] →
    after_word (take at words) waiting word ≡ Some next → NoneRefused words (at + 1) next
word_accepted words at waiting word next inv h e accepted =
    let behind = text_behind words at word h e in
    record {
      rest = ap (λ l. refused_behind l next (drop (at + 1) words)) behind
          ∙ sym (ap (refused_behind (take at words) waiting) (text_ahead words at word h e) ∙ met (take at words) (drop (at + 1) words) waiting word (Some next) accepted)
          ∙ inv.rest;
      counts = rw behind (counts_on (take at words) waiting word next accepted inv.counts);
    }

ends : (words : List Text) (at : ℕ) (waiting : Option Text) → NoneRefused words at waiting → length words ≤ at → refused_behind (take at words) waiting [] ≡ refused_behind [] None words
ends words at waiting inv h = sym (ap (refused_behind (take at words) waiting) (drop_all at words h)) ∙ inv.rest

-- the last word's option has no value
pub value_missing : (words : List Text) (at : ℕ) (waiting : Option Text) → NoneRefused words at waiting → at ≡ length words → is_some waiting ≡ true → refusal words ≡ Some at
value_missing words at None inv h e = absurd (cc)
value_missing words at (Some name) inv h e =
    refused_is words at (sym (ends words at (Some name) inv (omega arith)) ∙ ap (λ n. Some n) (length-take-le at words (omega arith)))

-- no word is refused
pub none_refused : (words : List Text) (at : ℕ) (waiting : Option Text) → NoneRefused words at waiting → length words ≤ at → is_some waiting ≡ false → refused_behind [] None words ≡ None
none_refused words at None inv h e = sym (ends words at None inv h)
none_refused words at (Some name) inv h e = absurd (cc)

pub whole_refused : (words : List Text) (at : ℕ) (waiting : Option Text) (whole : Bool) → NoneRefused words at waiting → length words ≤ at → is_some waiting ≡ false → whole ≡ is_whole words → whole ≡ false → refusal words ≡ Some 0
whole_refused words at waiting whole inv h e is false_ =
    let none = none_refused words at waiting inv h e in
    let wrong : is_whole words ≡ false = sym is ∙ false_ in
    rw (none, wrong) refl

pub all_accepted : (words : List Text) (at : ℕ) (waiting : Option Text) (whole : Bool) → NoneRefused words at waiting → length words ≤ at → is_some waiting ≡ false → whole ≡ is_whole words → whole ≡ true → refusal words ≡ None
all_accepted words at waiting whole inv h e is true_ =
    let none = none_refused words at waiting inv h e in
    let right : is_whole words ≡ true = sym is ∙ true_ in
    rw (none, right) refl

pub copied_some : (o : Option (Bor Text)) → is_some (option_copied o) ≡ is_some o
copied_some None = refl
copied_some (Some x) = refl
