-- At most two words stand before the first refused one for each option.
use Rattle.std.proofs.Common.{◌≡◌, ℕ, ◌+◌, ◌*◌, ◌≤◌, ◌&&◌, ◌||◌, Bool, true, false, not, cond, List, [], ◌∷◌, ◌++◌, Option, Some, None, is_some, refl, ap, subst, ◌∙◌, arith, length}
use Rattle.std.specs.Prelude.{bytes_eq}
use Rattle.std.specs.List.{list_any}
use Rattle.std.specs.Option.{option_map_or}
use Rattle.std.proofs.lemmas.Bool.{and_parts}
use Rattle.std.proofs.lemmas.List.{length_push}
use Rattle.std.proofs.lemmas.List.Folds.{list_any-append}
use Rattle.clap.specs.Lexer.{long_of}
use Rattle.word_rules.specs.Words.{Text, option_names, is_option, names, is_allowed, after_name, after_option, after_word}
use Rattle.word_rules.proofs.ValueLemmas.{bytes_same, same_bytes}

pub one_if : Bool → ℕ
one_if b = cond b 1 0

one_if_most : (b : Bool) → one_if b ≤ 1
unfolding one_if
one_if_most true = omega arith
one_if_most false = omega arith

one_if_more : (a b : Bool) → (a ≡ true → b ≡ true) → one_if a ≤ one_if b
unfolding one_if
one_if_more true b h = let e = h refl in rw e (omega arith)
one_if_more false b h = omega arith

pub count : (Text → Bool) → List Text → ℕ
count p [] = 0
count p (x ∷ xs) = one_if (p x) + count p xs

count_most : (p : Text → Bool) (xs : List Text) → count p xs ≤ length xs
unfolding count
count_most p [] = omega arith
count_most p (x ∷ xs) = let head = one_if_most (p x) in let rest = count_most p xs in omega arith

count_more : (p q : Text → Bool) (xs : List Text) → ((x : Text) → p x ≡ true → q x ≡ true) → count p xs ≤ count q xs
unfolding count
count_more p q [] h = omega arith
count_more p q (x ∷ xs) h = let head = one_if_more (p x) (q x) (h x) in let rest = count_more p q xs h in omega arith

one_if_grows : (a b : Bool) → a ≡ false → b ≡ true → one_if a + 1 ≤ one_if b
unfolding one_if
one_if_grows a b e f = rw (e, f) (omega arith)

grows_at : (p q : Text → Bool) (name x : Text) (xs : List Text) (b : Bool) → bytes_eq x name ≡ b → (p x ≡ true → q x ≡ true) → (b || list_any (λ y. bytes_eq y name) xs) ≡ true → p name ≡ false → q name ≡ true
    → count p xs ≤ count q xs → (list_any (λ y. bytes_eq y name) xs ≡ true → count p xs + 1 ≤ count q xs) → one_if (p x) + count p xs + 1 ≤ one_if (q x) + count q xs
grows_at p q name x xs true e h any without with_ more grows =
    let same = bytes_same x name e in
    let head = one_if_grows (p x) (q x) (ap p same ∙ without) (ap q same ∙ with_) in omega arith
grows_at p q name x xs false e h any without with_ more grows =
    let head = one_if_more (p x) (q x) h in
    let rest = grows any in omega arith

count_grows : (p q : Text → Bool) (name : Text) (xs : List Text) → ((x : Text) → p x ≡ true → q x ≡ true) → list_any (λ x. bytes_eq x name) xs ≡ true → p name ≡ false → q name ≡ true → count p xs + 1 ≤ count q xs
unfolding count
count_grows p q name [] h any without with_ = absurd (cc)
count_grows p q name (x ∷ xs) h any without with_ =
    grows_at p q name x xs (bytes_eq x name) refl (h x) any without with_ (count_more p q xs h) (λ a. count_grows p q name xs h a without with_)

pub given_count : List Text → ℕ
given_count before = count (λ name. list_any (names name) before) option_names

given_most : (before : List Text) → given_count before ≤ 12
unfolding given_count option_names
given_most before = count_most (λ name. list_any (names name) before) option_names

or_left : (a b : Bool) → a ≡ true → (a || b) ≡ true
or_left a b e = rw e

or_right : (a b : Bool) → b ≡ true → (a || b) ≡ true
or_right true b e = refl
or_right false b e = e

pub named_on : (before : List Text) (word name : Text) → list_any (names name) before ≡ true → list_any (names name) (before ++ word ∷ []) ≡ true
named_on before word name h = list_any-append (names name) before (word ∷ []) ∙ or_left (list_any (names name) before) (list_any (names name) (word ∷ [])) h

given_on : (before : List Text) (word : Text) → given_count before ≤ given_count (before ++ word ∷ [])
unfolding given_count
given_on before word = count_more (λ name. list_any (names name) before) (λ name. list_any (names name) (before ++ word ∷ [])) option_names (named_on before word)

pub named_here : (before : List Text) (word name : Text) → names name word ≡ true → list_any (names name) (before ++ word ∷ []) ≡ true
named_here before word name h = list_any-append (names name) before (word ∷ []) ∙ or_right (list_any (names name) before) (names name word || false) (or_left (names name word) false h)

given_grows : (before : List Text) (word name : Text) → is_option name ≡ true → list_any (names name) before ≡ false → names name word ≡ true → given_count before + 1 ≤ given_count (before ++ word ∷ [])
unfolding given_count is_option
given_grows before word name option new here =
    count_grows (λ other. list_any (names other) before) (λ other. list_any (names other) (before ++ word ∷ [])) name option_names (named_on before word) option new (named_here before word name here)

pub names_its_own : (word : Text) (p : Text × Option Text) → long_of word ≡ Some p → names p.0 word ≡ true
unfolding names
names_its_own word p e = ap (λ o. option_map_or (λ q. bytes_eq q.0 p.0) o false) e ∙ same_bytes p.0

-- as many words as two for each option that is given, one less where the last waits for its value
pub record CountsWords (before : List Text) (waiting : Option Text) : Type 0 where
  pub count : length before + one_if (is_some waiting) ≤ 2 * given_count before

pub counts_start : CountsWords [] None
unfolding one_if
counts_start = record { count = omega arith }

pub counts_few : (before : List Text) (waiting : Option Text) → CountsWords before waiting → length before ≤ 24
counts_few before waiting c = let count = c.count in let most = given_most before in omega arith

not_true : (b : Bool) → not b ≡ true → b ≡ false
not_true true h = absurd (cc)
not_true false h = refl

option_counts : (before : List Text) (word : Text) (next : Option Text) (o : Option (Text × Option Text)) → long_of word ≡ o → after_option before o ≡ Some next → CountsWords before None → CountsWords (before ++ word ∷ []) next
unfolding one_if
option_counts before word next None e h c = absurd (cc)
option_counts before word next (Some p) e h c = new (is_option p.0 && not (list_any (names p.0) before)) refl h
  where
    new : (b : Bool) → (is_option p.0 && not (list_any (names p.0) before)) ≡ b → cond b (after_name p.0 p.1) None ≡ Some next → CountsWords (before ++ word ∷ []) next
    new true is h =
        let parts = and_parts (is_option p.0) (not (list_any (names p.0) before)) is in
        let grows = given_grows before word p.0 parts.0 (not_true (list_any (names p.0) before) parts.1) (names_its_own word p e) in
        let count = c.count in
        let some = one_if_most (is_some next) in
        let more : length (before ++ word ∷ []) ≡ length before + 1 = length_push before word in
        record { count = omega arith }
    new false is h = absurd (cc)

value_counts : (before : List Text) (word : Text) (b : Bool) (next : Option Text) (name : Text) → cond b (Some None) None ≡ Some next → CountsWords before (Some name) → CountsWords (before ++ word ∷ []) next
unfolding one_if
value_counts before word true next name h c =
    let none : None ≡ next = cc in
    let on = given_on before word in
    let count = c.count in
    let more : length (before ++ word ∷ []) ≡ length before + 1 = length_push before word in
    subst (CountsWords (before ++ word ∷ [])) none (record { count = omega arith })
value_counts before word false next name h c = absurd (cc)

pub counts_on : (before : List Text) (waiting : Option Text) (word : Text) (next : Option Text) → after_word before waiting word ≡ Some next → CountsWords before waiting → CountsWords (before ++ word ∷ []) next
counts_on before None word next h c = option_counts before word next (long_of word) refl h c
counts_on before (Some name) word next h c = value_counts before word (is_allowed name word) next name h c
