-- Words of which none is refused, word by word.
use Rattle.std.proofs.Common.{◌≡◌, ◌⊎◌, ℕ, ◌+◌, ◌&&◌, Bool, true, false, not, cond, List, [], ◌∷◌, ◌++◌, Option, Some, None, refl, sym, ap, ◌∙◌, length, inl, inr}
use Rattle.std.specs.Prelude.{⊤, bytes_eq, option_and_then}
use Rattle.std.specs.List.{list_any}
use Rattle.std.specs.Option.{option_map_or}
use Rattle.std.proofs.lemmas.Bool.{and_parts}
use Rattle.clap.specs.Lexer.{long_of}
use Rattle.word_rules.specs.Words.{Text, is_option, is_allowed, names, value_or_next, value_at, value_of, after_name, after_option, refused_behind}
use Rattle.word_rules.proofs.ValueLemmas.{bytes_same, allowed_bare, bare_not_long}

-- the word names an option that no word before it names
pub record IsNewOption (before : List Text) (word name : Text) (value : Option Text) : Type 0 where
  pub long : long_of word ≡ Some (name, value)
  pub option : is_option name ≡ true
  pub new : list_any (names name) before ≡ false

abbrev pub Reads : List Text → Option Text → List Text → Type 0
Reads before None [] = ⊤
Reads before (Some name) [] = ⊥
Reads before None (word ∷ words) = (name : Text)
    × ((IsNewOption before word name None × Reads (before ++ word ∷ []) (Some name) words)
    ⊎ ((value : Text) × IsNewOption before word name (Some value) × (is_allowed name value ≡ true) × Reads (before ++ word ∷ []) None words))
Reads before (Some name) (word ∷ words) = (is_allowed name word ≡ true) × Reads (before ++ word ∷ []) None words

Goes : List Text → Text → List Text → Type 0
Goes before word words = (next : Option Text) → refused_behind (before ++ word ∷ []) next words ≡ None → Reads (before ++ word ∷ []) next words

abbrev pub behind : List Text → Text → List Text → Option (Option Text) → Option ℕ
behind before word words o = option_map_or (λ next. refused_behind (before ++ word ∷ []) next words) o (Some (length before + 1))

reads_value : (before words : List Text) (word name : Text) (b : Bool) → is_allowed name word ≡ b → behind before word words (cond b (Some None) None) ≡ None → Goes before word words → Reads before (Some name) (word ∷ words)
unfolding Goes
reads_value before words word name true e h goes = (e, goes None h)
reads_value before words word name false e h goes = absurd (cc)

not_true : (b : Bool) → not b ≡ true → b ≡ false
not_true true h = absurd (cc)
not_true false h = refl

reads_attached : (before words : List Text) (word name value : Text) (b : Bool) → is_allowed name value ≡ b → IsNewOption before word name (Some value) → behind before word words (cond b (Some None) None) ≡ None → Goes before word words → Reads before None (word ∷ words)
unfolding Goes
reads_attached before words word name value true e new h goes = (name, inr (value, new, e, goes None h))
reads_attached before words word name value false e new h goes = absurd (cc)

reads_named : (before words : List Text) (word name : Text) (value : Option Text) → IsNewOption before word name value → behind before word words (after_name name value) ≡ None → Goes before word words → Reads before None (word ∷ words)
unfolding Goes
reads_named before words word name None new h goes = (name, inl (new, goes (Some name) h))
reads_named before words word name (Some value) new h goes = reads_attached before words word name value (is_allowed name value) refl new h goes

reads_new : (before words : List Text) (word name : Text) (value : Option Text) (b : Bool) → long_of word ≡ Some (name, value) → (is_option name && not (list_any (names name) before)) ≡ b → behind before word words (cond b (after_name name value) None) ≡ None → Goes before word words → Reads before None (word ∷ words)
reads_new before words word name value true e is h goes =
    let parts = and_parts (is_option name) (not (list_any (names name) before)) is in
    reads_named before words word name value (record { long = e; option = parts.0; new = not_true (list_any (names name) before) parts.1 }) h goes
reads_new before words word name value false e is h goes = absurd (cc)

reads_option : (before words : List Text) (word : Text) (o : Option (Text × Option Text)) → long_of word ≡ o → behind before word words (after_option before o) ≡ None → Goes before word words → Reads before None (word ∷ words)
reads_option before words word None e h goes = absurd (cc)
reads_option before words word (Some (name, value)) e h goes = reads_new before words word name value (is_option name && not (list_any (names name) before)) e refl h goes

pub reads : (before words : List Text) (waiting : Option Text) → refused_behind before waiting words ≡ None → Reads before waiting words
unfolding Goes
reads before [] None h = tt
reads before [] (Some name) h = absurd (cc)
reads before (word ∷ words) None h = reads_option before words word (long_of word) refl h (λ next e. reads (before ++ word ∷ []) words next e)
reads before (word ∷ words) (Some name) h = reads_value before words word name (is_allowed name word) refl h (λ next e. reads (before ++ word ∷ []) words next e)

-- the first of the words that wait for nothing, as the option's value
first_allowed : (before words : List Text) (name value : Text) → Reads before (Some name) words → value_or_next None words ≡ Some value → is_allowed name value ≡ true
first_allowed before [] name value r e = absurd r
first_allowed before (word ∷ words) name value r e = let same : word ≡ value = cc in ap (is_allowed name) (sym same) ∙ r.0

-- whether a word names an option is told by its name
pub names_at : (name word : Text) (p : Text × Option Text) → long_of word ≡ Some p → names name word ≡ bytes_eq p.0 name
unfolding names
names_at name word p e = ap (λ o. option_map_or (λ q. bytes_eq q.0 name) o false) e

pub names_none : (name word : Text) → long_of word ≡ None → names name word ≡ false
unfolding names
names_none name word e = ap (λ o. option_map_or (λ q. bytes_eq q.0 name) o false) e

pub value_at_is : (word : Text) (words : List Text) (p : Text × Option Text) → long_of word ≡ Some p → value_at word words ≡ value_or_next p.1 words
unfolding value_at
value_at_is word words p e = ap (λ o. value_or_next (option_and_then (λ q. q.1) o) words) e

pub value_step : (name word : Text) (words : List Text) (name0 : Text) (value : Option Text) → long_of word ≡ Some (name0, value) → value_of name (word ∷ words) ≡ cond (bytes_eq name0 name) (value_or_next value words) (value_of name words)
value_step name word words name0 value e =
    ap (λ b. cond b (value_at word words) (value_of name words)) (names_at name word (name0, value) e)
    ∙ ap (λ v. cond (bytes_eq name0 name) v (value_of name words)) (value_at_is word words (name0, value) e)

pub value_skips : (name word : Text) (words : List Text) → long_of word ≡ None → value_of name (word ∷ words) ≡ value_of name words
value_skips name word words e = ap (λ b. cond b (value_at word words) (value_of name words)) (names_none name word e)

found_at : (name value name0 : Text) (b : Bool) (here rest : Option Text) → bytes_eq name0 name ≡ b → cond b here rest ≡ Some value → (here ≡ Some value → is_allowed name0 value ≡ true) → (rest ≡ Some value → is_allowed name value ≡ true) → is_allowed name value ≡ true
found_at name value name0 true here rest e h first later = ap (λ n. is_allowed n value) (sym (bytes_same name0 name e)) ∙ first h
found_at name value name0 false here rest e h first later = later h

-- the value that the words give an option is one that it may have
pub value_allowed : (before words : List Text) (waiting : Option Text) (name value : Text) → Reads before waiting words → value_of name words ≡ Some value → is_allowed name value ≡ true
value_allowed before [] None name value r e = absurd (cc)
value_allowed before [] (Some name0) name value r e = absurd r
value_allowed before (word ∷ words) None name value (name0, inl (new, r)) e =
    found_at name value name0 (bytes_eq name0 name) (value_or_next None words) (value_of name words) refl (sym (value_step name word words name0 None new.long) ∙ e)
    (first_allowed (before ++ word ∷ []) words name0 value r) (value_allowed (before ++ word ∷ []) words (Some name0) name value r)
value_allowed before (word ∷ words) None name value (name0, inr (here, new, allowed, r)) e =
    found_at name value name0 (bytes_eq name0 name) (Some here) (value_of name words) refl (sym (value_step name word words name0 (Some here) new.long) ∙ e)
    (λ (s : Some here ≡ Some value). let same : here ≡ value = cc in ap (is_allowed name0) (sym same) ∙ allowed) (value_allowed (before ++ word ∷ []) words None name value r)
value_allowed before (word ∷ words) (Some name0) name value r e =
    value_allowed (before ++ word ∷ []) words None name value r.1 (sym (value_skips name word words (bare_not_long word (allowed_bare name0 word r.0))) ∙ e)
