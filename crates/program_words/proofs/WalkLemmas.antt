-- What `clap` makes of words of which none is refused.
use Rattle.std.proofs.Common.{◌≡◌, ℕ, ◌&&◌, ◌||◌, Bool, true, false, cond, List, [], ◌∷◌, ◌++◌, Option, Some, None, is_some, codes, refl, sym, ap, subst, ◌∙◌, append_assoc, inl, inr}
use Rattle.std.specs.Prelude.{⊤, bytes_eq, nat_lt}
use Rattle.std.proofs.lemmas.List.Folds.{list_any-append}
use Rattle.std.specs.List.{list_any, fold}
use Rattle.std.specs.Option.{option_map_or}
use Rattle.clap.specs.Lexer.{long_of, strip_byte}
use Rattle.clap.specs.Walk.{Rule, Row, Held, Walk, Step, next, trailing, Waiting, idle, option, walked, word_met, long_or_other, short_or_plain, long_met, after_flag, after_step, option_word, plain_word, arg_by_id, arg_by_long, settled, settled_rows, used_by_id, has_row, used as used_rows, pushed, pending_count, most_values, started}
use Rattle.clap.specs.Simple.{Shape, new_shape}
use Rattle.clap.specs.Takes.{turn_passes, walk_passes, settle_passes, use_passes, long_passes, flag_word_passes, step_passes, bundle_passes}
use Rattle.word_rules.specs.Words.{Text, is_option, names, value_of, value_or_next}
use Rattle.word_rules.proofs.ValueLemmas.{IsBare, bytes_same, same_bytes, allowed_bare, bare_not_long, bare_not_short}
use Rattle.word_rules.proofs.CountLemmas.{named_on, named_here, names_its_own}
use Rattle.word_rules.proofs.ReadLemmas.{Reads, IsNewOption, value_step, value_skips}
use Rattle.program_words.proofs.UseLemmas.{Use, plain_rule, rows_of_uses, is_used, found_in, has_row_is, use_added, use_passes_first}

-- the command once it is built
abbrev pub built_shape : List Rule → Shape
built_shape c = record (new_shape (codes "ams_run")) { rules = c; no_binary_name = true; disable_help_flag = true; disable_help_subcommand = true; is_built = true }

-- each option is found by its name, and takes one value
pub record HasOptions (c : List Rule) : Type 0 where
  pub long : (name : Text) → is_option name ≡ true → arg_by_long c name ≡ Some (plain_rule name)
  pub by_id : (name : Text) → is_option name ≡ true → arg_by_id c name ≡ Some (plain_rule name)

abbrev pub at_rest : ℕ → Held → Walk
at_rest position h = record { held = h; waiting = idle; position = position; is_trailing = false; stopped = None }

abbrev pub at_option : ℕ → Held → Text → Walk
at_option position h name = record { held = h; waiting = option name; position = position; is_trailing = false; stopped = None }

abbrev pub walk_at : ℕ → Held → Option Text → Walk
walk_at position h None = at_rest position h
walk_at position h (Some name) = at_option position h name

-- what is held comes to these uses
pub record Settles (c : List Rule) (h : Held) (uses : List Use) : Type 0 where
  pub rows : settled_rows c h.pending h.rows ≡ rows_of_uses uses
  pub passes : settle_passes c false h ≡ true

-- an option waits for its value behind these uses
pub record WaitsFor (h : Held) (uses : List Use) (name : Text) : Type 0 where
  pub pending : h.pending ≡ Some (name, [])
  pub rows : h.rows ≡ rows_of_uses uses
  pub option : is_option name ≡ true
  pub new : is_used name uses ≡ false

abbrev pub StandsFor : List Rule → Held → List Use → Option Text → Type 0
StandsFor c h uses None = Settles c h uses
StandsFor c h uses (Some name) = WaitsFor h uses name

-- `--`
double_hyphen : Text
double_hyphen = 45 ∷ 45 ∷ []

not_double_at : (word : Text) (b : Bool) → bytes_eq word (45 ∷ 45 ∷ []) ≡ b → is_some (long_of word) ≡ true → bytes_eq word (45 ∷ 45 ∷ []) ≡ false
not_double_at word false e h = e
not_double_at word true e h = let none : is_some (long_of word) ≡ false = ap (λ w. is_some (long_of w)) (bytes_same word (45 ∷ 45 ∷ []) e) in absurd (cc)

not_double : (word : Text) (p : Text × Option Text) → long_of word ≡ Some p → bytes_eq word (45 ∷ 45 ∷ []) ≡ false
not_double word p e = not_double_at word (bytes_eq word (45 ∷ 45 ∷ [])) refl (ap is_some e)

not_double_bare_at : (word : Text) (b : Bool) → bytes_eq word (45 ∷ 45 ∷ []) ≡ b → IsBare word → bytes_eq word (45 ∷ 45 ∷ []) ≡ false
not_double_bare_at word false e h = e
not_double_bare_at word true e h = let some : strip_byte 45 word ≡ Some (45 ∷ []) = ap (strip_byte 45) (bytes_same word (45 ∷ 45 ∷ []) e) in absurd (cc)

not_double_bare : (word : Text) → IsBare word → bytes_eq word (45 ∷ 45 ∷ []) ≡ false
not_double_bare word h = not_double_bare_at word (bytes_eq word (45 ∷ 45 ∷ [])) refl h

-- a word that is no `--`
word_long : (c : List Rule) (waiting : Waiting) (position : ℕ) (word : Text) (h : Held) (o : Option (Text × Option Text)) → bytes_eq word (45 ∷ 45 ∷ []) ≡ false → long_of word ≡ o →
    cond (bytes_eq word (45 ∷ 45 ∷ [])) (h, trailing position) (long_or_other c waiting word (long_of word) h) ≡ long_or_other c waiting word o h
word_long c waiting position word h o e f =
    ap (λ b. cond b (h, trailing position) (long_or_other c waiting word (long_of word) h)) e ∙ ap (λ p. long_or_other c waiting word p h) f

-- `--name`
apart_met : (c : List Rule) (has : HasOptions c) (position : ℕ) (word name : Text) (h : Held) → is_option name ≡ true → long_of word ≡ Some (name, None) →
    word_met c [] false idle position word h ≡ (record (settled c h) { pending = Some (name, []) }, next (option name))
apart_met c has position word name h is e =
    word_long c idle position word h (Some (name, None)) (not_double word (name, None) e) e
    ∙ ap (λ r. after_flag c idle word (long_met c r None h).0 (long_met c r None h).1) (has.long name is)

-- `--name=value`
attached_met : (c : List Rule) (has : HasOptions c) (position : ℕ) (word name value : Text) (h : Held) → is_option name ≡ true → long_of word ≡ Some (name, Some value) →
    word_met c [] false idle position word h ≡ (record h { rows = used_rows (plain_rule name) (value ∷ []) (settled c h).rows; pending = None }, next idle)
attached_met c has position word name value h is e =
    word_long c idle position word h (Some (name, Some value)) (not_double word (name, Some value) e) e
    ∙ ap (λ r. after_flag c idle word (long_met c r (Some value) h).0 (long_met c r (Some value) h).1) (has.long name is)

-- the value of an option that waits
abbrev pub with_value : Held → Text → Text → Held
with_value h name value = record h { pending = Some (name, value ∷ []) }

pushed_first : (name word : Text) (h : Held) → h.pending ≡ Some (name, []) → pushed name word h ≡ with_value h name word
pushed_first name word h e = ap (λ p. record h { pending = Some ((started name p).0, (started name p).1 ++ word ∷ []) }) e

one_is_enough : (name word : Text) (h : Held) → cond (nat_lt (pending_count (plain_rule name) (with_value h name word).pending) (most_values (plain_rule name))) (option name) idle ≡ idle
one_is_enough name word h = ap (λ b. cond (nat_lt (cond b 1 0) 1) (option name) idle) (same_bytes name)

value_word : (c : List Rule) (has : HasOptions c) (name word : Text) (h : Held) → is_option name ≡ true → h.pending ≡ Some (name, []) →
    plain_word c (option name) word h ≡ (with_value h name word, next idle)
value_word c has name word h is e =
    ap (λ r. ((option_word r name word h).0, next (option_word r name word h).1)) (has.by_id name is)
    ∙ ap (λ g. (g, next (cond (nat_lt (pending_count (plain_rule name) g.pending) (most_values (plain_rule name))) (option name) idle))) (pushed_first name word h e)
    ∙ ap (λ w. (with_value h name word, next w)) (one_is_enough name word h)

value_met : (c : List Rule) (has : HasOptions c) (position : ℕ) (word name : Text) (h : Held) → is_option name ≡ true → h.pending ≡ Some (name, []) → IsBare word →
    word_met c [] false (option name) position word h ≡ (with_value h name word, next idle)
value_met c has position word name h is e bare =
    word_long c (option name) position word h None (not_double_bare word bare) (bare_not_long word bare)
    ∙ ap (λ o. short_or_plain c (option name) word o h) (bare_not_short word bare)
    ∙ value_word c has name word h is e

-- ---- one word passes, and where it leaves the walk

step_lands : (c : List Rule) (w : Walk) (word : Text) (h : Held) (waiting : Waiting) (met : Held × Step) → met ≡ (h, next waiting) → after_step c word w met.0 met.1 ≡ record w { held = h; waiting = waiting }
step_lands c w word h waiting met e = ap (λ m. after_step c word w m.0 m.1) e

apart_lands : (c : List Rule) (has : HasOptions c) (position : ℕ) (word name : Text) (h : Held) → is_option name ≡ true → long_of word ≡ Some (name, None) →
    walked c [] (at_rest position h) word ≡ at_option position (record (settled c h) { pending = Some (name, []) }) name
unfolding walked
apart_lands c has position word name h is e =
    step_lands c (at_rest position h) word (record (settled c h) { pending = Some (name, []) }) (option name) (word_met c [] false idle position word h) (apart_met c has position word name h is e)

attached_lands : (c : List Rule) (has : HasOptions c) (position : ℕ) (word name value : Text) (h : Held) → is_option name ≡ true → long_of word ≡ Some (name, Some value) →
    walked c [] (at_rest position h) word ≡ at_rest position (record h { rows = used_rows (plain_rule name) (value ∷ []) (settled c h).rows; pending = None })
unfolding walked
attached_lands c has position word name value h is e =
    step_lands c (at_rest position h) word (record h { rows = used_rows (plain_rule name) (value ∷ []) (settled c h).rows; pending = None }) idle (word_met c [] false idle position word h) (attached_met c has position word name value h is e)

value_lands : (c : List Rule) (has : HasOptions c) (position : ℕ) (word name : Text) (h : Held) → is_option name ≡ true → h.pending ≡ Some (name, []) → IsBare word →
    walked c [] (at_option position h name) word ≡ at_rest position (with_value h name word)
unfolding walked
value_lands c has position word name h is e bare =
    step_lands c (at_option position h name) word (with_value h name word) idle (word_met c [] false (option name) position word h) (value_met c has position word name h is e bare)

-- the test of one word: what the word is, and that it is no value of a positional
turn_from : (s : Shape) (w : Walk) (word : Text) (met : Held × Step) (h : Held) (waiting : Waiting) (passes : Bool) → passes ≡ true → met ≡ (h, next waiting) → (passes && step_passes s w.position met.0 met.1) ≡ true
turn_from s w word met h waiting passes e f = ap (λ b. b && step_passes s w.position met.0 met.1) e ∙ ap (λ m. step_passes s w.position m.0 m.1) f

word_passes_at : (c : List Rule) (word : Text) (h : Held) (o : Option (Text × Option Text)) (b : Bool) → long_of word ≡ o → flag_word_passes c false o word h ≡ b → b ≡ true →
    (bytes_eq word (45 ∷ 45 ∷ []) || flag_word_passes c false (long_of word) word h) ≡ true
word_passes_at c word h o b e f t = right (bytes_eq word (45 ∷ 45 ∷ [])) _ (ap (λ p. flag_word_passes c false p word h) e ∙ f ∙ t)
  where
    right : (a b : Bool) → b ≡ true → (a || b) ≡ true
    right true b h = refl
    right false b h = h

both : (a b : Bool) → a ≡ true → b ≡ true → (a && b) ≡ true
both a b e f = rw (e, f)

apart_turn : (c : List Rule) (has : HasOptions c) (position : ℕ) (word name : Text) (h : Held) → is_option name ≡ true → long_of word ≡ Some (name, None) → settle_passes c false h ≡ true →
    turn_passes (built_shape c) [] (at_rest position h) word ≡ true
apart_turn c has position word name h is e passes =
    turn_from (built_shape c) (at_rest position h) word (word_met c [] false idle position word h) (record (settled c h) { pending = Some (name, []) }) (option name) _
    (word_passes_at c word h (Some (name, None)) _ e (ap (λ r. long_passes c false r None h) (has.long name is)) passes)
    (apart_met c has position word name h is e)

attached_turn : (c : List Rule) (has : HasOptions c) (position : ℕ) (word name value : Text) (h : Held) → is_option name ≡ true → long_of word ≡ Some (name, Some value) → settle_passes c false h ≡ true →
    use_passes false (plain_rule name) (value ∷ []) (settled c h).rows ≡ true → turn_passes (built_shape c) [] (at_rest position h) word ≡ true
attached_turn c has position word name value h is e passes fits =
    turn_from (built_shape c) (at_rest position h) word (word_met c [] false idle position word h) (record h { rows = used_rows (plain_rule name) (value ∷ []) (settled c h).rows; pending = None }) idle _
    (word_passes_at c word h (Some (name, Some value)) _ e (ap (λ r. long_passes c false r (Some value) h) (has.long name is)) (both (settle_passes c false h) (use_passes false (plain_rule name) (value ∷ []) (settled c h).rows) passes fits))
    (attached_met c has position word name value h is e)

value_turn : (c : List Rule) (has : HasOptions c) (position : ℕ) (word name : Text) (h : Held) → is_option name ≡ true → h.pending ≡ Some (name, []) → IsBare word →
    turn_passes (built_shape c) [] (at_option position h name) word ≡ true
value_turn c has position word name h is e bare =
    turn_from (built_shape c) (at_option position h name) word (word_met c [] false (option name) position word h) (with_value h name word) idle _
    (word_passes_at c word h None _ (bare_not_long word bare) (ap (λ o. option_map_or (λ flags. bundle_passes c false flags h) o true) (bare_not_short word bare)) refl)
    (value_met c has position word name h is e bare)

-- ---- the walk

-- the value that the words left give an option
abbrev pub left : Text → Option Text → List Text → Option Text
left name None words = value_of name words
left name (Some waiting) words = cond (bytes_eq waiting name) (value_or_next None words) (value_of name words)

-- the words pass, and come to more uses, which give each option the value that the words give it
pub record Walks (c : List Rule) (w : Walk) (waiting : Option Text) (words : List Text) (position : ℕ) (uses : List Use) : Type 0 where
  pub passes : walk_passes (built_shape c) [] w words ≡ true
  pub held : Held
  pub ends : fold (walked c []) w words ≡ at_rest position held
  pub more : List Use
  pub settles : Settles c held (uses ++ more)
  pub found : (name : Text) → found_in name more ≡ left name waiting words

passes_on : (c : List Rule) (w after : Walk) (word : Text) (words : List Text) → turn_passes (built_shape c) [] w word ≡ true → walked c [] w word ≡ after → walk_passes (built_shape c) [] after words ≡ true →
    walk_passes (built_shape c) [] w (word ∷ words) ≡ true
unfolding walk_passes
passes_on c w after word words turn lands rest = both _ _ turn (ap (λ a. walk_passes (built_shape c) [] a words) lands ∙ rest)

nothing_more : (uses : List Use) → uses ++ [] ≡ uses
nothing_more [] = refl
nothing_more (u ∷ uses) = ap (λ l. u ∷ l) (nothing_more uses)

-- each use was named
abbrev pub NamesUses : List Text → List Use → Type 0
NamesUses before uses = (name : Text) → is_used name uses ≡ true → list_any (names name) before ≡ true

unused_at : (b : Bool) (a : Bool) → (b ≡ true → a ≡ true) → a ≡ false → b ≡ false
unused_at true a h e = absurd (let t = h refl in cc)
unused_at false a h e = refl

unused : (before : List Text) (uses : List Use) (name : Text) → NamesUses before uses → list_any (names name) before ≡ false → is_used name uses ≡ false
unused before uses name named new = unused_at (is_used name uses) (list_any (names name) before) (named name) new

-- what stands behind each word
settled_apart : (c : List Rule) (h : Held) (uses : List Use) (name : Text) → Settles c h uses → is_option name ≡ true → is_used name uses ≡ false → WaitsFor (record (settled c h) { pending = Some (name, []) }) uses name
settled_apart c h uses name s is new = record { pending = refl; rows = s.rows; option = is; new = new }

settled_attached : (c : List Rule) (h : Held) (uses : List Use) (name value : Text) → Settles c h uses → is_used name uses ≡ false →
    Settles c (record h { rows = used_rows (plain_rule name) (value ∷ []) (settled c h).rows; pending = None }) (uses ++ (name, value) ∷ [])
settled_attached c h uses name value s new =
    record { rows = ap (used_rows (plain_rule name) (value ∷ [])) s.rows ∙ use_added name value uses new; passes = refl }

unused_row : (name : Text) (uses : List Use) (rows : List Row) → rows ≡ rows_of_uses uses → is_used name uses ≡ false → has_row name rows ≡ false
unused_row name uses rows e new = ap (has_row name) e ∙ has_row_is name uses ∙ new

settled_value : (c : List Rule) (has : HasOptions c) (h : Held) (uses : List Use) (name word : Text) → WaitsFor h uses name → Settles c (with_value h name word) (uses ++ (name, word) ∷ [])
settled_value c has h uses name word w =
    record {
      rows = ap (λ r. used_by_id r (word ∷ []) h.rows) (has.by_id name w.option)
          ∙ ap (used_rows (plain_rule name) (word ∷ [])) w.rows ∙ use_added name word uses w.new;
      passes = ap (λ r. option_map_or (λ a. use_passes false a (word ∷ []) h.rows) r true) (has.by_id name w.option)
          ∙ use_passes_first name word h.rows (unused_row name uses h.rows w.rows w.new);
    }

names_behind : (before : List Text) (word : Text) (uses : List Use) → NamesUses before uses → NamesUses (before ++ word ∷ []) uses
names_behind before word uses named name e = named_on before word name (named name e)

more_named : (before : List Text) (uses : List Use) (name : Text) (u : Use) (used here : Bool) → (used || (here || false)) ≡ true → (used ≡ true → list_any (names name) before ≡ true) → (here ≡ true → list_any (names name) before ≡ true) →
    list_any (names name) before ≡ true
more_named before uses name u true here e f g = f refl
more_named before uses name u false true e f g = g refl
more_named before uses name u false false e f g = absurd (cc)

names_more : (before : List Text) (uses : List Use) (name value : Text) → NamesUses before uses → list_any (names name) before ≡ true → NamesUses before (uses ++ (name, value) ∷ [])
names_more before uses name value named here other e =
    more_named before uses other (name, value) (is_used other uses) (bytes_eq name other) (sym (list_any-append (λ (u : Use). bytes_eq u.0 other) uses ((name, value) ∷ [])) ∙ e) (named other)
    (λ same. subst (λ n. list_any (names n) before ≡ true) (bytes_same name other same) here)

walk_ends : (c : List Rule) (position : ℕ) (h : Held) (uses : List Use) → Settles c h uses → Walks c (at_rest position h) None [] position uses
unfolding walk_passes
walk_ends c position h uses s =
    record { passes = refl; held = h; ends = refl; more = []; settles = subst (Settles c h) (sym (nothing_more uses)) s; found = λ name. refl }

apart_on : (c : List Rule) (has : HasOptions c) (position : ℕ) (before words : List Text) (word name : Text) (h : Held) (uses : List Use) → IsNewOption before word name None → Settles c h uses →
    Walks c (at_option position (record (settled c h) { pending = Some (name, []) }) name) (Some name) words position uses → Walks c (at_rest position h) None (word ∷ words) position uses
apart_on c has position before words word name h uses new s w =
    let lands = apart_lands c has position word name h new.option new.long in
    record {
      passes = passes_on c (at_rest position h) (at_option position (record (settled c h) { pending = Some (name, []) }) name) word words (apart_turn c has position word name h new.option new.long s.passes) lands w.passes;
      held = w.held;
      ends = ap (λ a. fold (walked c []) a words) lands ∙ w.ends;
      more = w.more;
      settles = w.settles;
      found = λ n. w.found n ∙ sym (value_step n word words name None new.long);
    }

attached_on : (c : List Rule) (has : HasOptions c) (position : ℕ) (before words : List Text) (word name value : Text) (h : Held) (uses : List Use) → IsNewOption before word name (Some value) → Settles c h uses → is_used name uses ≡ false →
    Walks c (at_rest position (record h { rows = used_rows (plain_rule name) (value ∷ []) (settled c h).rows; pending = None })) None words position (uses ++ (name, value) ∷ []) → Walks c (at_rest position h) None (word ∷ words) position uses
attached_on c has position before words word name value h uses new s unused_ w =
    let lands = attached_lands c has position word name value h new.option new.long in
    record {
      passes = passes_on c (at_rest position h) (at_rest position (record h { rows = used_rows (plain_rule name) (value ∷ []) (settled c h).rows; pending = None })) word words
          (attached_turn c has position word name value h new.option new.long s.passes (use_passes_first name value (settled c h).rows (unused_row name uses (settled c h).rows s.rows unused_))) lands w.passes;
      held = w.held;
      ends = ap (λ a. fold (walked c []) a words) lands ∙ w.ends;
      more = (name, value) ∷ w.more;
      settles = subst (Settles c w.held) (append_assoc uses ((name, value) ∷ []) w.more) w.settles;
      found = λ n. ap (λ r. cond (bytes_eq name n) (Some value) r) (w.found n) ∙ sym (value_step n word words name (Some value) new.long);
    }

value_on : (c : List Rule) (has : HasOptions c) (position : ℕ) (words : List Text) (word name : Text) (h : Held) (uses : List Use) → WaitsFor h uses name → IsBare word →
    Walks c (at_rest position (with_value h name word)) None words position (uses ++ (name, word) ∷ []) → Walks c (at_option position h name) (Some name) (word ∷ words) position uses
value_on c has position words word name h uses waits bare w =
    let lands = value_lands c has position word name h waits.option waits.pending bare in
    record {
      passes = passes_on c (at_option position h name) (at_rest position (with_value h name word)) word words (value_turn c has position word name h waits.option waits.pending bare) lands w.passes;
      held = w.held;
      ends = ap (λ a. fold (walked c []) a words) lands ∙ w.ends;
      more = (name, word) ∷ w.more;
      settles = subst (Settles c w.held) (append_assoc uses ((name, word) ∷ []) w.more) w.settles;
      found = λ n. ap (λ r. cond (bytes_eq name n) (Some word) r) (w.found n) ∙ sym (ap (λ r. cond (bytes_eq name n) (Some word) r) (value_skips n word words (bare_not_long word bare)));
    }

-- the option that waits was named
abbrev pub NamesWaiting : List Text → Option Text → Type 0
NamesWaiting before None = ⊤
NamesWaiting before (Some name) = list_any (names name) before ≡ true

pub walks : (c : List Rule) (has : HasOptions c) (position : ℕ) (before words : List Text) (waiting : Option Text) (h : Held) (uses : List Use) → Reads before waiting words → StandsFor c h uses waiting → NamesUses before uses → NamesWaiting before waiting →
    Walks c (walk_at position h waiting) waiting words position uses
walks c has position before [] None h uses r s named waits = walk_ends c position h uses s
walks c has position before [] (Some name) h uses r s named waits = absurd r
walks c has position before (word ∷ words) None h uses (name, inl (new, r)) s named waits =
    let fresh = unused before uses name named new.new in
    apart_on c has position before words word name h uses new s
    (walks c has position (before ++ word ∷ []) words (Some name) (record (settled c h) { pending = Some (name, []) }) uses r (settled_apart c h uses name s new.option fresh) (names_behind before word uses named)
    (named_here before word name (names_its_own word (name, None) new.long)))
walks c has position before (word ∷ words) None h uses (name, inr (value, new, allowed, r)) s named waits =
    let fresh = unused before uses name named new.new in
    let here = named_here before word name (names_its_own word (name, Some value) new.long) in
    attached_on c has position before words word name value h uses new s fresh
    (walks c has position (before ++ word ∷ []) words None (record h { rows = used_rows (plain_rule name) (value ∷ []) (settled c h).rows; pending = None }) (uses ++ (name, value) ∷ []) r (settled_attached c h uses name value s fresh)
    (names_more (before ++ word ∷ []) uses name value (names_behind before word uses named) here) tt)
walks c has position before (word ∷ words) (Some name) h uses r s named waits =
    value_on c has position words word name h uses s (allowed_bare name word r.0)
    (walks c has position (before ++ word ∷ []) words None (with_value h name word) (uses ++ (name, word) ∷ []) r.1 (settled_value c has h uses name word s)
    (names_more (before ++ word ∷ []) uses name word (names_behind before word uses named) (named_on before word name waits)) tt)
