-- The command takes the words of which none is refused, and gives each option the value that they give it.
use Rattle.std.proofs.Common.{◌≡◌, ◌<◌, ◌+◌, ℕ, false, length, take, get_or, ◌&&◌, ◌||◌, Bool, true, not, List, [], ◌∷◌, ◌++◌, map, None, is_some, codes, refl, sym, ap, ◌∙◌}
use Rattle.std.specs.List.{list_all}
use Rattle.std.specs.Borrow.{Bor}
use Rattle.std.proofs.lemmas.List.{take_more}
use Rattle.clap.specs.Built.{AddsArg}
use Rattle.clap.specs.declared.builder.arg.Arg.{Arg}
use Rattle.clap.specs.declared.builder.command.Command.{Command}
use Rattle.clap.specs.declared.builder.command.Command.TheViews.{out-Command}
use Rattle.clap.specs.Walk.{Rule, rule_of, Row, Walk, walk, first_of, finished, nothing_held, settled}
use Rattle.clap.specs.Simple.{App, built, is_simple, matches_of, entered, names_of, with_rule, on_top, HasMatchesOf, app_of, app_of_fields, new_app}
use Rattle.clap.specs.Matches.{found_of, first_value}
use Rattle.clap.specs.declared.parser.matches.ArgMatches.{ArgMatches}
use Rattle.clap.proofs.WalkLemmas.{first_value-rows}
use Rattle.std.proofs.lemmas.List.{map-append}
use Rattle.clap.specs.Takes.{takes, built_takes, level_passes, entered_passes, settle_passes, default_passes, is_valid}
use Rattle.word_rules.specs.Words.{Text, option_names, is_option, value_of, refused_behind, refusal}
use Rattle.word_rules.proofs.ReadLemmas.{reads}
use Rattle.word_rules.proofs.RangeLemmas.{accepted_words}
use Rattle.program_words.specs.Command.{options_app, given_rule}
use Rattle.program_words.proofs.UseLemmas.{plain_rule, first_is, rule_by_long, rule_by_id, no_defaults}
use Rattle.program_words.proofs.WalkLemmas.{built_shape, HasOptions, at_rest, Walks, walks, NamesUses}

-- the command once it is built
abbrev pub built_app : List Rule → App
built_app c = record { top = built_shape c; subs = [] }

options_built : built (options_app option_names) ≡ built_app (map plain_rule option_names)
unfolding option_names
options_built = refl

options_simple : is_simple (options_app option_names) ≡ true
unfolding option_names
options_simple = refl

has_options : HasOptions (map plain_rule option_names)
unfolding is_option
has_options = record { long = λ name h. rule_by_long name option_names h; by_id = λ name h. rule_by_id name option_names h }

none_used : NamesUses [] []
none_used name h = absurd (cc)

pub words_walk : (words : List Text) → refused_behind [] None words ≡ None → Walks (map plain_rule option_names) (at_rest 1 nothing_held) None words 1 []
words_walk words h =
    walks (map plain_rule option_names) has_options 1 [] words None nothing_held [] (reads [] words None h) (record { rows = refl; passes = refl }) none_used tt

-- ---- each rule is free, and has no default

all_free : (xs : List Text) → list_all (λ (a : Rule). a.is_free) (map plain_rule xs) ≡ true
all_free [] = refl
all_free (x ∷ xs) = all_free xs

none_required : (xs : List Text) (given : Rule → Bool) → list_all (λ (a : Rule). not a.required || given a) (map plain_rule xs) ≡ true
none_required [] given = refl
none_required (x ∷ xs) given = none_required xs given

no_default_fails : (xs : List Text) → list_all default_passes (map plain_rule xs) ≡ true
no_default_fails [] = refl
no_default_fails (x ∷ xs) = no_default_fails xs

both : (a b : Bool) → a ≡ true → b ≡ true → (a && b) ≡ true
both a b e f = rw (e, f)

valid : (xs : List Text) (rows : List Row) → is_valid (built_shape (map plain_rule xs)) rows false ≡ true
valid xs rows = both _ _ (all_free xs) (none_required xs _)

level : (xs words : List Text) → Walks (map plain_rule xs) (at_rest 1 nothing_held) None words 1 [] → level_passes (built_shape (map plain_rule xs)) [] nothing_held words false ≡ true
level xs words w =
    let c = map plain_rule xs in
    both _ _ w.passes (both _ _ (ap (λ (a : Walk). settle_passes c false a.held) w.ends ∙ w.settles.passes)
    (both _ _ (no_default_fails xs) (valid xs (finished c (walk c [] nothing_held words).held))))

takes_built : (xs words : List Text) → Walks (map plain_rule xs) (at_rest 1 nothing_held) None words 1 [] → built_takes (built_app (map plain_rule xs)) nothing_held words ≡ true
takes_built xs words w =
    let a = built_app (map plain_rule xs) in
    ap (λ stop. entered_passes a stop && level_passes a.top [] nothing_held words (is_some (entered a stop))) (ap (λ (u : Walk). u.stopped) w.ends)
    ∙ level xs words w

pub words_taken : (words : List Text) → refused_behind [] None words ≡ None → takes (options_app option_names) words ≡ true
words_taken words h =
    both _ _ options_simple (ap (λ a. built_takes a nothing_held words) options_built ∙ takes_built option_names words (words_walk words h))

matched : (xs words : List Text) (name : Text) (w : Walks (map plain_rule xs) (at_rest 1 nothing_held) None words 1 []) → first_of name (finished (map plain_rule xs) (walk (map plain_rule xs) [] nothing_held words).held) ≡ value_of name words
matched xs words name w =
    let c = map plain_rule xs in
    ap (λ (a : Walk). first_of name (finished c a.held)) w.ends
    ∙ ap (first_of name) (no_defaults xs (settled c w.held).rows ∙ w.settles.rows)
    ∙ first_is name w.more ∙ w.found name

pub words_matched : (words : List Text) (name : Text) → refused_behind [] None words ≡ None → first_of name (matches_of (options_app option_names) words) ≡ value_of name words
words_matched words name h =
    ap (λ (a : App). first_of name (finished a.top.rules (walk a.top.rules (names_of a) nothing_held words).held)) options_built
    ∙ matched option_names words name (words_walk words h)

pub none_refused_of : (words : List Text) → refusal words ≡ None → refused_behind [] None words ≡ None
none_refused_of words h = (accepted_words words h).0

-- what a parse gives, in the words of its clauses
pub values_from : (a : App) (seen words : List Text) (m : ArgMatches) → a ≡ options_app option_names → seen ≡ words → refusal words ≡ None → HasMatchesOf a seen m → (name : Text) → first_value (found_of m) name ≡ value_of name words
values_from a seen words m e f h matches name =
    let rows = (matches (ap is_simple e ∙ options_simple)).0 in
    first_value-rows (found_of m) name ∙ ap (first_of name) (rows ∙ ap (λ (b : App). matches_of b seen) e ∙ ap (matches_of (options_app option_names)) f)
    ∙ words_matched words name (none_refused_of words h)

pub takes_from : (a : App) (seen words : List Text) → a ≡ options_app option_names → seen ≡ words → refusal words ≡ None → takes a seen ≡ true
takes_from a seen words e f h = ap (λ (b : App). takes b seen) e ∙ ap (takes (options_app option_names)) f ∙ words_taken words (none_refused_of words h)

-- one option more
pub option_added : (names : List Text) (name : Text) → with_rule (options_app names) (given_rule name) ≡ options_app (names ++ name ∷ [])
option_added names name =
    ap (λ (rules : List Rule). on_top (λ s. record s { rules = rules }) (options_app names)) (sym (map-append given_rule names (name ∷ [])))

-- ---- the command as it is built

-- the command before its options
pub app_begins : (c0 c1 c2 : Command) → app_of c0 ≡ new_app (codes "ams_run") → out-Command c1 ≡ record (out-Command c0) { no_binary_name = true } → out-Command c2 ≡ record (out-Command c1) { disable_help_flag = true } →
    app_of c2 ≡ options_app []
app_begins c0 c1 c2 e0 e1 e2 =
    ap app_of_fields e2
    ∙ ap (λ (a : App). on_top (λ s. record s { disable_help_flag = true }) a) (ap app_of_fields e1 ∙ ap (λ (a : App). on_top (λ s. record s { no_binary_name = true }) a) e0)

pub app_goes_on : (old now : Command) (a : Arg) (names : List Text) (name : Text) → app_of old ≡ options_app names → AddsArg old a now → a.global ≡ false → rule_of a ≡ given_rule name → app_of now ≡ options_app (names ++ name ∷ [])
app_goes_on old now a names name e adds local rule =
    adds.shape local ∙ ap (λ (b : App). with_rule b (rule_of a)) e ∙ ap (with_rule (options_app names)) rule ∙ option_added names name

-- the names so far, and the next
pub app_step : (old now : Command) (a : Arg) (items : List (Bor Text)) (i : ℕ) (d : Bor Text) → app_of old ≡ options_app (map (λ (s : Bor Text). s.now) (take i items)) → AddsArg old a now → a.global ≡ false →
    rule_of a ≡ given_rule (get_or items i d).now → i < length items → app_of now ≡ options_app (map (λ (s : Bor Text). s.now) (take (i + 1) items))
app_step old now a items i d e adds local rule h =
    app_goes_on old now a (map (λ (s : Bor Text). s.now) (take i items)) (get_or items i d).now e adds local rule
    ∙ ap options_app (sym (ap (map (λ (s : Bor Text). s.now)) (take_more items i d h) ∙ map-append (λ (s : Bor Text). s.now) (take i items) (get_or items i d ∷ [])))
