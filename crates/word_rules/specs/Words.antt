-- The words of the command line: options in any order, each at most once, as two words `--name value` or as one word
-- `--name=value`.
use Rattle.std.specs.Prelude.{◌≡◌, ℕ, ◌≤◌, ◌+◌, ◌==◌, ◌&&◌, ◌||◌, Bool, true, false, not, List, [], ◌∷◌, ◌++◌, Option, Some, None, if◌then◌else◌, length, map, nat_le, codes, bytes_eq, is_none, is_some, unwrap_or, option_and_then, String, string_bytes}
use Rattle.std.specs.List.{list_all, list_any}
use Rattle.std.specs.Option.{option_map_or}
use Rattle.std.specs.declared.alloc.Global.{Global}
use Rattle.std.specs.Char.{is_ascii_alphabetic, is_ascii_alphanumeric, is_ascii_digit, to_ascii_lowercase}
use Rattle.std.specs.Str.Parse.{digits_value}
use Rattle.clap.specs.Lexer.{long_of}
use Rattle.word_rules.specs.declared.mode.Mode.{Mode}
use Rattle.word_rules.specs.declared.mode.Mode.TheVariants as mode

abbrev pub Text : Type 0
Text = List ℕ

-- the bytes of each word
abbrev pub texts : List (String Global) → List Text
texts words = map string_bytes words

-- the options there are
unfoldable pub option_names : List Text
option_names =
    codes "mode" ∷ codes "top" ∷ codes "stop" ∷ codes "ahead" ∷ codes "h0" ∷ codes "hmin" ∷ codes "hmax" ∷ codes "tol"
    ∷ codes "ltol" ∷ codes "xres" ∷ codes "schedule" ∷ codes "size" ∷ []

unfoldable pub is_option : Text → Bool
is_option name = list_any (λ other. bytes_eq other name) option_names

-- the word is `--name` or `--name=value`
unfoldable pub names : Text → Text → Bool
names name word = option_map_or (λ p. bytes_eq p.0 name) (long_of word) false

-- the value of the option that a word names: what stands behind the word's `=`, else the next word
abbrev pub value_or_next : Option Text → List Text → Option Text
value_or_next (Some value) words = Some value
value_or_next None [] = None
value_or_next None (word ∷ words) = Some word

unfoldable pub value_at : Text → List Text → Option Text
value_at word words = value_or_next (option_and_then (λ p. p.1) (long_of word)) words

-- the value that the words give an option, by the first word that names it
abbrev pub value_of : Text → List Text → Option Text
value_of name [] = None
value_of name (word ∷ words) = if names name word then value_at word words else value_of name words

abbrev pub is_given : Text → List Text → Bool
is_given name words = is_some (value_of name words)

-- a letter or digit stands first
abbrev pub starts_alphanumeric : Text → Bool
starts_alphanumeric [] = false
starts_alphanumeric (c ∷ text) = is_ascii_alphanumeric c

-- letters, digits and single underscores, each underscore with a letter or digit behind it
abbrev pub goes_on : Text → Bool
goes_on [] = true
goes_on (c ∷ text) = (if c == 95 then starts_alphanumeric text else is_ascii_alphanumeric c) && goes_on text

-- an identifier, reserved words included
unfoldable pub is_identifier : Text → Bool
is_identifier [] = false
is_identifier (c ∷ text) = is_ascii_alphabetic c && goes_on text

abbrev pub are_digits : Text → Bool
are_digits text = nat_le 1 (length text) && nat_le (length text) 16 && list_all is_ascii_digit text

-- a number of 1 to 16 decimal digits without a sign
unfoldable pub number_of : Text → Option ℕ
number_of text = if are_digits text then Some (digits_value 10 text) else None

-- a number of at least and at most so much
abbrev pub is_number_in : ℕ → ℕ → Text → Bool
is_number_in least most text = option_map_or (λ n. nat_le least n && nat_le n most) (number_of text) false

-- a step of the worker, `w` (119), or of the engine, `d` (100)
abbrev pub is_step : ℕ → Bool
is_step c = c == 119 || c == 100

abbrev pub is_schedule : Text → Bool
is_schedule text = nat_le 1 (length text) && nat_le (length text) 4096 && list_all is_step text

-- the modes there are
unfoldable pub mode_named : Text → Option Mode
mode_named value =
    if bytes_eq value (codes "run") then Some mode.Run
    else if bytes_eq value (codes "lockstep") then Some mode.Lockstep
    else if bytes_eq value (codes "replay") then Some mode.Replay
    else if bytes_eq value (codes "make") then Some mode.Make
    else None

-- the values of each option
unfoldable pub is_allowed : Text → Text → Bool
is_allowed name value =
    if bytes_eq name (codes "mode") then is_some (mode_named value)
    else if bytes_eq name (codes "top") then is_identifier value
    else if bytes_eq name (codes "ahead") then is_number_in 0 4096 value
    else if bytes_eq name (codes "xres") then is_number_in 1 1000000000 value
    else if bytes_eq name (codes "schedule") then is_schedule value
    else if bytes_eq name (codes "size") then is_number_in 1 15 value
    else if bytes_eq name (codes "h0") || bytes_eq name (codes "hmin") || bytes_eq name (codes "hmax")
    then is_number_in 1 1000000000000 value
    else is_number_in 1 1000000000000000 value

-- ---- the first refused word: no option, an option given before, an option without its value, or a value that isn't
-- allowed

-- where a word leaves the reading: none where it is refused, else the option that waits for its value, where one does
abbrev pub after_name : Text → Option Text → Option (Option Text)
after_name name None = Some (Some name)
after_name name (Some value) = if is_allowed name value then Some None else None

abbrev pub after_option : List Text → Option (Text × Option Text) → Option (Option Text)
after_option before None = None
after_option before (Some p) = if is_option p.0 && not (list_any (names p.0) before) then after_name p.0 p.1 else None

abbrev pub after_word : List Text → Option Text → Text → Option (Option Text)
after_word before None word = after_option before (long_of word)
after_word before (Some name) word = if is_allowed name word then Some None else None

-- the number of the first refused word, from 1, of these behind those before
abbrev pub refused_behind : List Text → Option Text → List Text → Option ℕ
refused_behind before waiting [] = if is_some waiting then Some (length before) else None
refused_behind before waiting (word ∷ words) = option_map_or (λ next. refused_behind (before ++ word ∷ []) next words)
    (after_word before waiting word) (Some (length before + 1))

-- ---- what the words ask for

abbrev pub mode_of : List Text → Mode
mode_of words = unwrap_or (option_and_then mode_named (value_of (codes "mode") words)) mode.Run

-- the number that an option is given, or its default
abbrev pub number_or : ℕ → Text → List Text → ℕ
number_or default name words = unwrap_or (option_and_then number_of (value_of name words)) default

-- each option that is given is for the mode, and what the mode requires is given
abbrev pub suits : Mode → List Text → Bool
suits mode.Run words =
    is_given (codes "top") words && not (is_given (codes "size") words) && not (is_given (codes "schedule") words)
suits mode.Lockstep words =
    is_given (codes "top") words && not (is_given (codes "size") words) && not (is_given (codes "schedule") words)
suits mode.Replay words = is_given (codes "top") words && not (is_given (codes "size") words)
suits mode.Make words =
    is_given (codes "size") words && not (is_given (codes "top") words) && not (is_given (codes "schedule") words)

-- the first step stands between the least and the greatest, too
unfoldable pub is_whole : List Text → Bool
is_whole words =
    suits (mode_of words) words && is_given (codes "stop") words
    && nat_le (number_or 1 (codes "hmin") words) (number_or 1000 (codes "h0") words)
    && nat_le (number_or 1000 (codes "h0") words) (number_or 1000000 (codes "hmax") words)

-- the refused word's number, from 1, or 0 where no word is refused and still something is missing, isn't for the mode,
-- or the first step doesn't stand between the least and the greatest
abbrev pub refusal : List Text → Option ℕ
refusal words =
    if is_some (refused_behind [] None words) then refused_behind [] None words
    else if is_whole words then None else Some 0

-- times in ticks, tolerances in units
pub record Request : Type 0 where
  pub mode : Mode
  pub top : Text
  pub size : ℕ
  pub stop : ℕ
  pub ahead : ℕ
  pub h0 : ℕ
  pub hmin : ℕ
  pub hmax : ℕ
  pub tol : ℕ
  pub ltol : ℕ
  pub xres : ℕ
  pub schedule : Text

-- the name of the top is kept in lower case, as identifiers are; that of the generated design is `ladder`
abbrev pub top_of : Mode → List Text → Text
top_of mode.Run words = map to_ascii_lowercase (unwrap_or (value_of (codes "top") words) [])
top_of mode.Lockstep words = map to_ascii_lowercase (unwrap_or (value_of (codes "top") words) [])
top_of mode.Replay words = map to_ascii_lowercase (unwrap_or (value_of (codes "top") words) [])
top_of mode.Make words = codes "ladder"

-- the letters of a schedule, none where it isn't given
abbrev pub schedule_of : List Text → Text
schedule_of words = unwrap_or (value_of (codes "schedule") words) []

abbrev pub request_of : List Text → Request
request_of words = record {
  mode = mode_of words;
  top = top_of (mode_of words) words;
  size = number_or 0 (codes "size") words;
  stop = number_or 0 (codes "stop") words;
  ahead = number_or 64 (codes "ahead") words;
  h0 = number_or 1000 (codes "h0") words;
  hmin = number_or 1 (codes "hmin") words;
  hmax = number_or 1000000 (codes "hmax") words;
  tol = number_or 1000000 (codes "tol") words;
  ltol = number_or 1000000000 (codes "ltol") words;
  xres = number_or 1 (codes "xres") words;
  schedule = schedule_of words;
}

-- the kernels run on threads
unfoldable pub is_run : Mode → Bool
is_run mode.Run = true
is_run mode.Lockstep = false
is_run mode.Replay = false
is_run mode.Make = false

-- the words are accepted and ask for them
unfoldable pub wants_threads : List Text → Bool
wants_threads words = is_none (refusal words) && is_run (mode_of words)

pub record IsInRange (request : Request) : Type 0 where
  pub size_most : request.size ≤ 15
  pub stop_least : 1 ≤ request.stop
  pub stop_most : request.stop ≤ 1000000000000000
  pub ahead_most : request.ahead ≤ 4096
  pub hmin_least : 1 ≤ request.hmin
  pub h0_least : request.hmin ≤ request.h0
  pub h0_most : request.h0 ≤ request.hmax
  pub hmax_most : request.hmax ≤ 1000000000000
  pub tol_least : 1 ≤ request.tol
  pub tol_most : request.tol ≤ 1000000000000000
  pub ltol_least : 1 ≤ request.ltol
  pub ltol_most : request.ltol ≤ 1000000000000000
  pub xres_least : 1 ≤ request.xres
  pub xres_most : request.xres ≤ 1000000000
  pub schedule_most : length request.schedule ≤ 4096
  pub schedule_steps : list_all is_step request.schedule ≡ true
