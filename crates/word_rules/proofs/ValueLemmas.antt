-- A value that an option may have doesn't begin with a hyphen.
use Rattle.std.proofs.Common.{◌≡◌, ℕ, ◌==◌, ◌&&◌, ◌||◌, Bool, true, false, cond, [], ◌∷◌, Some, None, is_some, codes, refl, sym, subst, arith, length}
use Rattle.std.specs.Prelude.{bytes_eq, nat_le}
use Rattle.std.specs.List.{list_all}
use Rattle.std.specs.Option.{option_map_or}
use Rattle.std.specs.Char.{is_ascii_alphabetic, is_ascii_digit}
use Rattle.std.proofs.lemmas.Bool.{and_parts}
use Rattle.std.proofs.lemmas.Bool.Decides.{nat_tests}
use Rattle.std.proofs.lemmas.Slice.Eq.{bytes_eq-Decides}
use Rattle.clap.specs.Lexer.{long_of, strip_byte, short_of}
use Rattle.word_rules.specs.declared.mode.Mode.{Mode}
use Rattle.word_rules.specs.Words.{Text, goes_on, is_identifier, are_digits, number_of, is_number_in, is_step, is_schedule, mode_named, is_allowed}

pub bytes_same : (a b : Text) → bytes_eq a b ≡ true → a ≡ b
bytes_same a b h = grind (arith, bytes_eq-Decides a b)

-- no hyphen stands first
abbrev pub IsBare : Text → Type 0
IsBare text = strip_byte 45 text ≡ None

bare_head : (c : ℕ) (text : Text) → (c == 45) ≡ false → IsBare (c ∷ text)
bare_head c text h = rw h

alphabetic_bare : (c : ℕ) → is_ascii_alphabetic c ≡ true → (c == 45) ≡ false
alphabetic_bare c h = grind (arith, nat_tests)

digit_bare : (c : ℕ) → is_ascii_digit c ≡ true → (c == 45) ≡ false
digit_bare c h = grind (arith, nat_tests)

step_bare : (c : ℕ) → is_step c ≡ true → (c == 45) ≡ false
step_bare c h = grind (arith, nat_tests)

identifier_bare : (text : Text) → is_identifier text ≡ true → IsBare text
unfolding is_identifier
identifier_bare [] h = refl
identifier_bare (c ∷ text) h = bare_head c text (alphabetic_bare c (and_parts (is_ascii_alphabetic c) (goes_on text) h).0)

digits_bare : (text : Text) → are_digits text ≡ true → IsBare text
digits_bare [] h = refl
digits_bare (c ∷ text) h =
    let all = (and_parts (nat_le 1 (length (c ∷ text)) && nat_le (length (c ∷ text)) 16) (list_all is_ascii_digit (c ∷ text)) h).1 in
    bare_head c text (digit_bare c (and_parts (is_ascii_digit c) (list_all is_ascii_digit text) all).0)

some_number : (b : Bool) (n least most : ℕ) → option_map_or (λ k. nat_le least k && nat_le k most) (cond b (Some n) None) false ≡ true → b ≡ true
some_number true n least most h = refl
some_number false n least most h = h

number_bare : (least most : ℕ) (text : Text) → is_number_in least most text ≡ true → IsBare text
unfolding number_of
number_bare least most text h = digits_bare text (some_number (are_digits text) _ least most h)

schedule_bare : (text : Text) → is_schedule text ≡ true → IsBare text
schedule_bare [] h = refl
schedule_bare (c ∷ text) h =
    let all = (and_parts (nat_le 1 (length (c ∷ text)) && nat_le (length (c ∷ text)) 4096) (list_all is_step (c ∷ text)) h).1 in
    bare_head c text (step_bare c (and_parts (is_step c) (list_all is_step text) all).0)

mode_split : (a b c d : Bool) (m n o p : Mode) (P : Type 0) → (a ≡ true → P) → (b ≡ true → P) → (c ≡ true → P) → (d ≡ true → P)
    → is_some (cond a (Some m) (cond b (Some n) (cond c (Some o) (cond d (Some p) None)))) ≡ true → P
mode_split true b c d m n o p P f g k l h = f refl
mode_split false true c d m n o p P f g k l h = g refl
mode_split false false true d m n o p P f g k l h = k refl
mode_split false false false true m n o p P f g k l h = l refl
mode_split false false false false m n o p P f g k l h = absurd (cc)

bare_at : (text word : Text) → IsBare word → bytes_eq text word ≡ true → IsBare text
bare_at text word bare h = subst IsBare (sym (bytes_same text word h)) bare

mode_bare : (text : Text) → is_some (mode_named text) ≡ true → IsBare text
unfolding mode_named
mode_bare text h =
    mode_split (bytes_eq text (codes "run")) (bytes_eq text (codes "lockstep")) (bytes_eq text (codes "replay")) (bytes_eq text (codes "make")) _ _ _ _ (IsBare text)
    (bare_at text (codes "run") refl) (bare_at text (codes "lockstep") refl) (bare_at text (codes "replay") refl) (bare_at text (codes "make") refl) h

choose : (b x y : Bool) (P : Type 0) → (x ≡ true → P) → (y ≡ true → P) → cond b x y ≡ true → P
choose true x y P f g h = f h
choose false x y P f g h = g h

pub allowed_bare : (name value : Text) → is_allowed name value ≡ true → IsBare value
unfolding is_allowed
allowed_bare name value h =
    choose (bytes_eq name (codes "mode")) _ _ (IsBare value) (mode_bare value)
    (λ h1. choose (bytes_eq name (codes "top")) _ _ (IsBare value) (identifier_bare value)
    (λ h2. choose (bytes_eq name (codes "ahead")) _ _ (IsBare value) (number_bare 0 4096 value)
    (λ h3. choose (bytes_eq name (codes "xres")) _ _ (IsBare value) (number_bare 1 1000000000 value)
    (λ h4. choose (bytes_eq name (codes "schedule")) _ _ (IsBare value) (schedule_bare value)
    (λ h5. choose (bytes_eq name (codes "size")) _ _ (IsBare value) (number_bare 1 15 value)
    (λ h6. choose (bytes_eq name (codes "h0") || bytes_eq name (codes "hmin") || bytes_eq name (codes "hmax")) _ _ (IsBare value) (number_bare 1 1000000000000 value)
    (number_bare 1 1000000000000000 value) h6) h5) h4) h3) h2) h1) h

pub bare_not_long : (text : Text) → IsBare text → long_of text ≡ None
bare_not_long text h = rw h

pub bare_not_short : (text : Text) → IsBare text → short_of text ≡ None
bare_not_short text h = rw h

pub same_bytes : (a : Text) → bytes_eq a a ≡ true
same_bytes a = let d = bytes_eq-Decides a a in grind (arith, bytes_eq-Decides a a)
