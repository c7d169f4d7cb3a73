-- The texts of names, strings and bit strings are lines of ASCII.
use Rattle.std.proofs.Common.{◌≡◌, ◌≢◌, ◌<◌, ◌≤◌, ◌+◌, ◌/◌, ◌%◌, ◌^◌, ⊎_elim, ℕ, zero, suc, arith, Bool, true, false, cond, if◌then◌else◌, List, [], ◌∷◌, ◌++◌, map, Option, Some, None, refl, sym, subst}
use Rattle.std.specs.Prelude.{fold, codes, ◌&&◌, ◌||◌, ◌==◌, not, nat_lt}
use Rattle.std.specs.List.{All, list_all, list_any}
use Rattle.std.specs.Str.{bytes_eq}
use Rattle.std.specs.Char.{is_ascii, is_ascii_alphanumeric, to_ascii_lowercase, digit_value}
use Rattle.std.specs.Int.{is_in_range}
use Rattle.std.proofs.lemmas.Bool.{and_parts, or_cases}
use Rattle.std.proofs.lemmas.Bool.Decides.{nat_tests}
use Rattle.std.proofs.lemmas.List.Elements.{All-nil, All-cons, All-append, All-push, All-map, All-weaker}
use Rattle.ams_token.specs.NameTable.{known_names, with_name}
use Rattle.ams_lexer.specs.Runs.{begins, goes_on, IsRun}
use Rattle.ams_lexer.specs.Strings.{is_in_line, bit_width, binary, bits_of, bit_text}
use Rattle.ams_lexer.specs.Pieces.{Lexeme, reserved, name, number, character, string, bits, mark}
use Rattle.ams_lexer.specs.Texts.{Cut, IsPiece, IsCut, attribute_after, with_text}
use Rattle.text_laws.specs.Lines.{IsLine, TextsAreLines}

abbrev IsByte : ℕ → Type 0
IsByte b = (b < 128) × (b ≢ 10)

is_less : (m n : ℕ) → nat_lt m n ≡ true → m < n
is_less m n h = grind (arith, nat_tests)

-- ---- the bytes of a name

in_range : (low high b : ℕ) → is_in_range low high b ≡ true → (low ≤ b) × (b ≤ high)
in_range low high b h = grind (arith, nat_tests)

abbrev IsPart : ℕ → Type 0
IsPart b = (48 ≤ b) × (b ≤ 122)

part_is : (b : ℕ) → is_ascii_alphanumeric b ≡ true → IsPart b
part_is b h =
    ⊎_elim
    (λ low. ⊎_elim (λ digit. wider 48 57 (omega arith) (omega arith) (in_range 48 57 b digit)) (λ upper. wider 65 90 (omega arith) (omega arith) (in_range 65 90 b upper)) (or_cases (is_in_range 48 57 b) (is_in_range 65 90 b) low))
    (λ lower. wider 97 122 (omega arith) (omega arith) (in_range 97 122 b lower)) (or_cases (is_in_range 48 57 b || is_in_range 65 90 b) (is_in_range 97 122 b) h)
  where
    wider : (low high : ℕ) → 48 ≤ low → high ≤ 122 → (low ≤ b) × (b ≤ high) → IsPart b
    wider low high l k h = (omega arith, omega arith)

lower_is : (b : ℕ) → IsPart b → IsByte (to_ascii_lowercase b)
lower_is b h = first (nat_lt b 65) refl (nat_lt b 91)
  where
    itself : IsByte b
    itself = (omega arith, λ is. omega arith)

    raised : b < 91 → IsByte (b + 32)
    raised less = (omega arith, λ is. omega arith)

    first : (x : Bool) → nat_lt b 65 ≡ x → (y : Bool) → IsByte (cond x b (cond (nat_lt b 91) (b + 32) b))
    first true e y = itself
    first false e y = second (nat_lt b 91) refl
      where
        second : (z : Bool) → nat_lt b 91 ≡ z → IsByte (cond z (b + 32) b)
        second true e = raised (is_less b 91 e)
        second false e = itself

run_is : (w : List ℕ) → IsRun is_ascii_alphanumeric w → All IsPart w
run_is [] h = All-nil IsPart
run_is (b ∷ w) h = All-cons IsPart b w (one b w h.0) (run_is w h.1)
  where
    one : (b : ℕ) (w : List ℕ) → goes_on is_ascii_alphanumeric (b ∷ w) ≡ true → IsPart b
    one b w h = ⊎_elim (λ is. part_is b is) (λ under. underscore b (and_parts (b == 95) (begins is_ascii_alphanumeric w) under).0) (or_cases (is_ascii_alphanumeric b) (b == 95 && begins is_ascii_alphanumeric w) h)
      where
        underscore : (b : ℕ) → (b == 95) ≡ true → IsPart b
        underscore b e = let is : b ≡ 95 = grind (arith, nat_tests) in (omega arith, omega arith)

name_is : (w : List ℕ) → IsRun is_ascii_alphanumeric w → IsLine (map to_ascii_lowercase w)
name_is w h = All-map IsByte to_ascii_lowercase w (All-weaker IsPart (λ b. IsByte (to_ascii_lowercase b)) lower_is w (run_is w h))

-- ---- the bytes of a string

string_is : (w : List ℕ) → list_all is_in_line w ≡ true → list_all is_ascii w ≡ true → IsLine w
string_is [] h k = All-nil IsByte
string_is (b ∷ w) h k =
    let line = and_parts (is_in_line b) (list_all is_in_line w) h in
    let low = and_parts (is_ascii b) (list_all is_ascii w) k in
    All-cons IsByte b w (is_less b 128 low.0, λ is. other b line.0 is) (string_is w line.1 low.1)
  where
    other : (b : ℕ) → not (b == 10) ≡ true → b ≡ 10 → ⊥
    other b h is = grind (arith, nat_tests)

-- ---- bits

binary_is : (k value : ℕ) → IsLine (binary k value)
binary_is zero value = All-nil IsByte
binary_is (suc k) value = All-cons IsByte (48 + value / 2 ^ k % 2) (binary k value) (digit (value / 2 ^ k)) (binary_is k value)
  where
    digit : (n : ℕ) → IsByte (48 + n % 2)
    digit n = let less : n % 2 < 2 = mod_less n in (omega arith, λ is. omega arith)
      where
        mod_less : (n : ℕ) → n % 2 < 2
        mod_less n = grind arith

bits_is : (width b : ℕ) → IsLine (bits_of width b)
bits_is width b = go (b == 95)
  where
    go : (x : Bool) → IsLine (if x then [] else binary width (digit_value b))
    go true = All-nil IsByte
    go false = binary_is width (digit_value b)

text_is : (width : ℕ) (w : List ℕ) → IsLine (bit_text width w)
text_is width [] = All-nil IsByte
text_is width (b ∷ w) = All-append IsByte (bits_of width b) (bit_text width w) (bits_is width b) (text_is width w)

-- ---- the table

with_name_lines : (names : List (List ℕ)) (text : List ℕ) → All IsLine names → IsLine text → All IsLine (with_name names text)
with_name_lines names text h line = go (list_any (bytes_eq text) names)
  where
    go : (x : Bool) → All IsLine (if x then names else names ++ text ∷ [])
    go true = h
    go false = All-push IsLine names text h line

piece_lines : (names : List (List ℕ)) (a : Bool) (w rest : List ℕ) (x : Option Lexeme) → All IsLine names → IsPiece a w rest x → All IsLine (with_text names x)
piece_lines names a w rest None h piece = h
piece_lines names a w rest (Some (reserved x)) h piece = h
piece_lines names a w rest (Some (name text)) h piece = with_name_lines names text h (subst IsLine (sym piece.1) (name_is w piece.0.run))
piece_lines names a w rest (Some (number x)) h piece = h
piece_lines names a w rest (Some (character c)) h piece = h
piece_lines names a w rest (Some (string content)) h piece = with_name_lines names content h (string_is content piece.lines piece.ascii)
piece_lines names a w rest (Some (bits content)) h piece = with_name_lines names content h (subst IsLine (sym piece.value) (text_is (bit_width piece.letter) piece.digits))
piece_lines names a w rest (Some (mark x)) h piece = h

cut_lines : (cuts : List Cut) (a : Bool) (bs : List ℕ) (names : List (List ℕ)) → IsCut a bs cuts None → All IsLine names
    → All IsLine (fold (λ (now : List (List ℕ)) (cut : Cut). with_text now cut.lexeme) names cuts)
cut_lines [] a bs names h lines = lines
cut_lines (cut ∷ more) a bs names h lines =
    cut_lines more (attribute_after a cut.lexeme) h.0 (with_text names cut.lexeme) h.3 (piece_lines names a cut.bytes h.0 cut.lexeme lines h.2)

known_lines : All IsLine known_names
known_lines = All-cons IsLine (codes "event") (codes "dot" ∷ codes "above" ∷ codes "ramp" ∷ []) (string_is (codes "event") refl refl)
    (All-cons IsLine (codes "dot") (codes "above" ∷ codes "ramp" ∷ []) (string_is (codes "dot") refl refl)
    (All-cons IsLine (codes "above") (codes "ramp" ∷ []) (string_is (codes "above") refl refl)
    (All-cons IsLine (codes "ramp") [] (string_is (codes "ramp") refl refl) (All-nil IsLine))))

pub texts_are_lines : TextsAreLines
texts_are_lines text tokens h = subst (All IsLine) (sym h.names) (cut_lines h.cuts false text known_names h.is_cut known_lines)
