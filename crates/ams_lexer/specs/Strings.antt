-- String literals and bit string literals (IEEE 1076, "String literals" and "Bit string literals").
use Rattle.std.specs.Prelude.{ℕ, zero, suc, ◌+◌, ◌-◌, ◌/◌, ◌%◌, ◌^◌, Bool, true, false, not, ◌&&◌, ◌||◌, ◌==◌, nat_lt, List, [], ◌∷◌, length, take, drop, if◌then◌else◌}
use Rattle.std.specs.List.{flat_map}
use Rattle.std.specs.Char.{digit_value, is_digit}
use Rattle.ams_lexer.specs.Runs.{begins}

-- ---- the content of a string

-- A quotation mark (34) in a string is written twice.
abbrev pub doubled : ℕ → List ℕ
doubled b = if b == 34 then 34 ∷ 34 ∷ [] else b ∷ []

abbrev pub spelled : List ℕ → List ℕ
spelled content = flat_map doubled content

-- A string ends before a line feed (10), at the end of the text, and at a mark that no second one follows.
abbrev pub ends : List ℕ → Bool
ends [] = true
ends (b ∷ bs) = b == 10 || (b == 34 && not (begins (λ c. c == 34) bs))

abbrev pub is_in_line : ℕ → Bool
is_in_line b = not (b == 10)

abbrev pub is_comment_byte : ℕ → Bool
is_comment_byte b = nat_lt b 128 && is_in_line b

-- ---- reading from the left; the flag says that the second mark of a pair is next

abbrev pub body_length : Bool → List ℕ → ℕ
body_length second [] = 0
body_length true (b ∷ bs) = suc (body_length false bs)
body_length false (b ∷ bs) = if ends (b ∷ bs) then 0 else suc (body_length (b == 34) bs)

abbrev pub undoubled : Bool → List ℕ → List ℕ
undoubled second [] = []
undoubled true (b ∷ bs) = undoubled false bs
undoubled false (b ∷ bs) = b ∷ undoubled (b == 34) bs

-- what stands between the first n bytes and the last one
abbrev pub between : ℕ → List ℕ → List ℕ
between n w = take (length (drop n w) - 1) (drop n w)

-- how many bytes from the front on pass
abbrev pub front_length : (ℕ → Bool) → List ℕ → ℕ
front_length p [] = 0
front_length p (b ∷ bs) = if p b then suc (front_length p bs) else 0

-- ---- the digits of a bit string

-- B, O and X in either case
abbrev pub is_bit_letter : ℕ → Bool
is_bit_letter b = (b == 66 || b == 98) || ((b == 79 || b == 111) || (b == 88 || b == 120))

-- how many bits a digit stands for
abbrev pub bit_width : ℕ → ℕ
bit_width letter = if letter == 66 || letter == 98 then 1 else if letter == 79 || letter == 111 then 3 else 4

-- a digit below two to that power, or an underscore
abbrev pub is_bit_digit : ℕ → ℕ → Bool
is_bit_digit width b = b == 95 || is_digit b (2 ^ width)

-- the lowest bits of a number as `0` and `1`, the highest of them first
abbrev pub binary : ℕ → ℕ → List ℕ
binary zero value = []
binary (suc k) value = (48 + value / 2 ^ k % 2) ∷ binary k value

abbrev pub bits_of : ℕ → ℕ → List ℕ
bits_of width b = if b == 95 then [] else binary width (digit_value b)

abbrev pub bit_text : ℕ → List ℕ → List ℕ
bit_text width digits = flat_map (bits_of width) digits
