-- Decimal and based literals (IEEE 1076, "Abstract literals"), narrowed by the limits of the profile.
use Rattle.std.specs.Prelude.{◌≡◌, ℕ, suc, ◌+◌, ◌*◌, ◌≤◌, ℤ, pos, ◌-ℤ◌, Bool, true, false, not, ◌&&◌, ◌||◌, ◌==◌, nat_le, List, [], ◌∷◌, ◌++◌, length, take, drop, count_by, Option, Some, None, if◌then◌else◌}
use Rattle.std.specs.Char.{digit_value, is_digit, is_ascii_alphabetic}
use Rattle.ams_lexer.specs.Runs.{begins, IsRun, run_length}
use Rattle.ams_lexer.specs.declared.numbers.Number.{Number}
use Rattle.ams_lexer.specs.declared.numbers.Number.TheVariants.{Int, Real}
use Rattle.ams_token.specs.declared.token.Integer.{Integer}
use Rattle.ams_token.specs.declared.token.Decimal.{Decimal}

-- ---- digits

abbrev pub digit : ℕ → ℕ → Bool
digit base b = is_digit b base

-- digits of the base, in either case, with single underscores between them
abbrev pub IsDigits : ℕ → List ℕ → Type 0
IsDigits base w = (begins (digit base) w ≡ true) × IsRun (digit base) w

-- the value of digits that follow those of a number
abbrev pub value_after : ℕ → ℕ → List ℕ → ℕ
value_after base n [] = n
value_after base n (b ∷ w) = value_after base (if b == 95 then n else n * base + digit_value b) w

abbrev pub value_of : ℕ → List ℕ → ℕ
value_of base w = value_after base 0 w

-- how many digits there are, underscores aside
abbrev pub digit_count : List ℕ → ℕ
digit_count w = count_by (λ b. not (b == 95)) w

-- ---- exponents

-- `E` or `e`
abbrev pub is_marker : ℕ → Bool
is_marker b = b == 69 || b == 101

-- `+`, and `-` where it may stand
abbrev pub is_sign : Bool → ℕ → Bool
is_sign signed b = b == 43 || (signed && b == 45)

abbrev pub sign_length : Bool → List ℕ → ℕ
sign_length signed w = if begins (is_sign signed) w then 1 else 0

abbrev pub unsigned : Bool → List ℕ → List ℕ
unsigned signed w = drop (sign_length signed w) w

-- no exponent, or its letter, a sign that may be left out, and digits
abbrev pub IsExponent : Bool → List ℕ → Type 0
IsExponent signed [] = Unit {0}
IsExponent signed (b ∷ w) = (is_marker b ≡ true) × IsDigits 10 (unsigned signed w)

abbrev pub magnitude : List ℕ → ℕ
magnitude [] = 0
magnitude (b ∷ w) = value_of 10 (unsigned true w)

abbrev pub is_negative : List ℕ → Bool
is_negative w = begins (λ b. b == 45) (drop 1 w)

abbrev pub signed_exponent : List ℕ → ℤ
signed_exponent w = if is_negative w then pos 0 -ℤ pos (magnitude w) else pos (magnitude w)

-- ---- literals

abbrev pub integer_of : ℕ → ℕ → ℕ → Integer
integer_of digits base exponent = record { digits = digits; base = base; exponent = exponent }

abbrev pub decimal_of : ℕ → ℤ → Decimal
decimal_of digits power = record { digits = digits; power = power }

-- what may not follow a number directly: a letter, an underscore, a point, a `#`, and but for a based literal without
-- an exponent a digit
abbrev pub follows : Bool → ℕ → Bool
follows closed b = (is_ascii_alphabetic b || (b == 95 || (b == 46 || b == 35))) || (not closed && digit 10 b)

-- A number ends within 32 bytes and before nothing that goes on with it, and its exponent is at most 40.
pub record Closes (size : ℕ) (closed : Bool) (exponent rest : List ℕ) : Type 0 where
  pub within : size ≤ 32
  pub limit : magnitude exponent ≤ 40
  pub stops : begins (follows closed) rest ≡ false

abbrev pub is_empty : List ℕ → Bool
is_empty [] = true
is_empty (b ∷ w) = false

-- digits and an exponent without a minus
pub record IsInteger (number : Number) (w rest : List ℕ) : Type 0 where
  pub whole : List ℕ
  pub exponent : List ℕ
  pub text : w ≡ whole ++ exponent
  pub is_whole : IsDigits 10 whole
  pub is_exponent : IsExponent false exponent
  pub closes : Closes (length w) false exponent rest
  pub value : number ≡ Int (integer_of (value_of 10 whole) 10 (magnitude exponent))

-- digits, a point (46), digits and an exponent
pub record IsReal (number : Number) (w rest : List ℕ) : Type 0 where
  pub whole : List ℕ
  pub fraction : List ℕ
  pub exponent : List ℕ
  pub text : w ≡ whole ++ 46 ∷ (fraction ++ exponent)
  pub is_whole : IsDigits 10 whole
  pub is_fraction : IsDigits 10 fraction
  pub is_exponent : IsExponent true exponent
  pub closes : Closes (length w) false exponent rest
  pub value : number ≡ Real (decimal_of (value_after 10 (value_of 10 whole) fraction) (signed_exponent exponent -ℤ pos (digit_count fraction)))

-- a base from 2 to 16, digits of it between two `#` (35), and an exponent without a minus
pub record IsBased (number : Number) (w rest : List ℕ) : Type 0 where
  pub base : List ℕ
  pub digits : List ℕ
  pub exponent : List ℕ
  pub text : w ≡ base ++ 35 ∷ (digits ++ 35 ∷ exponent)
  pub is_base : IsDigits 10 base
  pub least : 2 ≤ value_of 10 base
  pub greatest : value_of 10 base ≤ 16
  pub is_digits : IsDigits (value_of 10 base) digits
  pub is_exponent : IsExponent false exponent
  pub closes : Closes (length w) (is_empty exponent) exponent rest
  pub value : number ≡ Int (integer_of (value_of (value_of 10 base) digits) (value_of 10 base) (magnitude exponent))

-- The bytes w, before these other bytes, are this number.
pub data IsNumber (number : Number) (w rest : List ℕ) : Type 0 where
  integer : IsInteger number w rest → IsNumber number w rest
  real : IsReal number w rest → IsNumber number w rest
  based : IsBased number w rest → IsNumber number w rest

-- ---- reading from the left

abbrev pub exponent_length : Bool → List ℕ → ℕ
exponent_length signed [] = 0
exponent_length signed (b ∷ bs) = if is_marker b && begins (digit 10) (unsigned signed bs) then suc (sign_length signed bs + run_length (digit 10) (unsigned signed bs)) else 0

abbrev pub closes : ℕ → Bool → List ℕ → List ℕ → Bool
closes size closed exponent rest = (nat_le size 32 && not (begins (follows closed) rest)) && nat_le (magnitude exponent) 40

-- the number that begins with these digits, and how many bytes it takes
unfoldable pub integer_at : List ℕ → List ℕ → Option (Number × ℕ)
integer_at whole after =
    let e = exponent_length false after in
    let size = length whole + e in
    if closes size false (take e after) (drop e after) then Some (Int (integer_of (value_of 10 whole) 10 (magnitude (take e after))), size) else None

-- the real number of these digits before and after the point
unfoldable pub real_from : List ℕ → List ℕ → List ℕ → Option (Number × ℕ)
real_from whole fraction tail =
    let e = exponent_length true tail in
    let size = length whole + 1 + length fraction + e in
    if closes size false (take e tail) (drop e tail) then Some (Real (decimal_of (value_after 10 (value_of 10 whole) fraction) (signed_exponent (take e tail) -ℤ pos (digit_count fraction))), size) else None

unfoldable pub real_at : List ℕ → List ℕ → Option (Number × ℕ)
real_at whole after = if nat_le (run_length (digit 10) after) 32 then real_from whole (take (run_length (digit 10) after) after) (drop (run_length (digit 10) after) after) else None

-- the number of these digits of a base that takes so many bytes and has this value
unfoldable pub based_from : ℕ → ℕ → List ℕ → List ℕ → Option (Number × ℕ)
based_from base value digits tail =
    let e = exponent_length false tail in
    let size = base + 1 + length digits + 1 + e in
    if closes size (e == 0) (take e tail) (drop e tail) then Some (Int (integer_of (value_of value digits) value (magnitude (take e tail))), size) else None

unfoldable pub based_digits_at : ℕ → ℕ → List ℕ → Option (Number × ℕ)
based_digits_at base value after =
    let d = run_length (digit value) after in
    if begins (λ b. b == 35) (drop d after) && (begins (digit value) after && nat_le d 32) then based_from base value (take d after) (drop 1 (drop d after)) else None

unfoldable pub based_at : List ℕ → List ℕ → Option (Number × ℕ)
based_at base after = if nat_le 2 (value_of 10 base) && nat_le (value_of 10 base) 16 then based_digits_at (length base) (value_of 10 base) after else None

unfoldable pub number_from : List ℕ → List ℕ → Option (Number × ℕ)
number_from whole after =
    if begins (λ b. b == 35) after then based_at whole (drop 1 after)
    else if begins (λ b. b == 46) after && begins (digit 10) (drop 1 after) then real_at whole (drop 1 after)
    else integer_at whole after

-- the number at the front of bytes that begin with a digit
unfoldable pub number_at : List ℕ → Option (Number × ℕ)
number_at bs =
    let r = run_length (digit 10) bs in
    if nat_le r 32 then number_from (take r bs) (drop r bs) else None
