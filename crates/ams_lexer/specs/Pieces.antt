-- What stands at a place of a text: a separator, a comment, a token, or a fault (IEEE 1076, "Lexical elements").
use Rattle.std.specs.Prelude.{◌≡◌, ℕ, suc, ◌+◌, ◌≤◌, ◌⊎◌, Bool, true, false, not, ◌&&◌, ◌||◌, ◌==◌, nat_le, List, [], ◌∷◌, ◌++◌, length, take, drop, map, Option, Some, None, Result, Ok, Err, if◌then◌else◌}
use Rattle.std.specs.List.{list_all}
use Rattle.std.specs.Char.{is_ascii, is_ascii_alphabetic, is_ascii_alphanumeric, to_ascii_lowercase}
use Rattle.ams_token.specs.declared.mark.Mark.{Mark}
use Rattle.ams_token.specs.declared.mark.Mark.TheVariants as m
use Rattle.ams_token.specs.declared.word.Word.{Word}
use Rattle.ams_token.specs.declared.word.Word.TheVariants as w
use Rattle.ams_token.specs.Spelling.{word_text, mark_text}
use Rattle.ams_lexer.specs.declared.numbers.Number.{Number}
use Rattle.ams_lexer.specs.declared.pieces.Piece.{Piece}
use Rattle.ams_lexer.specs.declared.pieces.Piece.TheVariants as p
use Rattle.ams_lexer.specs.declared.pieces.Cause.{Cause}
use Rattle.ams_lexer.specs.declared.pieces.Cause.TheVariants as cause
use Rattle.ams_lexer.specs.Runs.{begins, goes_on, IsRun, run_length}
use Rattle.ams_lexer.specs.Numbers.{digit, IsNumber, number_at}
use Rattle.ams_lexer.specs.Strings.{spelled, ends, is_in_line, is_comment_byte, body_length, front_length, is_bit_letter, bit_width, is_bit_digit, bit_text}
use Rattle.ams_lexer.specs.Marks.{IsMark, mark_at}

-- ---- tokens with their content

pub data Lexeme : Type 0 where
  reserved : Word → Lexeme
  name : List ℕ → Lexeme
  number : Number → Lexeme
  character : ℕ → Lexeme
  string : List ℕ → Lexeme
  bits : List ℕ → Lexeme
  mark : Mark → Lexeme

abbrev pub is_reference : Word → Bool
is_reference w.Reference = true
is_reference x = false

abbrev pub is_right_paren : Mark → Bool
is_right_paren m.RightParen = true
is_right_paren x = false

-- a tick behind a name, `reference` and `)`, separators skipped, is an attribute tick
abbrev pub takes_attribute : Lexeme → Bool
takes_attribute (reserved x) = is_reference x
takes_attribute (name text) = true
takes_attribute (number x) = false
takes_attribute (character c) = false
takes_attribute (string content) = false
takes_attribute (bits content) = false
takes_attribute (mark x) = is_right_paren x

-- ---- separators and comments

-- a space, a tab, a line feed, a carriage return
abbrev pub is_separator : ℕ → Bool
is_separator b = (b == 32 || b == 9) || (b == 10 || b == 13)

abbrev pub opens_comment : List ℕ → Bool
opens_comment bs = begins (λ b. b == 45) bs && begins (λ b. b == 45) (drop 1 bs)

-- two hyphens (45), and what follows them up to the end of the line
pub record IsComment (w rest : List ℕ) : Type 0 where
  pub body : List ℕ
  pub text : w ≡ 45 ∷ 45 ∷ body
  pub bytes : list_all is_comment_byte body ≡ true
  pub stops : (rest ≡ []) ⊎ (begins (λ b. b == 10) rest ≡ true)

pub record IsSeparator (w : List ℕ) : Type 0 where
  pub byte : ℕ
  pub text : w ≡ byte ∷ []
  pub separates : is_separator byte ≡ true

-- ---- identifiers and literals

abbrev pub opens_bits : List ℕ → Bool
opens_bits bs = begins is_bit_letter bs && begins (λ b. b == 34) (drop 1 bs)

-- a letter, and letters, digits and single underscores between them; it doesn't go on, and isn't the letter of a bit string
pub record IsIdentifier (w rest : List ℕ) : Type 0 where
  pub letter : begins is_ascii_alphabetic w ≡ true
  pub run : IsRun is_ascii_alphanumeric w
  pub stops : goes_on is_ascii_alphanumeric rest ≡ false
  pub no_bits : opens_bits (w ++ rest) ≡ false

-- a printable character between ticks (39), where no attribute tick stands
pub record IsCharacter (attribute : Bool) (c : ℕ) (w : List ℕ) : Type 0 where
  pub free : attribute ≡ false
  pub printable : (32 ≤ c) × (c ≤ 126)
  pub text : w ≡ 39 ∷ c ∷ 39 ∷ []

-- the content between marks, which ends there
pub record IsString (content w rest : List ℕ) : Type 0 where
  pub text : w ≡ 34 ∷ (spelled content ++ 34 ∷ [])
  pub lines : list_all is_in_line content ≡ true
  pub ascii : list_all is_ascii content ≡ true
  pub stops : ends (34 ∷ rest) ≡ true

-- a letter and a string of its digits and underscores
pub record IsBits (content w rest : List ℕ) : Type 0 where
  pub letter : ℕ
  pub digits : List ℕ
  pub is_letter : is_bit_letter letter ≡ true
  pub text : w ≡ letter ∷ 34 ∷ (digits ++ 34 ∷ [])
  pub is_digits : list_all (is_bit_digit (bit_width letter)) digits ≡ true
  pub stops : ends (34 ∷ rest) ≡ true
  pub value : content ≡ bit_text (bit_width letter) digits

abbrev pub IsCharacterAt : Bool → List ℕ → Type 0
IsCharacterAt attribute bs = (c : ℕ) × (rest : List ℕ) × (attribute ≡ false) × (32 ≤ c) × (c ≤ 126) × (bs ≡ 39 ∷ c ∷ 39 ∷ rest)

-- The bytes w, before these other bytes, are this token; the test says whether a tick here is an attribute tick.
abbrev pub IsLexeme : Bool → Lexeme → List ℕ → List ℕ → Type 0
IsLexeme attribute (reserved x) w rest = IsIdentifier w rest × (word_text x ≡ map to_ascii_lowercase w)
IsLexeme attribute (name text) w rest = IsIdentifier w rest × (text ≡ map to_ascii_lowercase w) × ((x : Word) → word_text x ≡ text → ⊥)
IsLexeme attribute (number x) w rest = IsNumber x w rest
IsLexeme attribute (character c) w rest = IsCharacter attribute c w
IsLexeme attribute (string content) w rest = IsString content w rest
IsLexeme attribute (bits content) w rest = IsBits content w rest
IsLexeme attribute (mark x) w rest = IsMark x w rest × (IsCharacterAt attribute (w ++ rest) → ⊥) × (opens_comment (w ++ rest) ≡ false)

-- what a piece is, apart from whether an identifier is reserved
abbrev pub Means : Bool → Piece → List ℕ → List ℕ → Type 0
Means a p.Separator w rest = IsSeparator w
Means a p.Comment w rest = IsComment w rest
Means a p.Identifier w rest = IsIdentifier w rest
Means a (p.Number x) w rest = IsNumber x w rest
Means a (p.Character c) w rest = IsCharacter a c w
Means a p.Text w rest = (content : List ℕ) × IsString content w rest
Means a p.Bits w rest = (content : List ℕ) × IsBits content w rest
Means a (p.Mark x) w rest = IsMark x w rest × (IsCharacterAt a (w ++ rest) → ⊥) × (opens_comment (w ++ rest) ≡ false)

-- ---- faults, each with how many bytes stand before its place

-- a line ends here
abbrev pub IsLineEnd : List ℕ → Type 0
IsLineEnd rest = (rest ≡ []) ⊎ (begins (λ b. b == 10) rest ≡ true)

abbrev pub is_wide : ℕ → Bool
is_wide b = not (is_ascii b)

-- a byte of 128 or more in a comment
pub record HasWideComment (bs : List ℕ) (offset : ℕ) : Type 0 where
  pub body : List ℕ
  pub rest : List ℕ
  pub text : bs ≡ 45 ∷ 45 ∷ (body ++ rest)
  pub bytes : list_all is_comment_byte body ≡ true
  pub wide : begins is_wide rest ≡ true
  pub place : offset ≡ suc (suc (length body))

-- the first byte of 128 or more in a string that is closed
pub record HasWideString (bs : List ℕ) (offset : ℕ) : Type 0 where
  pub content : List ℕ
  pub rest : List ℕ
  pub text : bs ≡ 34 ∷ (spelled content ++ 34 ∷ rest)
  pub lines : list_all is_in_line content ≡ true
  pub stops : ends (34 ∷ rest) ≡ true
  pub wide : list_all is_ascii (spelled content) ≡ false
  pub place : offset ≡ suc (front_length is_ascii (spelled content))

-- a digit begins no number
pub record HasBadNumber (bs : List ℕ) : Type 0 where
  pub digit_first : begins (digit 10) bs ≡ true
  pub none : (x : Number) (w rest : List ℕ) → bs ≡ w ++ rest → IsNumber x w rest → ⊥

-- a bit string, closed or not, has a byte that is no digit and no underscore
pub record HasBadBits (bs : List ℕ) : Type 0 where
  pub letter : ℕ
  pub content : List ℕ
  pub rest : List ℕ
  pub is_letter : is_bit_letter letter ≡ true
  pub text : bs ≡ letter ∷ 34 ∷ (spelled content ++ rest)
  pub lines : list_all is_in_line content ≡ true
  pub stops : ends rest ≡ true
  pub wrong : list_all (is_bit_digit (bit_width letter)) (spelled content) ≡ false

-- a string that the line ends in
pub record HasOpenString (bs : List ℕ) : Type 0 where
  pub content : List ℕ
  pub rest : List ℕ
  pub text : bs ≡ 34 ∷ (spelled content ++ rest)
  pub lines : list_all is_in_line content ≡ true
  pub stops : IsLineEnd rest

-- a bit string of right digits that the line ends in
pub record HasOpenBits (bs : List ℕ) : Type 0 where
  pub letter : ℕ
  pub digits : List ℕ
  pub rest : List ℕ
  pub is_letter : is_bit_letter letter ≡ true
  pub text : bs ≡ letter ∷ 34 ∷ (digits ++ rest)
  pub is_digits : list_all (is_bit_digit (bit_width letter)) digits ≡ true
  pub stops : IsLineEnd rest

-- a byte below 128 that begins nothing
pub record HasBadCharacter (bs : List ℕ) : Type 0 where
  pub byte : ℕ
  pub rest : List ℕ
  pub text : bs ≡ byte ∷ rest
  pub ascii : is_ascii byte ≡ true
  pub no_separator : is_separator byte ≡ false
  pub no_letter : is_ascii_alphabetic byte ≡ false
  pub no_digit : digit 10 byte ≡ false
  pub no_quote : (byte == 34) ≡ false
  pub no_mark : (x : Mark) (after : List ℕ) → bs ≡ mark_text x ++ after → ⊥

abbrev pub HasFault : List ℕ → Cause → ℕ → Type 0
HasFault bs cause.NotAscii offset = ((begins is_wide bs ≡ true) × (offset ≡ 0)) ⊎ (HasWideComment bs offset ⊎ HasWideString bs offset)
HasFault bs cause.BadLiteral offset = (HasBadNumber bs ⊎ HasBadBits bs) × (offset ≡ 0)
HasFault bs cause.UnclosedString offset = (HasOpenString bs × (offset ≡ 0)) ⊎ (HasOpenBits bs × (offset ≡ 1))
HasFault bs cause.BadCharacter offset = HasBadCharacter bs × (offset ≡ 0)

-- ---- reading from the left: what stands at the front and how many bytes it takes, or the fault

abbrev pub Reading : Type 0
Reading = Result (Piece × ℕ) (Cause × ℕ)

abbrev pub found : Piece → ℕ → Reading
found x size = Ok (x, size)

abbrev pub refused : Cause → ℕ → Reading
refused x offset = Err (x, offset)

-- behind the letter and the mark
unfoldable pub bits_at : ℕ → List ℕ → Reading
bits_at letter bs =
    let n = body_length false bs in
    if list_all (is_bit_digit (bit_width letter)) (take n bs) then
    (if begins (λ b. b == 34) (drop n bs) then found p.Bits (n + 3) else refused cause.UnclosedString 1)
    else refused cause.BadLiteral 0

unfoldable pub word_at : ℕ → List ℕ → Reading
word_at letter bs = if opens_bits bs then bits_at letter (drop 2 bs) else found p.Identifier (run_length is_ascii_alphanumeric bs)

-- behind the mark
unfoldable pub text_at : List ℕ → Reading
text_at bs =
    let n = body_length false bs in
    let ascii = front_length is_ascii (take n bs) in
    if begins (λ b. b == 34) (drop n bs) then
    (if ascii == n then found p.Text (n + 2) else refused cause.NotAscii (ascii + 1))
    else refused cause.UnclosedString 0

-- behind the hyphens
unfoldable pub comment_at : List ℕ → Reading
comment_at bs =
    let n = front_length is_comment_byte bs in
    if begins is_wide (drop n bs) then refused cause.NotAscii (n + 2) else found p.Comment (n + 2)

abbrev pub number_or_fault : Option (Number × ℕ) → Reading
number_or_fault None = refused cause.BadLiteral 0
number_or_fault (Some x) = found (p.Number x.0) x.1

abbrev pub mark_or_fault : Option (Mark × ℕ) → Reading
mark_or_fault None = refused cause.BadCharacter 0
mark_or_fault (Some x) = found (p.Mark x.0) x.1

abbrev pub is_printable : ℕ → Bool
is_printable c = nat_le 32 c && nat_le c 126

abbrev pub character_at : Bool → List ℕ → Option ℕ
character_at attribute [] = None
character_at attribute (t ∷ []) = None
character_at attribute (t ∷ c ∷ []) = None
character_at attribute (t ∷ c ∷ u ∷ bs) = if not attribute && (t == 39 && (u == 39 && is_printable c)) then Some c else None

abbrev pub character_or : Option ℕ → Reading → Reading
character_or None other = other
character_or (Some c) other = found (p.Character c) 3

unfoldable pub mark_piece_at : Bool → List ℕ → Reading
mark_piece_at attribute bs = character_or (character_at attribute bs) (mark_or_fault (mark_at bs))

-- bytes that begin with this one
unfoldable pub piece_at : Bool → ℕ → List ℕ → Reading
piece_at attribute first bs =
    if is_separator first then found p.Separator 1
    else if is_ascii_alphabetic first then word_at first bs
    else if digit 10 first then number_or_fault (number_at bs)
    else if first == 34 then text_at (drop 1 bs)
    else if opens_comment bs then comment_at (drop 2 bs)
    else if is_wide first then refused cause.NotAscii 0
    else mark_piece_at attribute bs

-- a piece stands at the front and takes so many bytes
pub record Stands (a : Bool) (bs : List ℕ) (x : Piece × ℕ) : Type 0 where
  pub w : List ℕ
  pub rest : List ℕ
  pub text : bs ≡ w ++ rest
  pub size : length w ≡ x.1
  pub means : Means a x.0 w rest

-- what was read is there
abbrev pub Right : Bool → List ℕ → Reading → Type 0
Right a bs (Ok x) = Stands a bs x
Right a bs (Err e) = HasFault bs e.0 e.1
