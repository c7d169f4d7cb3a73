-- The tokens of a text, or its first fault.
use Rattle.std.specs.Prelude.{◌≡◌, ℕ, ◌+◌, ◌⊎◌, Bool, false, ◌==◌, List, [], ◌∷◌, ◌++◌, length, take, map, fold, Option, Some, None, slice_get, if◌then◌else◌}
use Rattle.std.specs.List.{flat_map}
use Rattle.std.specs.Option.{option_map}
use Rattle.ams_token.specs.declared.token.Place.{Place}
use Rattle.ams_token.specs.declared.token.Token.{Token}
use Rattle.ams_token.specs.declared.token.TokenKind.{TokenKind}
use Rattle.ams_token.specs.declared.token.TokenKind.TheVariants as kind
use Rattle.ams_token.specs.declared.tokens.Tokens.{Tokens}
use Rattle.ams_token.specs.NameTable.{known_names, with_name}
use Rattle.ams_lexer.specs.declared.numbers.Number.TheVariants as n
use Rattle.ams_lexer.specs.declared.pieces.Cause.{Cause}
use Rattle.ams_lexer.specs.declared.pieces.Cause.TheVariants as cause
use Rattle.ams_lexer.specs.declared.fault.LexFault.{LexFault}
use Rattle.ams_lexer.specs.declared.fault.LexFault.TheVariants as fault
use Rattle.ams_lexer.specs.Pieces.{Lexeme, reserved, name, number, character, string, bits, mark, takes_attribute, IsSeparator, IsComment, IsLexeme, HasFault}

-- ---- places

abbrev pub place_at : ℕ → ℕ → Place
place_at line column = record { line = line; column = column }

abbrev pub first_place : Place
first_place = place_at 1 1

-- Each byte is one column, and a line feed (10) begins the next line.
abbrev pub place_after : Place → List ℕ → Place
place_after place [] = place
place_after place (b ∷ bs) = place_after (if b == 10 then place_at (place.line + 1) 1 else place_at place.line (place.column + 1)) bs

-- ---- the text, cut from left to right

-- some bytes of the text: a separator, a comment, or a token
pub record Cut : Type 0 where
  pub bytes : List ℕ
  pub lexeme : Option Lexeme

abbrev pub IsBlank : List ℕ → List ℕ → Type 0
IsBlank w rest = IsSeparator w ⊎ IsComment w rest

-- What the bytes are, before these other bytes. The test says whether a tick is an attribute tick.
abbrev pub IsPiece : Bool → List ℕ → List ℕ → Option Lexeme → Type 0
IsPiece attribute w rest None = IsBlank w rest
IsPiece attribute w rest (Some lexeme) = IsLexeme attribute lexeme w rest

-- separators and comments are skipped
abbrev pub attribute_after : Bool → Option Lexeme → Bool
attribute_after attribute None = attribute
attribute_after attribute (Some lexeme) = takes_attribute lexeme

-- the text is these pieces, to its end or to a fault, with how many bytes stand before its place
abbrev pub IsCut : Bool → List ℕ → List Cut → Option (Cause × ℕ) → Type 0
IsCut attribute bs [] None = bs ≡ []
IsCut attribute bs [] (Some x) = HasFault bs x.0 x.1
IsCut attribute bs (cut ∷ more) end = (rest : List ℕ) × (bs ≡ cut.bytes ++ rest) × IsPiece attribute cut.bytes rest cut.lexeme × IsCut (attribute_after attribute cut.lexeme) rest more end

abbrev pub bytes_of : List Cut → List ℕ
bytes_of cuts = flat_map (λ cut. cut.bytes) cuts

-- ---- its tokens

-- a token with its content, its place, and the bytes that it takes
pub record Placed : Type 0 where
  pub lexeme : Lexeme
  pub place : Place
  pub from : ℕ
  pub to : ℕ

abbrev pub placed : List ℕ → List ℕ → Option Lexeme → List Placed
placed before w None = []
placed before w (Some lexeme) = record { lexeme = lexeme; place = place_after first_place before; from = length before; to = length before + length w } ∷ []

-- the tokens of pieces that stand behind these bytes
abbrev pub tokens_after : List ℕ → List Cut → List Placed
tokens_after before [] = []
tokens_after before (cut ∷ more) = placed before cut.bytes cut.lexeme ++ tokens_after (before ++ cut.bytes) more

-- ---- the table of names and strings

abbrev pub with_text : List (List ℕ) → Option Lexeme → List (List ℕ)
with_text names None = names
with_text names (Some (name text)) = with_name names text
with_text names (Some (string text)) = with_name names text
with_text names (Some (bits text)) = with_name names text
with_text names (Some (reserved x)) = names
with_text names (Some (number x)) = names
with_text names (Some (character x)) = names
with_text names (Some (mark x)) = names

-- the texts of the pieces in the order of their first appearance, behind those that are known
abbrev pub names_of : List Cut → List (List ℕ)
names_of cuts = fold (λ names cut. with_text names cut.lexeme) known_names cuts

-- ---- the tokens as the program holds them

abbrev pub lexeme_of : List (List ℕ) → TokenKind → Option Lexeme
lexeme_of names (kind.Word x) = Some (reserved x)
lexeme_of names (kind.Name k) = option_map name (slice_get names k)
lexeme_of names (kind.Int x) = Some (number (n.Int x))
lexeme_of names (kind.Real x) = Some (number (n.Real x))
lexeme_of names (kind.Char c) = Some (character c)
lexeme_of names (kind.Str k) = option_map string (slice_get names k)
lexeme_of names (kind.Bits k) = option_map bits (slice_get names k)
lexeme_of names (kind.Mark x) = Some (mark x)

abbrev pub placed_of : List (List ℕ) → Token → Option Placed
placed_of names t = option_map (λ lexeme. record { lexeme = lexeme; place = t.place; from = t.from; to = t.to }) (lexeme_of names t.kind)

-- The tokens are those of the text.
pub record HasTokens (text : List ℕ) (tokens : Tokens) : Type 0 where
  pub cuts : List Cut
  pub is_cut : IsCut false text cuts None
  pub list : map (placed_of tokens.names) tokens.list.items ≡ map (λ x. Some x) (tokens_after [] cuts)
  pub names : tokens.names ≡ names_of cuts
  pub end : tokens.end ≡ place_after first_place text

-- The text has this fault, at this place, and none before it.
pub record StopsAt (text : List ℕ) (cause : Cause) (place : Place) : Type 0 where
  pub cuts : List Cut
  pub offset : ℕ
  pub is_cut : IsCut false text cuts (Some (cause, offset))
  pub is_place : place ≡ place_after first_place (take (length (bytes_of cuts) + offset) text)

abbrev pub IsFaultOf : List ℕ → LexFault → Type 0
IsFaultOf text (fault.BadCharacter place) = StopsAt text cause.BadCharacter place
IsFaultOf text (fault.BadLiteral place) = StopsAt text cause.BadLiteral place
IsFaultOf text (fault.UnclosedString place) = StopsAt text cause.UnclosedString place
IsFaultOf text (fault.NotAscii place) = StopsAt text cause.NotAscii place
IsFaultOf text fault.Memory = Unit {0}

abbrev pub fault_of : Cause → Place → LexFault
fault_of cause.BadCharacter place = fault.BadCharacter place
fault_of cause.BadLiteral place = fault.BadLiteral place
fault_of cause.UnclosedString place = fault.UnclosedString place
fault_of cause.NotAscii place = fault.NotAscii place

-- the place of a fault behind these pieces and so many bytes more
abbrev pub fault_place : List ℕ → List Cut → ℕ → Place
fault_place text cuts offset = place_after first_place (take (length (bytes_of cuts) + offset) text)

-- this fault, or want of memory
abbrev pub IsRefusal : Cause → Place → LexFault → Type 0
IsRefusal x place e = (e ≡ fault.Memory) ⊎ (e ≡ fault_of x place)
