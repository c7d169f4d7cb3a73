-- The kind that the program gives a token.
use Rattle.std.specs.Prelude.{◌≡◌, ℕ, Bool, true, false, List, Option, Some, None}
use Rattle.ams_token.specs.declared.token.TokenKind.{TokenKind}
use Rattle.ams_token.specs.declared.token.TokenKind.TheVariants as kind
use Rattle.ams_token.specs.declared.word.Word.{Word}
use Rattle.ams_token.specs.Spelling.{word_text}
use Rattle.ams_lexer.specs.declared.pieces.Piece.{Piece}
use Rattle.ams_lexer.specs.Pieces.{Lexeme, reserved, name, number, character, string, bits, mark, is_reference, is_right_paren, Means}
use Rattle.ams_lexer.specs.Texts.{IsPiece, with_text, lexeme_of}

-- the table of names becomes that with the token's text, in which the kind is this token
pub record Puts (old new : List (List ℕ)) (k : TokenKind) (lexeme : Lexeme) : Type 0 where
  pub shows : lexeme_of new k ≡ Some lexeme
  pub names : new ≡ with_text old (Some lexeme)

-- the word or the name of this text
abbrev pub IsWord : List ℕ → Lexeme → Type 0
IsWord text (reserved x) = word_text x ≡ text
IsWord text (name t) = (t ≡ text) × ((x : Word) → word_text x ≡ t → ⊥)
IsWord text (number x) = ⊥
IsWord text (character c) = ⊥
IsWord text (string content) = ⊥
IsWord text (bits content) = ⊥
IsWord text (mark x) = ⊥

abbrev pub PutsIfToken : List (List ℕ) → List (List ℕ) → Option TokenKind → Option Lexeme → Type 0
PutsIfToken old new None None = new ≡ old
PutsIfToken old new None (Some lexeme) = ⊥
PutsIfToken old new (Some k) None = ⊥
PutsIfToken old new (Some k) (Some lexeme) = Puts old new k lexeme

-- what kind a piece has, None at a separator or a comment
pub record Tells (old new : List (List ℕ)) (x : Piece) (w : List ℕ) (k : Option TokenKind) : Type 0 where
  pub lexeme : Option Lexeme
  pub puts : PutsIfToken old new k lexeme
  pub is_piece : (a : Bool) (rest : List ℕ) → Means a x w rest → IsPiece a w rest lexeme

abbrev pub takes_attribute_kind : TokenKind → Bool
takes_attribute_kind (kind.Word x) = is_reference x
takes_attribute_kind (kind.Name k) = true
takes_attribute_kind (kind.Int x) = false
takes_attribute_kind (kind.Real x) = false
takes_attribute_kind (kind.Char c) = false
takes_attribute_kind (kind.Str k) = false
takes_attribute_kind (kind.Bits k) = false
takes_attribute_kind (kind.Mark x) = is_right_paren x
