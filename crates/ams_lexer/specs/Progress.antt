-- How far a text has been cut.
use Rattle.std.specs.Prelude.{◌≡◌, ℕ, ◌+◌, ◌-◌, ◌≤◌, ◌==◌, if◌then◌else◌, Bool, false, List, [], ◌∷◌, ◌++◌, map, take, drop, Option, Some}
use Rattle.ams_token.specs.declared.token.Token.{Token}
use Rattle.ams_token.specs.declared.token.TokenKind.{TokenKind}
use Rattle.ams_lexer.specs.declared.pieces.Cause.{Cause}
use Rattle.ams_lexer.specs.Kinds.{takes_attribute_kind}
use Rattle.ams_lexer.specs.declared.lexer.Lexer.{Lexer}
use Rattle.ams_lexer.specs.Texts.{Cut, IsCut, bytes_of, placed_of, tokens_after, names_of, place_at, place_after, first_place}

-- The front of the text, up to at, is cut into pieces whose tokens these are. However the rest is cut, so is the text.
pub record IsCutTo (text : List ℕ) (at : ℕ) (attribute : Bool) (names : List (List ℕ)) (tokens : List Token) : Type 0 where
  pub cuts : List Cut
  pub reaches : (more : List Cut) (end : Option (Cause × ℕ)) → IsCut attribute (drop at text) more end → IsCut false text (cuts ++ more) end
  pub before : bytes_of cuts ≡ take at text
  pub list : map (placed_of names) tokens ≡ map (λ x. Some x) (tokens_after [] cuts)
  pub is_names : names ≡ names_of cuts

-- the place of the byte at, in a line that begins there
pub record IsInLine (text : List ℕ) (at line start : ℕ) : Type 0 where
  pub place : place_after first_place (take at text) ≡ place_at line (at + 1 - start)
  pub line_bound : line ≤ at + 1
  pub start_bound : start ≤ at

pub record IsProgress (text : List ℕ) (l : Lexer) : Type 0 where
  pub cut : IsCutTo text l.at l.attribute l.names l.tokens.items
  pub line : IsInLine text l.at l.line l.line_start

-- ---- the steps of the program

-- behind a separator or a comment that begins with this byte
abbrev pub skipped : Lexer → ℕ → ℕ → Lexer
skipped l first size =
    if first == 10 then record l { line = l.line + 1; line_start = l.at + 1; at = l.at + size } else record l { at = l.at + size }

-- a token more
pub record IsPushed (old new : Lexer) (k : TokenKind) (size : ℕ) : Type 0 where
  pub at : new.at ≡ old.at + size
  pub attribute : new.attribute ≡ takes_attribute_kind k
  pub line : new.line ≡ old.line
  pub line_start : new.line_start ≡ old.line_start
  pub names : new.names ≡ old.names
  pub tokens : new.tokens.items ≡ old.tokens.items ++ (record { kind = k; place = place_at old.line (old.at + 1 - old.line_start); from = old.at; to = old.at + size }) ∷ []
