-- Kinds of tokens, one after the other.
use Rattle.std.specs.Prelude.{List, [], ◌∷◌, ◌++◌, Option, Some, None}
use Rattle.ams_token.specs.declared.token.Token.{Token}
use Rattle.ams_token.specs.declared.token.TokenKind.{TokenKind}
use Rattle.ams_token.specs.declared.token.TokenKind.TheVariants as kind
use Rattle.ams_token.specs.declared.mark.Mark.TheVariants as m
use Rattle.ams_tree.specs.declared.expression.Name.{Name}

-- what tokens are, their places aside
abbrev pub kinds : List Token → List TokenKind
kinds [] = []
kinds (t ∷ ts) = t.kind ∷ kinds ts

-- what is there, where it is there
abbrev pub optional : {A : Type 0} → (A → List TokenKind) → Option A → List TokenKind
optional f None = []
optional f (Some x) = f x

abbrev pub joined : List (List TokenKind) → List TokenKind
joined [] = []
joined (x ∷ xs) = x ++ joined xs

-- each of them behind this token
abbrev pub behind : TokenKind → List (List TokenKind) → List TokenKind
behind sep [] = []
behind sep (x ∷ xs) = sep ∷ (x ++ behind sep xs)

-- with this token between them
abbrev pub separated : TokenKind → List (List TokenKind) → List TokenKind
separated sep [] = []
separated sep (x ∷ xs) = x ++ behind sep xs

-- "(" .. ")"
abbrev pub parenthesized : List TokenKind → List TokenKind
parenthesized x = kind.Mark m.LeftParen ∷ (x ++ kind.Mark m.RightParen ∷ [])

abbrev pub name : Name → List TokenKind
name x = kind.Name x.number ∷ []
