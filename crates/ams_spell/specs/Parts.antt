-- Kinds of tokens as they stand in a text.
use Rattle.std.specs.Prelude.{Bool, true, false, List, [], ◌∷◌, ◌++◌, map}
use Rattle.ams_token.specs.declared.token.TokenKind.{TokenKind}
use Rattle.ams_token.specs.declared.token.TokenKind.TheVariants as kind
use Rattle.ams_token.specs.declared.word.Word.{Word}
use Rattle.ams_token.specs.declared.word.Word.TheVariants as w
use Rattle.ams_token.specs.declared.mark.Mark.{Mark}
use Rattle.ams_token.specs.declared.mark.Mark.TheVariants as m
use Rattle.ams_tree.specs.declared.expression.Name.{Name}
use Rattle.ams_tree.specs.declared.expression.Literal.{Literal}
use Rattle.expr_spell.specs.Kinds.{separated, name}
use Rattle.expr_spell.specs.Spelling.{literal_kind}

-- one part behind those before it
infixl 10 ◌⊕◌
abbrev pub ◌⊕◌ : List TokenKind → List TokenKind → List TokenKind
x ⊕ y = x ++ y

abbrev pub mark : Mark → List TokenKind
mark x = kind.Mark x ∷ []

abbrev pub word : Word → List TokenKind
word x = kind.Word x ∷ []

-- a part that a flag says to be there
abbrev pub present : List TokenKind → Bool → List TokenKind
present x true = x
present x false = []

abbrev pub names : List Name → List TokenKind
names xs = separated (kind.Mark m.Comma) (map name xs)

abbrev pub literal_kinds : Literal → List TokenKind
literal_kinds x = literal_kind x.value ∷ []

-- "end", this word, ";"
abbrev pub ending_kinds : Word → List TokenKind
ending_kinds x = word w.End ⊕ word x ⊕ mark m.Semicolon
