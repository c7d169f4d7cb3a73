-- A number for each kind of token, by which a grammar names it.
use Rattle.std.specs.Prelude.{ℕ, zero, suc, ◌+◌}
use Rattle.ams_token.specs.declared.token.TheConstants.{FIRST_WORD_CLASS, FIRST_MARK_CLASS}
use Rattle.ams_token.specs.declared.token.Token.{Token}
use Rattle.ams_token.specs.declared.token.TokenKind.{TokenKind}
use Rattle.ams_token.specs.declared.token.TokenKind.TheVariants as kind
use Rattle.ams_token.specs.declared.word.Word.{Word}
use Rattle.ams_token.specs.declared.mark.Mark.{Mark}
use Rattle.ams_token.specs.Spelling.{word_number, mark_number}

-- the names that the grammar knows have kinds of their own: event, dot, above and ramp
abbrev pub name_class : ℕ → ℕ
name_class zero = 0
name_class (suc zero) = 1
name_class (suc (suc zero)) = 2
name_class (suc (suc (suc zero))) = 3
name_class (suc (suc (suc (suc n)))) = 4

abbrev pub word_class : Word → ℕ
word_class x = FIRST_WORD_CLASS + word_number x

abbrev pub mark_class : Mark → ℕ
mark_class x = FIRST_MARK_CLASS + mark_number x

abbrev pub kind_class : TokenKind → ℕ
kind_class (kind.Name n) = name_class n
kind_class (kind.Int x) = 5
kind_class (kind.Real x) = 6
kind_class (kind.Char c) = 7
kind_class (kind.Str n) = 8
kind_class (kind.Bits n) = 9
kind_class (kind.Word x) = word_class x
kind_class (kind.Mark x) = mark_class x

abbrev pub class : Token → ℕ
class t = kind_class t.kind
