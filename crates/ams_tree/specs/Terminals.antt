-- What single tokens are read as.
use Rattle.std.specs.Prelude.{ℕ, nat_eq, if◌then◌else◌, Option, Some, None}
use Rattle.ams_token.specs.declared.token.Place.{Place}
use Rattle.ams_token.specs.declared.token.Token.{Token}
use Rattle.ams_token.specs.declared.token.TokenKind.{TokenKind}
use Rattle.ams_token.specs.declared.token.TokenKind.TheVariants as kind
use Rattle.ams_token.specs.declared.word.Word.{Word}
use Rattle.ams_token.specs.declared.word.Word.TheVariants as w
use Rattle.ams_token.specs.declared.mark.Mark.{Mark}
use Rattle.ams_token.specs.declared.mark.Mark.TheVariants as m
use Rattle.ams_token.specs.declared.names.TheConstants.{EVENT_NUMBER, DOT_NUMBER, ABOVE_NUMBER, RAMP_NUMBER}
use Rattle.ams_token.specs.Classes.{class, name_class, word_class, mark_class}
use Rattle.ams_tree.specs.declared.expression.Name.{Name}
use Rattle.ams_tree.specs.declared.expression.Number.{Number}
use Rattle.ams_tree.specs.declared.expression.NumberValue.TheVariants as value
use Rattle.ams_tree.specs.declared.expression.Literal.{Literal}
use Rattle.ams_tree.specs.declared.expression.LiteralValue.TheVariants as content
use Rattle.ams_tree.specs.declared.expression.BinaryOperator.{BinaryOperator}
use Rattle.ams_tree.specs.declared.expression.BinaryOperator.TheVariants as binary
use Rattle.ams_tree.specs.declared.expression.UnaryOperator.{UnaryOperator}
use Rattle.ams_tree.specs.declared.expression.UnaryOperator.TheVariants as unary
use Rattle.ams_tree.specs.declared.declaration.Direction.{Direction}
use Rattle.ams_tree.specs.declared.declaration.Direction.TheVariants as direction
use Rattle.ams_tree.specs.declared.declaration.Mode.{Mode}
use Rattle.ams_tree.specs.declared.declaration.Mode.TheVariants as mode

-- the place of a token of this kind
unfoldable pub of_class : ℕ → Token → Option Place
of_class c t = if nat_eq (class t) c then Some t.place else None

abbrev pub mark : Mark → Token → Option Place
mark x = of_class (mark_class x)

abbrev pub word : Word → Token → Option Place
word x = of_class (word_class x)

-- the attributes that are no reserved words
abbrev pub event : Token → Option Place
event = of_class (name_class EVENT_NUMBER)

abbrev pub dot : Token → Option Place
dot = of_class (name_class DOT_NUMBER)

abbrev pub above : Token → Option Place
above = of_class (name_class ABOVE_NUMBER)

abbrev pub ramp : Token → Option Place
ramp = of_class (name_class RAMP_NUMBER)

abbrev pub name_in : TokenKind → Place → Option Name
name_in (kind.Name n) p = Some (record { number = n; place = p })
name_in _ p = None

-- an identifier
unfoldable pub name_of : Token → Option Name
name_of t = name_in t.kind t.place

abbrev pub number_in : TokenKind → Place → Option Number
number_in (kind.Int x) p = Some (record { value = value.Int x; place = p })
number_in (kind.Real x) p = Some (record { value = value.Real x; place = p })
number_in _ p = None

-- an integer or a real
unfoldable pub number_of : Token → Option Number
number_of t = number_in t.kind t.place

abbrev pub literal_in : TokenKind → Place → Option Literal
literal_in (kind.Char c) p = Some (record { value = content.Char c; place = p })
literal_in (kind.Str n) p = Some (record { value = content.Str n; place = p })
literal_in (kind.Bits n) p = Some (record { value = content.Bits n; place = p })
literal_in _ p = None

-- a character, a string or a bit string
unfoldable pub literal_of : Token → Option Literal
literal_of t = literal_in t.kind t.place

abbrev pub string_in : TokenKind → Place → Option Literal
string_in (kind.Str n) p = Some (record { value = content.Str n; place = p })
string_in _ p = None

unfoldable pub string_of : Token → Option Literal
string_of t = string_in t.kind t.place

abbrev pub multiplying_in : TokenKind → Option BinaryOperator
multiplying_in (kind.Mark m.Star) = Some binary.Multiply
multiplying_in (kind.Mark m.Slash) = Some binary.Divide
multiplying_in (kind.Word w.Mod) = Some binary.Mod
multiplying_in (kind.Word w.Rem) = Some binary.Rem
multiplying_in _ = None

unfoldable pub multiplying : Token → Option BinaryOperator
multiplying t = multiplying_in t.kind

abbrev pub adding_in : TokenKind → Option BinaryOperator
adding_in (kind.Mark m.Plus) = Some binary.Add
adding_in (kind.Mark m.Minus) = Some binary.Subtract
adding_in (kind.Mark m.Ampersand) = Some binary.Concat
adding_in _ = None

unfoldable pub adding : Token → Option BinaryOperator
adding t = adding_in t.kind

abbrev pub shifting_in : TokenKind → Option BinaryOperator
shifting_in (kind.Word w.Sll) = Some binary.ShiftLeftLogical
shifting_in (kind.Word w.Srl) = Some binary.ShiftRightLogical
shifting_in (kind.Word w.Sla) = Some binary.ShiftLeftArithmetic
shifting_in (kind.Word w.Sra) = Some binary.ShiftRightArithmetic
shifting_in (kind.Word w.Rol) = Some binary.RotateLeft
shifting_in (kind.Word w.Ror) = Some binary.RotateRight
shifting_in _ = None

unfoldable pub shifting : Token → Option BinaryOperator
shifting t = shifting_in t.kind

abbrev pub relating_in : TokenKind → Option BinaryOperator
relating_in (kind.Mark m.Equal) = Some binary.Equal
relating_in (kind.Mark m.NotEqual) = Some binary.NotEqual
relating_in (kind.Mark m.Less) = Some binary.Less
relating_in (kind.Mark m.LessEqual) = Some binary.LessEqual
relating_in (kind.Mark m.Greater) = Some binary.Greater
relating_in (kind.Mark m.GreaterEqual) = Some binary.GreaterEqual
relating_in _ = None

unfoldable pub relating : Token → Option BinaryOperator
relating t = relating_in t.kind

abbrev pub sign_in : TokenKind → Place → Option (UnaryOperator × Place)
sign_in (kind.Mark m.Plus) p = Some (unary.Plus, p)
sign_in (kind.Mark m.Minus) p = Some (unary.Minus, p)
sign_in _ p = None

unfoldable pub sign : Token → Option (UnaryOperator × Place)
sign t = sign_in t.kind t.place

abbrev pub prefix_in : TokenKind → Place → Option (UnaryOperator × Place)
prefix_in (kind.Word w.Abs) p = Some (unary.Abs, p)
prefix_in (kind.Word w.Not) p = Some (unary.Not, p)
prefix_in _ p = None

unfoldable pub prefix : Token → Option (UnaryOperator × Place)
prefix t = prefix_in t.kind t.place

abbrev pub direction_in : TokenKind → Option Direction
direction_in (kind.Word w.To) = Some direction.To
direction_in (kind.Word w.Downto) = Some direction.Downto
direction_in _ = None

unfoldable pub direction_of : Token → Option Direction
direction_of t = direction_in t.kind

abbrev pub mode_in : TokenKind → Option Mode
mode_in (kind.Word w.In) = Some mode.In
mode_in (kind.Word w.Out) = Some mode.Out
mode_in _ = None

unfoldable pub mode_of : Token → Option Mode
mode_of t = mode_in t.kind
