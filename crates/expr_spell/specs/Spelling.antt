-- The kinds of the tokens that spell an expression.
use Rattle.std.specs.Prelude.{List, [], ◌∷◌, ◌++◌, Option, Some, None}
use Rattle.ams_token.specs.declared.names.TheConstants.{EVENT_NUMBER, DOT_NUMBER, ABOVE_NUMBER, RAMP_NUMBER}
use Rattle.ams_token.specs.declared.token.TokenKind.{TokenKind}
use Rattle.ams_token.specs.declared.token.TokenKind.TheVariants as kind
use Rattle.ams_token.specs.declared.word.Word.TheVariants as w
use Rattle.ams_token.specs.declared.mark.Mark.TheVariants as m
use Rattle.ams_tree.specs.declared.expression.NumberValue.{NumberValue}
use Rattle.ams_tree.specs.declared.expression.NumberValue.TheVariants as value
use Rattle.ams_tree.specs.declared.expression.LiteralValue.{LiteralValue}
use Rattle.ams_tree.specs.declared.expression.LiteralValue.TheVariants as content
use Rattle.ams_tree.specs.declared.expression.UnaryOperator.{UnaryOperator}
use Rattle.ams_tree.specs.declared.expression.UnaryOperator.TheVariants as unary
use Rattle.ams_tree.specs.declared.expression.BinaryOperator.{BinaryOperator}
use Rattle.ams_tree.specs.declared.expression.BinaryOperator.TheVariants as binary
use Rattle.ams_tree.specs.declared.expression.Attribute.{Attribute}
use Rattle.ams_tree.specs.declared.expression.Expr.{Expr}
use Rattle.ams_tree.specs.declared.expression.Attribute.TheOpen.{Expr-F, Attribute-F}
use Rattle.ams_tree.specs.declared.expression.Attribute.TheFolds.{fold-Expr, fold-Attribute}
use Rattle.expr_spell.specs.Kinds.{optional, separated, parenthesized, name}

abbrev pub number_kind : NumberValue → TokenKind
number_kind (value.Int x) = kind.Int x
number_kind (value.Real x) = kind.Real x

abbrev pub literal_kind : LiteralValue → TokenKind
literal_kind (content.Char c) = kind.Char c
literal_kind (content.Str n) = kind.Str n
literal_kind (content.Bits n) = kind.Bits n

abbrev pub unary_kind : UnaryOperator → TokenKind
unary_kind unary.Plus = kind.Mark m.Plus
unary_kind unary.Minus = kind.Mark m.Minus
unary_kind unary.Abs = kind.Word w.Abs
unary_kind unary.Not = kind.Word w.Not

abbrev pub binary_kind : BinaryOperator → TokenKind
binary_kind binary.And = kind.Word w.And
binary_kind binary.Or = kind.Word w.Or
binary_kind binary.Xor = kind.Word w.Xor
binary_kind binary.Xnor = kind.Word w.Xnor
binary_kind binary.Nand = kind.Word w.Nand
binary_kind binary.Nor = kind.Word w.Nor
binary_kind binary.Equal = kind.Mark m.Equal
binary_kind binary.NotEqual = kind.Mark m.NotEqual
binary_kind binary.Less = kind.Mark m.Less
binary_kind binary.LessEqual = kind.Mark m.LessEqual
binary_kind binary.Greater = kind.Mark m.Greater
binary_kind binary.GreaterEqual = kind.Mark m.GreaterEqual
binary_kind binary.ShiftLeftLogical = kind.Word w.Sll
binary_kind binary.ShiftRightLogical = kind.Word w.Srl
binary_kind binary.ShiftLeftArithmetic = kind.Word w.Sla
binary_kind binary.ShiftRightArithmetic = kind.Word w.Sra
binary_kind binary.RotateLeft = kind.Word w.Rol
binary_kind binary.RotateRight = kind.Word w.Ror
binary_kind binary.Add = kind.Mark m.Plus
binary_kind binary.Subtract = kind.Mark m.Minus
binary_kind binary.Concat = kind.Mark m.Ampersand
binary_kind binary.Multiply = kind.Mark m.Star
binary_kind binary.Divide = kind.Mark m.Slash
binary_kind binary.Mod = kind.Word w.Mod
binary_kind binary.Rem = kind.Word w.Rem
binary_kind binary.Power = kind.Mark m.DoubleStar

-- the times of a ramp, where the first is written
abbrev pub times : Option (List TokenKind) → Option (List TokenKind) → List TokenKind
times None fall = []
times (Some rise) fall = parenthesized (rise ++ optional (λ x. kind.Mark m.Comma ∷ x) fall)

-- one level of an attribute, with the kinds of each expression in its place; the names that the grammar knows go by number
abbrev pub attribute_step : Attribute-F (List TokenKind) (List TokenKind) → List TokenKind
attribute_step Attribute-F.Event = kind.Name EVENT_NUMBER ∷ []
attribute_step Attribute-F.Dot = kind.Name DOT_NUMBER ∷ []
attribute_step Attribute-F.Reference = kind.Word w.Reference ∷ []
attribute_step (Attribute-F.Above x) = kind.Name ABOVE_NUMBER ∷ parenthesized x
attribute_step (Attribute-F.Ramp rise fall) = kind.Name RAMP_NUMBER ∷ times rise fall

-- one level of an expression
abbrev pub expr_step : Expr-F (List TokenKind) (List TokenKind) → List TokenKind
expr_step (Expr-F.Number x unit) = number_kind x.value ∷ optional name unit
expr_step (Expr-F.Literal x) = literal_kind x.value ∷ []
expr_step (Expr-F.Name x) = name x
expr_step (Expr-F.Call x all) = kind.Name x.number ∷ parenthesized (separated (kind.Mark m.Comma) all)
expr_step (Expr-F.Attribute x a) = kind.Name x.number ∷ kind.Mark m.Tick ∷ a
expr_step (Expr-F.Paren place x) = parenthesized x
expr_step (Expr-F.Unary op place x) = unary_kind op ∷ x
expr_step (Expr-F.Binary op x y) = x ++ binary_kind op ∷ y

abbrev pub spelling : Expr → List TokenKind
spelling = fold-Expr (List TokenKind) (List TokenKind) attribute_step expr_step

abbrev pub attribute_spelling : Attribute → List TokenKind
attribute_spelling = fold-Attribute (List TokenKind) (List TokenKind) attribute_step expr_step
