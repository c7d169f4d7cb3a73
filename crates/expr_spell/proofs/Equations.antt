-- The spelling of each kind of expression and attribute follows from those of its parts.
use Rattle.std.proofs.Common.{◌≡◌, List, [], ◌∷◌, ◌++◌, map, Option, Some, None, sym, ◌∙◌, ap}
use Rattle.ams_token.specs.declared.token.Place.{Place}
use Rattle.ams_token.specs.declared.token.TokenKind.{TokenKind}
use Rattle.ams_token.specs.declared.token.TokenKind.TheVariants as kind
use Rattle.ams_token.specs.declared.word.Word.TheVariants as w
use Rattle.ams_token.specs.declared.mark.Mark.TheVariants as m
use Rattle.ams_tree.specs.declared.expression.Name.{Name}
use Rattle.ams_tree.specs.declared.expression.Number.{Number}
use Rattle.ams_tree.specs.declared.expression.Literal.{Literal}
use Rattle.ams_tree.specs.declared.expression.UnaryOperator.{UnaryOperator}
use Rattle.ams_tree.specs.declared.expression.BinaryOperator.{BinaryOperator}
use Rattle.ams_tree.specs.declared.expression.Attribute.{Attribute}
use Rattle.ams_tree.specs.declared.expression.Attribute.TheVariants as attr
use Rattle.ams_tree.specs.declared.expression.Attribute.TheVariants.{rolls-Event, rolls-Dot, rolls-Reference, rolls-Above, rolls-Ramp}
use Rattle.ams_tree.specs.declared.expression.Attribute.TheOpen.{Expr-F, Attribute-F}
use Rattle.ams_tree.specs.declared.expression.Attribute.TheFolds.{fold-roll-Expr, fold-roll-Attribute}
use Rattle.ams_tree.specs.declared.expression.Expr.{Expr}
use Rattle.ams_tree.specs.declared.expression.Expr.TheVariants as e
use Rattle.ams_tree.specs.declared.expression.Expr.TheVariants.{rolls-Number, rolls-Literal, rolls-Name, rolls-Call, rolls-Attribute, rolls-Paren, rolls-Unary, rolls-Binary}
use Rattle.expr_spell.specs.Kinds.{optional, separated, parenthesized, name}
use Rattle.expr_spell.specs.Spelling.{number_kind, literal_kind, unary_kind, binary_kind, attribute_step, expr_step, spelling, attribute_spelling}

pub number_spelling : (x : Number) (unit : Option Name) → spelling (e.Number x unit) ≡ number_kind x.value ∷ optional name unit
number_spelling x unit = ap spelling (sym (rolls-Number x unit)) ∙ fold-roll-Expr (List TokenKind) (List TokenKind) attribute_step expr_step (Expr-F.Number x unit)

pub literal_spelling : (x : Literal) → spelling (e.Literal x) ≡ literal_kind x.value ∷ []
literal_spelling x = ap spelling (sym (rolls-Literal x)) ∙ fold-roll-Expr (List TokenKind) (List TokenKind) attribute_step expr_step (Expr-F.Literal x)

pub name_spelling : (x : Name) → spelling (e.Name x) ≡ name x
name_spelling x = ap spelling (sym (rolls-Name x)) ∙ fold-roll-Expr (List TokenKind) (List TokenKind) attribute_step expr_step (Expr-F.Name x)

pub call_spelling : (x : Name) (all : List Expr) → spelling (e.Call x all) ≡ kind.Name x.number ∷ parenthesized (separated (kind.Mark m.Comma) (map spelling all))
call_spelling x all = ap spelling (sym (rolls-Call x all)) ∙ fold-roll-Expr (List TokenKind) (List TokenKind) attribute_step expr_step (Expr-F.Call x all)

pub attributed_spelling : (x : Name) (a : Attribute) → spelling (e.Attribute x a) ≡ kind.Name x.number ∷ kind.Mark m.Tick ∷ attribute_spelling a
attributed_spelling x a = ap spelling (sym (rolls-Attribute x a)) ∙ fold-roll-Expr (List TokenKind) (List TokenKind) attribute_step expr_step (Expr-F.Attribute x a)

pub paren_spelling : (p : Place) (x : Expr) → spelling (e.Paren p x) ≡ parenthesized (spelling x)
paren_spelling p x = ap spelling (sym (rolls-Paren p x)) ∙ fold-roll-Expr (List TokenKind) (List TokenKind) attribute_step expr_step (Expr-F.Paren p x)

pub unary_spelling : (op : UnaryOperator) (p : Place) (x : Expr) → spelling (e.Unary op p x) ≡ unary_kind op ∷ spelling x
unary_spelling op p x = ap spelling (sym (rolls-Unary op p x)) ∙ fold-roll-Expr (List TokenKind) (List TokenKind) attribute_step expr_step (Expr-F.Unary op p x)

pub binary_spelling : (op : BinaryOperator) (x y : Expr) → spelling (e.Binary op x y) ≡ spelling x ++ binary_kind op ∷ spelling y
binary_spelling op x y = ap spelling (sym (rolls-Binary op x y)) ∙ fold-roll-Expr (List TokenKind) (List TokenKind) attribute_step expr_step (Expr-F.Binary op x y)

pub event_spelling : attribute_spelling attr.Event ≡ kind.Name 0 ∷ []
event_spelling = ap attribute_spelling (sym rolls-Event) ∙ fold-roll-Attribute (List TokenKind) (List TokenKind) attribute_step expr_step Attribute-F.Event

pub dot_spelling : attribute_spelling attr.Dot ≡ kind.Name 1 ∷ []
dot_spelling = ap attribute_spelling (sym rolls-Dot) ∙ fold-roll-Attribute (List TokenKind) (List TokenKind) attribute_step expr_step Attribute-F.Dot

pub reference_spelling : attribute_spelling attr.Reference ≡ kind.Word w.Reference ∷ []
reference_spelling = ap attribute_spelling (sym rolls-Reference) ∙ fold-roll-Attribute (List TokenKind) (List TokenKind) attribute_step expr_step Attribute-F.Reference

pub above_spelling : (x : Expr) → attribute_spelling (attr.Above x) ≡ kind.Name 2 ∷ parenthesized (spelling x)
above_spelling x = ap attribute_spelling (sym (rolls-Above x)) ∙ fold-roll-Attribute (List TokenKind) (List TokenKind) attribute_step expr_step (Attribute-F.Above x)

pub ramp_spelling : attribute_spelling (attr.Ramp None None) ≡ kind.Name 3 ∷ []
ramp_spelling = ap attribute_spelling (sym (rolls-Ramp None None)) ∙ fold-roll-Attribute (List TokenKind) (List TokenKind) attribute_step expr_step (Attribute-F.Ramp None None)

pub ramp_times_spelling : (rise : Expr) (fall : Option Expr) → attribute_spelling (attr.Ramp (Some rise) fall) ≡ kind.Name 3 ∷ parenthesized (spelling rise ++ optional (λ x. kind.Mark m.Comma ∷ spelling x) fall)
ramp_times_spelling rise None = ap attribute_spelling (sym (rolls-Ramp (Some rise) None)) ∙ fold-roll-Attribute (List TokenKind) (List TokenKind) attribute_step expr_step (Attribute-F.Ramp (Some rise) None)
ramp_times_spelling rise (Some x) = ap attribute_spelling (sym (rolls-Ramp (Some rise) (Some x))) ∙ fold-roll-Attribute (List TokenKind) (List TokenKind) attribute_step expr_step (Attribute-F.Ramp (Some rise) (Some x))
