-- What single tokens are read as spells them.
use Rattle.std.proofs.Common.{◌≡◌, Some}
use Rattle.ams_token.specs.declared.token.Place.{Place}
use Rattle.ams_token.specs.declared.token.Token.{Token}
use Rattle.ams_token.specs.declared.token.TokenKind.{TokenKind}
use Rattle.ams_token.specs.declared.token.TokenKind.TheVariants as kind
use Rattle.ams_token.specs.declared.word.Word.TheVariants as w
use Rattle.ams_token.specs.declared.mark.Mark.TheVariants as m
use Rattle.ams_tree.specs.declared.expression.Name.{Name}
use Rattle.ams_tree.specs.declared.expression.Number.{Number}
use Rattle.ams_tree.specs.declared.expression.Literal.{Literal}
use Rattle.ams_tree.specs.declared.expression.UnaryOperator.{UnaryOperator}
use Rattle.ams_tree.specs.declared.expression.BinaryOperator.{BinaryOperator}
use Rattle.ams_tree.specs.Terminals.{name_in, name_of, number_in, number_of, literal_in, literal_of, multiplying_in, multiplying, adding_in, adding, shifting_in, shifting, relating_in, relating, sign_in, sign, prefix_in, prefix}
use Rattle.expr_spell.specs.Spelling.{number_kind, literal_kind, unary_kind, binary_kind}

pub name_is : (t : Token) (x : Name) → name_of t ≡ Some x → kind.Name x.number ≡ t.kind
unfolding name_of
name_is t x e = go t.kind t.place e
  where
    go : (k : TokenKind) (p : Place) → name_in k p ≡ Some x → kind.Name x.number ≡ k
    go (kind.Name n) p e = cc
    go _ p e = cc

pub number_is : (t : Token) (x : Number) → number_of t ≡ Some x → number_kind x.value ≡ t.kind
unfolding number_of
number_is t x e = go t.kind t.place e
  where
    go : (k : TokenKind) (p : Place) → number_in k p ≡ Some x → number_kind x.value ≡ k
    go (kind.Int y) p e = cc
    go (kind.Real y) p e = cc
    go _ p e = cc

pub literal_is : (t : Token) (x : Literal) → literal_of t ≡ Some x → literal_kind x.value ≡ t.kind
unfolding literal_of
literal_is t x e = go t.kind t.place e
  where
    go : (k : TokenKind) (p : Place) → literal_in k p ≡ Some x → literal_kind x.value ≡ k
    go (kind.Char c) p e = cc
    go (kind.Str n) p e = cc
    go (kind.Bits n) p e = cc
    go _ p e = cc

pub multiplying_is : (t : Token) (op : BinaryOperator) → multiplying t ≡ Some op → binary_kind op ≡ t.kind
unfolding multiplying
multiplying_is t op e = go t.kind e
  where
    go : (k : TokenKind) → multiplying_in k ≡ Some op → binary_kind op ≡ k
    go (kind.Mark m.Star) e = cc
    go (kind.Mark m.Slash) e = cc
    go (kind.Word w.Mod) e = cc
    go (kind.Word w.Rem) e = cc
    go _ e = cc

pub adding_is : (t : Token) (op : BinaryOperator) → adding t ≡ Some op → binary_kind op ≡ t.kind
unfolding adding
adding_is t op e = go t.kind e
  where
    go : (k : TokenKind) → adding_in k ≡ Some op → binary_kind op ≡ k
    go (kind.Mark m.Plus) e = cc
    go (kind.Mark m.Minus) e = cc
    go (kind.Mark m.Ampersand) e = cc
    go _ e = cc

pub shifting_is : (t : Token) (op : BinaryOperator) → shifting t ≡ Some op → binary_kind op ≡ t.kind
unfolding shifting
shifting_is t op e = go t.kind e
  where
    go : (k : TokenKind) → shifting_in k ≡ Some op → binary_kind op ≡ k
    go (kind.Word w.Sll) e = cc
    go (kind.Word w.Srl) e = cc
    go (kind.Word w.Sla) e = cc
    go (kind.Word w.Sra) e = cc
    go (kind.Word w.Rol) e = cc
    go (kind.Word w.Ror) e = cc
    go _ e = cc

pub relating_is : (t : Token) (op : BinaryOperator) → relating t ≡ Some op → binary_kind op ≡ t.kind
unfolding relating
relating_is t op e = go t.kind e
  where
    go : (k : TokenKind) → relating_in k ≡ Some op → binary_kind op ≡ k
    go (kind.Mark m.Equal) e = cc
    go (kind.Mark m.NotEqual) e = cc
    go (kind.Mark m.Less) e = cc
    go (kind.Mark m.LessEqual) e = cc
    go (kind.Mark m.Greater) e = cc
    go (kind.Mark m.GreaterEqual) e = cc
    go _ e = cc

pub sign_is : (t : Token) (op : UnaryOperator × Place) → sign t ≡ Some op → unary_kind op.0 ≡ t.kind
unfolding sign
sign_is t op e = go t.kind t.place e
  where
    go : (k : TokenKind) (p : Place) → sign_in k p ≡ Some op → unary_kind op.0 ≡ k
    go (kind.Mark m.Plus) p e = cc
    go (kind.Mark m.Minus) p e = cc
    go _ p e = cc

pub prefix_is : (t : Token) (op : UnaryOperator × Place) → prefix t ≡ Some op → unary_kind op.0 ≡ t.kind
unfolding prefix
prefix_is t op e = go t.kind t.place e
  where
    go : (k : TokenKind) (p : Place) → prefix_in k p ≡ Some op → unary_kind op.0 ≡ k
    go (kind.Word w.Abs) p e = cc
    go (kind.Word w.Not) p e = cc
    go _ p e = cc
