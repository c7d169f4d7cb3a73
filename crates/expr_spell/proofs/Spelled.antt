-- The tokens of each expression are those of its spelling.
use Rattle.std.proofs.Common.{◌≡◌, ℕ, zero, suc, Bool, true, false, [], ◌∷◌, ◌++◌, map, refl, sym, ◌∙◌, append_assoc, lit<}
use Rattle.ams_token.specs.declared.token.TokenKind.TheVariants as kind
use Rattle.ams_token.specs.declared.word.Word.{Word}
use Rattle.ams_token.specs.declared.word.Word.TheVariants as w
use Rattle.ams_token.specs.declared.mark.Mark.TheVariants as m
use Rattle.ams_tree.specs.declared.expression.Name.{Name}
use Rattle.ams_tree.specs.declared.expression.BinaryOperator.{BinaryOperator}
use Rattle.ams_tree.specs.declared.expression.BinaryOperator.TheVariants as binary
use Rattle.ams_tree.specs.declared.expression.Expr.{Expr}
use Rattle.ams_tree.specs.declared.expression.Expr.TheVariants as e
use Rattle.ams_tree.specs.Terminals.{word}
use Rattle.ams_tree.specs.Rule.{Rule}
use Rattle.ams_tree.specs.Expressions as G
use Rattle.ams_tree.specs.Expressions.{nowhere, lower, allows}
use Rattle.expr_spell.specs.Kinds.{separated, parenthesized, name}
use Rattle.expr_spell.specs.Spelling.{number_kind, literal_kind, unary_kind, binary_kind, spelling, attribute_spelling}
use Rattle.expr_spell.proofs.Writes.{Writes, ends, then_, or_, part, outer, token_, mark_, word_, known_, maybe, again, list_}
use Rattle.expr_spell.proofs.Equations.{number_spelling, literal_spelling, name_spelling, call_spelling, attributed_spelling, paren_spelling, unary_spelling, binary_spelling, event_spelling, dot_spelling, reference_spelling, above_spelling, ramp_spelling, ramp_times_spelling}
use Rattle.expr_spell.proofs.KindOf.{word_is}
use Rattle.expr_spell.proofs.Tokens.{name_is, number_is, literal_is, multiplying_is, adding_is, shifting_is, relating_is, sign_is, prefix_is}

-- a binary operation, operand by operand
linked : (op : BinaryOperator) (x y : Expr) → spelling (e.Binary op x y) ≡ (spelling x ++ binary_kind op ∷ []) ++ spelling y
linked op x y = binary_spelling op x y ∙ sym (append_assoc (spelling x) (binary_kind op ∷ []) (spelling y))

module _ (allowed : Bool) (inner : Rule Expr) (h : Writes [] spelling inner) where
  grouped : Writes [] (λ x. parenthesized (spelling x.1)) (G.grouped allowed inner)
  unfolding G.grouped
  grouped = then_ (mark_ m.LeftParen) (λ place. then_ (part h) (λ x. then_ (mark_ m.RightParen) (λ _. ends refl)))

  arguments : (cost : ℕ) → Writes [] (λ all. parenthesized (separated (kind.Mark m.Comma) (map spelling all))) (G.arguments allowed inner cost)
  unfolding G.arguments
  arguments cost = then_ (mark_ m.LeftParen) (λ _. then_ (part h) (λ first. then_ (list_ (kind.Mark m.LeftParen ∷ []) spelling (then_ (mark_ m.Comma) (λ _. part h)))
      (λ all. then_ (mark_ m.RightParen) (λ _. ends refl))))

  ramp_times : Writes (kind.Name 3 ∷ []) attribute_spelling (G.ramp_times allowed inner)
  unfolding G.ramp_times
  ramp_times = then_ (mark_ m.LeftParen) (λ _. then_ (part h) (λ rise. then_ (maybe (then_ (mark_ m.Comma) (λ _. part h)))
      (λ fall. then_ (mark_ m.RightParen) (λ _. ends (ramp_times_spelling rise fall)))))

  attribute : Writes [] attribute_spelling (G.attribute allowed inner)
  unfolding G.attribute
  attribute = or_ (then_ (known_ 0 (lit< tt)) (λ _. ends event_spelling))
      (or_ (then_ (known_ 1 (lit< tt)) (λ _. ends dot_spelling))
      (or_ (then_ (word_ w.Reference) (λ _. ends reference_spelling))
      (or_ (then_ (known_ 2 (lit< tt)) (λ _. then_ (part grouped) (λ x. ends (above_spelling x.1))))
      (then_ (known_ 3 (lit< tt)) (λ _. or_ ramp_times (ends ramp_spelling))))))

  pub named : (cost : ℕ) (x : Name) → Writes (name x) spelling (G.named allowed inner cost x)
  unfolding G.named
  named cost x = or_ (then_ (part (arguments cost)) (λ all. ends (call_spelling x all)))
      (or_ (then_ (mark_ m.Tick) (λ _. then_ (part attribute) (λ a. ends (attributed_spelling x a)))) (ends (name_spelling x)))

  number : Writes [] spelling (G.number allowed inner)
  unfolding G.number
  number = then_ (token_ (λ n. number_kind n.value) number_is) (λ n. then_ (maybe (token_ (λ x. kind.Name x.number) name_is)) (λ unit. ends (number_spelling n unit)))

  primary : Writes [] spelling (G.primary allowed inner)
  unfolding G.primary
  primary = or_ number
      (or_ (then_ (token_ (λ x. literal_kind x.value) literal_is) (λ x. ends (literal_spelling x)))
      (or_ (then_ (token_ (λ x. kind.Name x.number) name_is) (named 1))
      (then_ grouped (λ x. ends (paren_spelling x.0 x.1)))))

  power : Writes [] spelling (G.power allowed inner)
  unfolding G.power
  power = then_ primary (λ base. or_ (then_ (mark_ m.DoubleStar) (λ _. then_ (part primary) (λ x. ends (linked binary.Power base x)))) (ends refl))

  factor : Writes [] spelling (G.factor allowed inner)
  unfolding G.factor
  factor = or_ (then_ (token_ (λ op. unary_kind op.0) prefix_is) (λ op. then_ (part primary) (λ x. ends (unary_spelling op.0 op.1 x)))) power

  term : Writes [] spelling (G.term allowed inner)
  unfolding G.term
  term = then_ factor (λ first. again {h = λ link. binary_kind link.0 ∷ spelling link.1} (λ x link. binary_spelling link.0 x link.1)
      (then_ (token_ binary_kind multiplying_is) (λ op. then_ (part factor) (λ x. ends refl))))

  signed : Writes [] spelling (G.signed allowed inner)
  unfolding G.signed
  signed = or_ (then_ (token_ (λ op. unary_kind op.0) sign_is) (λ op. then_ (part term) (λ x. ends (unary_spelling op.0 op.1 x)))) term

  pub simple : Writes [] spelling (G.simple allowed inner)
  unfolding G.simple
  simple = then_ signed (λ first. again {h = λ link. binary_kind link.0 ∷ spelling link.1} (λ x link. binary_spelling link.0 x link.1)
      (then_ (token_ binary_kind adding_is) (λ op. then_ (part term) (λ x. ends refl))))

  shift : Writes [] spelling (G.shift allowed inner)
  unfolding G.shift
  shift = then_ simple (λ left. or_ (then_ (token_ binary_kind shifting_is) (λ op. then_ (part simple) (λ x. ends (linked op left x)))) (ends refl))

  rel : Writes [] spelling (G.rel allowed inner)
  unfolding G.rel
  rel = then_ shift (λ left. or_ (then_ (token_ binary_kind relating_is) (λ op. then_ (part shift) (λ x. ends (linked op left x)))) (ends refl))

  once : (x : Word) (op : BinaryOperator) (left : Expr) → binary_kind op ≡ kind.Word x → Writes (spelling left) spelling (G.once allowed inner (word x) op left)
  unfolding G.once
  once x op left is = then_ (token_ (λ _. binary_kind op) (λ t p e. is ∙ sym (word_is x t p e))) (λ _. then_ (part rel) (λ y. ends (linked op left y)))

  chain : (x : Word) (op : BinaryOperator) (left : Expr) → binary_kind op ≡ kind.Word x → Writes (spelling left) spelling (G.chain allowed inner (word x) op left)
  unfolding G.chain
  chain x op left is = then_ (once x op left is) (λ first. again {h = λ y. binary_kind op ∷ spelling y} (λ z y. binary_spelling op z y)
      (then_ (token_ (λ _. binary_kind op) (λ t p e. is ∙ sym (word_is x t p e))) (λ _. part rel)))

  pub logical : Writes [] spelling (G.logical allowed inner)
  unfolding G.logical
  logical = then_ rel (λ left.
      or_ (chain w.And binary.And left refl)
      (or_ (chain w.Or binary.Or left refl)
      (or_ (chain w.Xor binary.Xor left refl)
      (or_ (chain w.Xnor binary.Xnor left refl)
      (or_ (once w.Nand binary.Nand left refl)
      (or_ (once w.Nor binary.Nor left refl)
      (ends refl)))))))

none : Writes [] spelling nowhere
none = record { written = λ a ts n s. absurd s }

pub expr : (depth : ℕ) → Writes [] spelling (G.expr depth)
unfolding G.expr
expr zero = logical false nowhere none
expr (suc depth) = logical true (G.expr depth) (expr depth)

inside : (depth : ℕ) → Writes [] spelling (lower G.expr depth)
inside zero = none
inside (suc depth) = expr depth

pub expression : (limit depth : ℕ) → Writes [] spelling (G.expression limit depth)
expression limit depth = outer (expr depth)

pub simple_expression : (limit depth : ℕ) → Writes [] spelling (G.simple_expression limit depth)
unfolding G.simple_expr
simple_expression limit depth = outer (simple (allows depth) (lower G.expr depth) (inside depth))

pub listed_name : (limit depth : ℕ) → Writes [] spelling (G.listed_name limit depth)
unfolding G.listed_name
listed_name limit depth = then_ (token_ (λ x. kind.Name x.number) name_is) (named (allows depth) _ (outer (inside depth)) 0)
