-- The rules of expressions as functions that read, which the code computes.
use Rattle.std.specs.Prelude.{ℕ, zero, suc, Bool, true, false, List, [], ◌∷◌, length, Option, Some, None, Err}
use Rattle.ams_token.specs.declared.token.Place.{Place}
use Rattle.ams_token.specs.declared.token.Token.{Token}
use Rattle.ams_token.specs.declared.word.Word.TheVariants as w
use Rattle.ams_token.specs.declared.mark.Mark.TheVariants as m
use Rattle.ams_tree.specs.declared.expression.Name.{Name}
use Rattle.ams_tree.specs.declared.expression.BinaryOperator.{BinaryOperator}
use Rattle.ams_tree.specs.declared.expression.BinaryOperator.TheVariants as binary
use Rattle.ams_tree.specs.declared.expression.Attribute.{Attribute}
use Rattle.ams_tree.specs.declared.expression.Attribute.TheVariants as attr
use Rattle.ams_tree.specs.declared.expression.Expr.{Expr}
use Rattle.ams_tree.specs.declared.expression.Expr.TheVariants as e
use Rattle.ams_tree.specs.Terminals.{mark, word, event, dot, above, ramp, name_of, number_of, literal_of, multiplying, adding, shifting, relating, sign, prefix}
use Rattle.ams_tree.specs.Expressions.{last, linked, allows}
use Rattle.parse_steps.specs.declared.reader.Stop.TheVariants.{TooDeep}
use Rattle.parse_steps.specs.Reading.{Parser, pure, terminal, one, counted, ◌>>=◌, ◌>>◌, at, choose, optional, turns, repeated, fresh}
use Rattle.parse_steps.specs.Reply.{most_operators}

unfoldable pub unit : Parser (Option Name)
unit = optional (at name_of) (one name_of)

-- with the reading of the expression that may stand in parentheses, and whether there may be any
module _ (allowed : Bool) (inner : Parser Expr) where
  unfoldable pub grouped : Parser (Place × Expr)
  grouped = do
    place ← terminal allowed 0 (mark m.LeftParen)
    x ← inner
    one (mark m.RightParen)
    pure (place, x)

  abbrev pub argument_turns : ℕ → List Expr → Parser (List Expr)
  argument_turns = turns (at (mark m.Comma)) last (one (mark m.Comma) >> inner)

  unfoldable pub more_arguments : List Expr → Parser (List Expr)
  more_arguments = repeated (at (mark m.Comma)) last (one (mark m.Comma) >> inner)

  unfoldable pub arguments : ℕ → Parser (List Expr)
  arguments cost = do
    terminal allowed cost (mark m.LeftParen)
    first ← inner
    all ← more_arguments (first ∷ [])
    one (mark m.RightParen)
    pure all

  unfoldable pub ramp_fall : Parser (Option Expr)
  ramp_fall = optional (at (mark m.Comma)) (one (mark m.Comma) >> inner)

  unfoldable pub ramp_times : Parser Attribute
  ramp_times = do
    terminal allowed 0 (mark m.LeftParen)
    rise ← inner
    fall ← ramp_fall
    one (mark m.RightParen)
    pure (attr.Ramp (Some rise) fall)

  unfoldable pub ramped : Parser Attribute
  ramped = one ramp >> choose (at (mark m.LeftParen)) ramp_times (pure (attr.Ramp None None))

  unfoldable pub attribute : Parser Attribute
  attribute = choose (at event) (one event >> pure attr.Event)
      (choose (at dot) (one dot >> pure attr.Dot)
      (choose (at (word w.Reference)) (one (word w.Reference) >> pure attr.Reference)
      (choose (at above) (one above >> (grouped >>= (λ x. pure (attr.Above x.1))))
      ramped)))

  unfoldable pub named : ℕ → Name → Parser Expr
  named cost x = choose (at (mark m.LeftParen)) (arguments cost >>= (λ all. pure (e.Call x all)))
      (choose (at (mark m.Tick)) (terminal true cost (mark m.Tick) >> (attribute >>= (λ a. pure (e.Attribute x a))))
      (pure (e.Name x)))

  unfoldable pub number : Parser Expr
  number = do
    n ← one number_of
    u ← unit
    pure (e.Number n u)

  unfoldable pub primary : Parser Expr
  primary = choose (at number_of) number
      (choose (at literal_of) (one literal_of >>= (λ x. pure (e.Literal x)))
      (choose (at name_of) (one name_of >>= named 1)
      (grouped >>= (λ x. pure (e.Paren x.0 x.1)))))

  unfoldable pub power : Parser Expr
  power = do
    base ← primary
    choose (at (mark m.DoubleStar)) (counted (mark m.DoubleStar) >> (primary >>= (λ x. pure (e.Binary binary.Power base x)))) (pure base)

  unfoldable pub factor : Parser Expr
  factor = choose (at prefix) (counted prefix >>= (λ op. primary >>= (λ x. pure (e.Unary op.0 op.1 x)))) power

  abbrev pub factor_turns : ℕ → Expr → Parser Expr
  factor_turns = turns (at multiplying) linked (counted multiplying >>= (λ op. factor >>= (λ x. pure (op, x))))

  unfoldable pub more_factors : Expr → Parser Expr
  more_factors = repeated (at multiplying) linked (counted multiplying >>= (λ op. factor >>= (λ x. pure (op, x))))

  unfoldable pub term : Parser Expr
  term = factor >>= more_factors

  unfoldable pub signed : Parser Expr
  signed = choose (at sign) (counted sign >>= (λ op. term >>= (λ x. pure (e.Unary op.0 op.1 x)))) term

  abbrev pub term_turns : ℕ → Expr → Parser Expr
  term_turns = turns (at adding) linked (counted adding >>= (λ op. term >>= (λ x. pure (op, x))))

  unfoldable pub more_terms : Expr → Parser Expr
  more_terms = repeated (at adding) linked (counted adding >>= (λ op. term >>= (λ x. pure (op, x))))

  unfoldable pub simple : Parser Expr
  simple = signed >>= more_terms

  unfoldable pub shift : Parser Expr
  shift = do
    left ← simple
    choose (at shifting) (counted shifting >>= (λ op. simple >>= (λ x. pure (e.Binary op left x)))) (pure left)

  unfoldable pub rel : Parser Expr
  rel = do
    left ← shift
    choose (at relating) (counted relating >>= (λ op. shift >>= (λ x. pure (e.Binary op left x)))) (pure left)

  unfoldable pub once : (Token → Option Place) → BinaryOperator → Expr → Parser Expr
  once f op left = do
    counted f
    x ← rel
    pure (e.Binary op left x)

  abbrev pub link_turns : (Token → Option Place) → BinaryOperator → ℕ → Expr → Parser Expr
  link_turns f op = turns (at f) (λ l x. e.Binary op l x) (counted f >> rel)

  unfoldable pub more_links : (Token → Option Place) → BinaryOperator → Expr → Parser Expr
  more_links f op = repeated (at f) (λ l x. e.Binary op l x) (counted f >> rel)

  unfoldable pub chain : (Token → Option Place) → BinaryOperator → Expr → Parser Expr
  chain f op left = once f op left >>= more_links f op

  unfoldable pub more_relations : Expr → Parser Expr
  more_relations left = choose (at (word w.And)) (chain (word w.And) binary.And left)
      (choose (at (word w.Or)) (chain (word w.Or) binary.Or left)
      (choose (at (word w.Xor)) (chain (word w.Xor) binary.Xor left)
      (choose (at (word w.Xnor)) (chain (word w.Xnor) binary.Xnor left)
      (choose (at (word w.Nand)) (once (word w.Nand) binary.Nand left)
      (choose (at (word w.Nor)) (once (word w.Nor) binary.Nor left)
      (pure left))))))

  unfoldable pub logical : Parser Expr
  logical = rel >>= more_relations

-- the expression in parentheses, of which this many could still open before them
unfoldable pub nested : ℕ → Parser Expr
nested zero = λ s. Err (TooDeep (length s.rest))
nested (suc n) = logical (allows n) (nested n)

-- the same in a name of a list of names, where it is an outermost expression
unfoldable pub inside : Bool → ℕ → Parser Expr
inside true n = fresh most_operators (nested n)
inside false n = nested n

unfoldable pub expr : ℕ → Parser Expr
expr n = logical (allows n) (nested n)

unfoldable pub simple_expr : ℕ → Parser Expr
simple_expr n = simple (allows n) (nested n)

-- an expression that stands in no other one
unfoldable pub expression : ℕ → ℕ → Parser Expr
expression limit n = fresh limit (expr n)

unfoldable pub simple_expression : ℕ → ℕ → Parser Expr
simple_expression limit n = fresh limit (simple_expr n)

-- a name in a list of names
unfoldable pub listed_name : ℕ → ℕ → Parser Expr
listed_name limit n = one name_of >>= named (allows n) (fresh limit (nested n)) 0
