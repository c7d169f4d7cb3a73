-- The grammar of expressions (IEEE 1076, expressions and names, as far as the profile has them).
use Rattle.std.specs.Prelude.{ℕ, zero, suc, Bool, true, false, List, [], ◌∷◌, ◌++◌, Option, Some, None}
use Rattle.ams_token.specs.declared.token.Place.{Place}
use Rattle.ams_token.specs.declared.token.Token.{Token}
use Rattle.ams_token.specs.declared.word.Word.TheVariants as w
use Rattle.ams_token.specs.declared.mark.Mark.TheVariants as m
use Rattle.ams_tree.specs.declared.expression.Name.{Name}
use Rattle.ams_tree.specs.declared.expression.BinaryOperator.{BinaryOperator}
use Rattle.ams_tree.specs.declared.expression.BinaryOperator.TheVariants as binary
use Rattle.ams_tree.specs.declared.expression.Attribute.{Attribute}
use Rattle.ams_tree.specs.declared.expression.Attribute.TheVariants as attr
use Rattle.ams_tree.specs.declared.expression.Expr.{Expr}
use Rattle.ams_tree.specs.declared.expression.Expr.TheVariants as e
use Rattle.ams_tree.specs.Rule.{Rule, BeginsNothing, pure, terminal, one, counted, optional, ◌>>=◌, ◌>>◌, ◌<|>◌, repeated, outermost}
use Rattle.ams_tree.specs.Terminals.{mark, word, event, dot, above, ramp, name_of, number_of, literal_of, multiplying, adding, shifting, relating, sign, prefix}

-- ---- trees

abbrev pub last : {X : Type 0} → List X → X → List X
last xs x = xs ++ x ∷ []

abbrev pub linked : Expr → BinaryOperator × Expr → Expr
linked left link = e.Binary link.0 left link.1

-- ---- the rules, with the expression that may stand in parentheses, and whether there may be any
module _ (allowed : Bool) (inner : Rule Expr) where
  -- "(" expr ")"
  unfoldable pub grouped : Rule (Place × Expr)
  grouped = do
    place ← terminal allowed 0 (mark m.LeftParen)
    x ← inner
    one (mark m.RightParen)
    pure (place, x)

  -- "(" expr { "," expr } ")", which costs this much at its parenthesis
  unfoldable pub arguments : ℕ → Rule (List Expr)
  arguments cost = do
    terminal allowed cost (mark m.LeftParen)
    first ← inner
    all ← repeated last (one (mark m.Comma) >> inner) (first ∷ [])
    one (mark m.RightParen)
    pure all

  -- "(" expr [ "," expr ] ")"
  unfoldable pub ramp_times : Rule Attribute
  ramp_times = do
    terminal allowed 0 (mark m.LeftParen)
    rise ← inner
    fall ← optional (one (mark m.Comma) >> inner)
    one (mark m.RightParen)
    pure (attr.Ramp (Some rise) fall)

  -- "event" | "dot" | "reference" | "above" "(" expr ")" | "ramp" [ "(" expr [ "," expr ] ")" ]
  unfoldable pub attribute : Rule Attribute
  attribute = (one event >> pure attr.Event)
      <|> ((one dot >> pure attr.Dot)
      <|> ((one (word w.Reference) >> pure attr.Reference)
      <|> ((one above >> (grouped >>= (λ x. pure (attr.Above x.1))))
      <|> (one ramp >> (ramp_times <|> pure (attr.Ramp None None))))))

  -- what may follow a name, and what its parenthesis or tick costs: [ "(" expr { "," expr } ")" ] | "'" attr
  unfoldable pub named : ℕ → Name → Rule Expr
  named cost x = (arguments cost >>= (λ all. pure (e.Call x all)))
      <|> ((terminal true cost (mark m.Tick) >> (attribute >>= (λ a. pure (e.Attribute x a))))
      <|> pure (e.Name x))

  -- number [ id ]
  unfoldable pub number : Rule Expr
  number = do
    n ← one number_of
    unit ← optional (one name_of)
    pure (e.Number n unit)

  -- number [ id ] | char | string | bit_string | name | "(" expr ")"
  unfoldable pub primary : Rule Expr
  primary = number
      <|> ((one literal_of >>= (λ x. pure (e.Literal x)))
      <|> ((one name_of >>= named 1)
      <|> (grouped >>= (λ x. pure (e.Paren x.0 x.1)))))

  -- primary [ "**" primary ]
  unfoldable pub power : Rule Expr
  power = do
    base ← primary
    (counted (mark m.DoubleStar) >> (primary >>= (λ x. pure (e.Binary binary.Power base x)))) <|> pure base

  -- power | "abs" primary | "not" primary
  unfoldable pub factor : Rule Expr
  factor = (counted prefix >>= (λ op. primary >>= (λ x. pure (e.Unary op.0 op.1 x)))) <|> power

  -- factor { ( "*" | "/" | "mod" | "rem" ) factor }
  unfoldable pub term : Rule Expr
  term = do
    first ← factor
    repeated linked (counted multiplying >>= (λ op. factor >>= (λ x. pure (op, x)))) first

  -- [ "+" | "-" ] term
  unfoldable pub signed : Rule Expr
  signed = (counted sign >>= (λ op. term >>= (λ x. pure (e.Unary op.0 op.1 x)))) <|> term

  -- [ "+" | "-" ] term { ( "+" | "-" | "&" ) term }
  unfoldable pub simple : Rule Expr
  simple = do
    first ← signed
    repeated linked (counted adding >>= (λ op. term >>= (λ x. pure (op, x)))) first

  -- simple [ ( "sll" | "srl" | "sla" | "sra" | "rol" | "ror" ) simple ]
  unfoldable pub shift : Rule Expr
  shift = do
    left ← simple
    (counted shifting >>= (λ op. simple >>= (λ x. pure (e.Binary op left x)))) <|> pure left

  -- shift [ ( "=" | "/=" | "<" | "<=" | ">" | ">=" ) shift ]
  unfoldable pub rel : Rule Expr
  rel = do
    left ← shift
    (counted relating >>= (λ op. shift >>= (λ x. pure (e.Binary op left x)))) <|> pure left

  -- once more behind the operator: op rel
  unfoldable pub once : (Token → Option Place) → BinaryOperator → Expr → Rule Expr
  once f op left = do
    counted f
    x ← rel
    pure (e.Binary op left x)

  -- op rel { op rel }
  unfoldable pub chain : (Token → Option Place) → BinaryOperator → Expr → Rule Expr
  chain f op left = do
    first ← once f op left
    repeated (λ l x. e.Binary op l x) (counted f >> rel) first

  -- rel { "and" rel } | rel { "or" rel } | rel { "xor" rel } | rel { "xnor" rel } | rel [ "nand" rel ] | rel [ "nor" rel ]
  unfoldable pub logical : Rule Expr
  logical = do
    left ← rel
    chain (word w.And) binary.And left
        <|> (chain (word w.Or) binary.Or left
        <|> (chain (word w.Xor) binary.Xor left
        <|> (chain (word w.Xnor) binary.Xnor left
        <|> (once (word w.Nand) binary.Nand left
        <|> (once (word w.Nor) binary.Nor left
        <|> pure left)))))

-- no tokens at all
abbrev pub nowhere : {A : Type 0} → Rule A
nowhere = record { spells = λ a ts n. ⊥; begins = BeginsNothing }

-- an expression with parentheses nested to this depth at most
unfoldable pub expr : ℕ → Rule Expr
expr zero = logical false nowhere
expr (suc depth) = logical true (expr depth)

-- what may stand inside one level more, where there may be one
abbrev pub lower : {A : Type 0} → (ℕ → Rule A) → ℕ → Rule A
lower f zero = nowhere
lower f (suc depth) = f depth

abbrev pub allows : ℕ → Bool
allows zero = false
allows (suc depth) = true

-- how many levels are left inside one more
abbrev pub below : ℕ → ℕ
below zero = zero
below (suc depth) = depth

-- a simple expression with parentheses nested to this depth at most
unfoldable pub simple_expr : ℕ → Rule Expr
simple_expr depth = simple (allows depth) (lower expr depth)

-- an expression that stands in no other one, with so many operators, calls and attributes, and levels inside it, at most
abbrev pub expression : ℕ → ℕ → Rule Expr
expression limit depth = outermost (expr depth) limit

abbrev pub simple_expression : ℕ → ℕ → Rule Expr
simple_expression limit depth = outermost (simple_expr depth) limit

-- a name in a list of names, which is no expression: its parenthesis and its tick do not count
unfoldable pub listed_name : ℕ → ℕ → Rule Expr
listed_name limit depth = one name_of >>= named (allows depth) (outermost (lower expr depth) limit) 0
