-- The rules of sequential statements as functions that read, which the code computes.
use Rattle.std.specs.Prelude.{ℕ, zero, suc, Bool, List, [], ◌∷◌, length, Option, Some, None, Err}
use Rattle.ams_token.specs.declared.token.Place.{Place}
use Rattle.ams_token.specs.declared.token.Token.{Token}
use Rattle.ams_token.specs.declared.token.TokenKind.{TokenKind}
use Rattle.ams_token.specs.declared.token.TokenKind.TheVariants as kind
use Rattle.ams_token.specs.declared.word.Word.{Word}
use Rattle.ams_token.specs.declared.word.Word.TheVariants as w
use Rattle.ams_token.specs.declared.mark.Mark.TheVariants as m
use Rattle.ams_tree.specs.declared.expression.Name.{Name}
use Rattle.ams_tree.specs.declared.expression.Expr.{Expr}
use Rattle.ams_tree.specs.declared.sequential.Iteration.{Iteration}
use Rattle.ams_tree.specs.declared.sequential.Iteration.TheVariants as iteration
use Rattle.ams_tree.specs.declared.sequential.Branch.{Branch, roll-Branch}
use Rattle.ams_tree.specs.declared.sequential.Alternative.{Alternative, roll-Alternative}
use Rattle.ams_tree.specs.declared.sequential.Seq.{Seq}
use Rattle.ams_tree.specs.declared.sequential.Seq.TheVariants as seq
use Rattle.ams_tree.specs.Terminals.{mark, word, name_of, string_of}
use Rattle.ams_tree.specs.Expressions.{last, allows, below}
use Rattle.parse_steps.specs.declared.reader.Stop.TheVariants.{TooDeep}
use Rattle.parse_steps.specs.Reading.{Parser, pure, terminal, one, ◌>>=◌, ◌>>◌, at, choose, optional, turns, repeated}
use Rattle.parse_steps.specs.Reply.{most_operators}
use Rattle.parse_expr.specs.Parsing.{expression}
use Rattle.parse_parts.specs.Parsing.{range, names_on, maybe_delay, waveform, severity, assertion, break_elements, condition, choices, ending}

-- ---- the tokens that begin a statement

abbrev pub simple_in : TokenKind → Option (Unit {0})
simple_in (kind.Name n) = Some tt
simple_in (kind.Word w.Exit) = Some tt
simple_in (kind.Word w.Next) = Some tt
simple_in (kind.Word w.Wait) = Some tt
simple_in (kind.Word w.Assert) = Some tt
simple_in (kind.Word w.Report) = Some tt
simple_in (kind.Word w.Break) = Some tt
simple_in (kind.Word w.Null) = Some tt
simple_in _ = None

-- a token that begins a statement in which no other one stands
unfoldable pub begins_simple : Token → Option (Unit {0})
begins_simple t = simple_in t.kind

abbrev pub statement_in : TokenKind → Option (Unit {0})
statement_in (kind.Word w.If) = Some tt
statement_in (kind.Word w.Case) = Some tt
statement_in (kind.Word w.While) = Some tt
statement_in (kind.Word w.For) = Some tt
statement_in (kind.Word w.Loop) = Some tt
statement_in k = simple_in k

unfoldable pub begins_statement : Token → Option (Unit {0})
begins_statement t = statement_in t.kind

unfoldable pub report_statement : Parser Seq
report_statement = do
  place ← one (word w.Report)
  message ← one string_of
  level ← severity
  one (mark m.Semicolon)
  pure (seq.Report place (record { text = message; severity = level }))

unfoldable pub null_statement : Parser Seq
null_statement = one (word w.Null) >>= (λ place. one (mark m.Semicolon) >> pure (seq.Null place))

-- with this many operators, calls and attributes, and levels, at most
module _ (limit n : ℕ) where
  unfoldable pub signal_assignment : Name → Parser Seq
  signal_assignment target = do
    one (mark m.LessEqual)
    how ← maybe_delay limit n
    wave ← waveform limit n
    one (mark m.Semicolon)
    pure (seq.Signal target how wave)

  unfoldable pub variable_assignment : Name → Parser Seq
  variable_assignment target = do
    one (mark m.Assign)
    value ← expression limit n
    one (mark m.Semicolon)
    pure (seq.Variable target value)

  unfoldable pub assignment : Parser Seq
  assignment = one name_of >>= (λ target. choose (at (mark m.LessEqual)) (signal_assignment target) (variable_assignment target))

  unfoldable pub exit_statement : Parser Seq
  exit_statement = do
    place ← one (word w.Exit)
    x ← condition limit n
    one (mark m.Semicolon)
    pure (seq.Exit place x)

  unfoldable pub next_statement : Parser Seq
  next_statement = do
    place ← one (word w.Next)
    x ← condition limit n
    one (mark m.Semicolon)
    pure (seq.Next place x)

  -- the expression behind a word, where that word comes next
  unfoldable pub behind : Word → Parser (Option Expr)
  behind x = optional (at (word x)) (one (word x) >> expression limit n)

  unfoldable pub wait_statement : Parser Seq
  wait_statement = do
    place ← one (word w.Wait)
    on ← names_on limit n
    until ← behind w.Until
    time ← behind w.For
    one (mark m.Semicolon)
    pure (seq.Wait place on until time)

  unfoldable pub break_statement : Parser Seq
  break_statement = do
    place ← one (word w.Break)
    elements ← break_elements limit n
    x ← condition limit n
    one (mark m.Semicolon)
    pure (seq.Break place elements x)

  unfoldable pub simple_statement : Parser Seq
  simple_statement = choose (at name_of) assignment
      (choose (at (word w.Exit)) exit_statement
      (choose (at (word w.Next)) next_statement
      (choose (at (word w.Wait)) wait_statement
      (choose (at (word w.Assert)) (assertion limit n >>= (λ x. pure (seq.Assert x)))
      (choose (at (word w.Report)) report_statement
      (choose (at (word w.Break)) break_statement
      null_statement))))))

-- with the reading of the statement that may stand inside, where there may be one, and the limits inside
module _ (allowed : Bool) (inner : Parser Seq) (limit n : ℕ) where
  abbrev pub body_turns : ℕ → List Seq → Parser (List Seq)
  body_turns = turns (at begins_statement) last inner

  unfoldable pub body : Parser (List Seq)
  body = repeated (at begins_statement) last inner []

  unfoldable pub branch : Parser Branch
  branch = do
    x ← expression limit n
    one (word w.Then)
    all ← body
    pure (roll-Branch (record { condition = x; body = all }))

  abbrev pub branch_turns : ℕ → List Branch → Parser (List Branch)
  branch_turns = turns (at (word w.Elsif)) last (one (word w.Elsif) >> branch)

  unfoldable pub more_branches : List Branch → Parser (List Branch)
  more_branches = repeated (at (word w.Elsif)) last (one (word w.Elsif) >> branch)

  unfoldable pub otherwise : Parser (Option (List Seq))
  otherwise = optional (at (word w.Else)) (one (word w.Else) >> body)

  unfoldable pub rest_of_if : Place → Branch → Parser Seq
  rest_of_if place first = do
    all ← more_branches (first ∷ [])
    other ← otherwise
    ending w.If
    pure (seq.If place all other)

  unfoldable pub if_statement : Parser Seq
  if_statement = do
    place ← terminal allowed 0 (word w.If)
    first ← branch
    rest_of_if place first

  unfoldable pub alternative : Parser Alternative
  alternative = do
    xs ← choices limit n
    all ← body
    pure (roll-Alternative (record { choices = xs; body = all }))

  abbrev pub alternative_turns : ℕ → List Alternative → Parser (List Alternative)
  alternative_turns = turns (at (word w.When)) last alternative

  unfoldable pub more_alternatives : List Alternative → Parser (List Alternative)
  more_alternatives = repeated (at (word w.When)) last alternative

  unfoldable pub alternatives : Parser (List Alternative)
  alternatives = alternative >>= (λ first. more_alternatives (first ∷ []))

  unfoldable pub case_statement : Parser Seq
  case_statement = do
    place ← terminal allowed 0 (word w.Case)
    x ← expression limit n
    one (word w.Is)
    all ← alternatives
    ending w.Case
    pure (seq.Case place x all)

  unfoldable pub rest_of_loop : Place → Iteration → Parser Seq
  rest_of_loop place how = do
    all ← body
    ending w.Loop
    pure (seq.Loop place how all)

  unfoldable pub parameter : Parser Iteration
  parameter = do
    name ← one name_of
    one (word w.In)
    x ← range limit n
    pure (iteration.For name x)

  unfoldable pub while_loop : Parser Seq
  while_loop = do
    place ← terminal allowed 0 (word w.While)
    x ← expression limit n
    one (word w.Loop)
    rest_of_loop place (iteration.While x)

  unfoldable pub for_loop : Parser Seq
  for_loop = do
    place ← terminal allowed 0 (word w.For)
    how ← parameter
    one (word w.Loop)
    rest_of_loop place how

  unfoldable pub plain_loop : Parser Seq
  plain_loop = terminal allowed 0 (word w.Loop) >>= (λ place. rest_of_loop place iteration.Endless)

  unfoldable pub compound_statement : Parser Seq
  compound_statement = choose (at (word w.If)) if_statement
      (choose (at (word w.Case)) case_statement
      (choose (at (word w.While)) while_loop
      (choose (at (word w.For)) for_loop plain_loop)))

-- with the reading of the statement that may stand inside, and the levels that may open at the first token
unfoldable pub any_statement : Parser Seq → ℕ → ℕ → Parser Seq
any_statement inner limit n = choose (at begins_simple) (simple_statement limit n) (compound_statement (allows n) inner limit (below n))

-- the statement inside another one, of which this many levels could open before
unfoldable pub nested : ℕ → ℕ → Parser Seq
nested limit zero = λ s. Err (TooDeep (length s.rest))
nested limit (suc n) = any_statement (nested limit n) limit n

unfoldable pub statement : ℕ → ℕ → Parser Seq
statement limit n = any_statement (nested limit n) limit n

-- a rule of what stands inside a statement, where this many levels may open at the first token of that
abbrev pub at_level : {X : Type 0} → (Bool → Parser Seq → ℕ → ℕ → X) → ℕ → X
at_level rule n = rule (allows n) (nested most_operators n) most_operators (below n)
