-- The grammar of sequential statements (IEEE 1076, and the break statement of IEEE 1076.1, as far as the profile has them).
use Rattle.std.specs.Prelude.{ℕ, zero, suc, Bool, true, false, List, [], ◌∷◌, Option, Some, None}
use Rattle.ams_token.specs.declared.token.Place.{Place}
use Rattle.ams_token.specs.declared.word.Word.{Word}
use Rattle.ams_token.specs.declared.word.Word.TheVariants as w
use Rattle.ams_token.specs.declared.mark.Mark.TheVariants as m
use Rattle.ams_tree.specs.declared.expression.Name.{Name}
use Rattle.ams_tree.specs.declared.expression.Expr.{Expr}
use Rattle.ams_tree.specs.declared.sequential.DelayMechanism.{DelayMechanism}
use Rattle.ams_tree.specs.declared.sequential.DelayMechanism.TheVariants as delay
use Rattle.ams_tree.specs.declared.sequential.WaveformElement.{WaveformElement}
use Rattle.ams_tree.specs.declared.sequential.Assertion.{Assertion}
use Rattle.ams_tree.specs.declared.sequential.BreakElement.{BreakElement}
use Rattle.ams_tree.specs.declared.sequential.Choice.{Choice}
use Rattle.ams_tree.specs.declared.sequential.Choice.TheVariants as choice
use Rattle.ams_tree.specs.declared.sequential.Iteration.{Iteration}
use Rattle.ams_tree.specs.declared.sequential.Iteration.TheVariants as iteration
use Rattle.ams_tree.specs.declared.sequential.Branch.{Branch, roll-Branch}
use Rattle.ams_tree.specs.declared.sequential.Alternative.{Alternative, roll-Alternative}
use Rattle.ams_tree.specs.declared.sequential.Seq.{Seq}
use Rattle.ams_tree.specs.declared.sequential.Seq.TheVariants as seq
use Rattle.ams_tree.specs.Rule.{Rule, pure, terminal, one, optional, ◌>>=◌, ◌>>◌, ◌<|>◌, repeated}
use Rattle.ams_tree.specs.Terminals.{mark, word, name_of, string_of}
use Rattle.ams_tree.specs.Expressions.{last, nowhere, expression, simple_expression, listed_name}
use Rattle.ams_tree.specs.Declarations.{range}

-- "end", this word, ";"
unfoldable pub ending : Word → Rule Place
ending x = one (word w.End) >> (one (word x) >> one (mark m.Semicolon))

-- with this many operators, calls and attributes, and levels, at most
module _ (limit depth : ℕ) where
  -- name { "," name }
  unfoldable pub name_list : Rule (List Expr)
  name_list = do
    first ← listed_name limit depth
    repeated last (one (mark m.Comma) >> listed_name limit depth) (first ∷ [])

  -- "transport" | [ "reject" expr ] "inertial"
  unfoldable pub delay_mechanism : Rule DelayMechanism
  delay_mechanism = (one (word w.Transport) >>= (λ place. pure (delay.Transport place)))
      <|> ((do
        place ← one (word w.Reject)
        limit_of ← expression limit depth
        one (word w.Inertial)
        pure (delay.Reject place limit_of))
      <|> (one (word w.Inertial) >>= (λ place. pure (delay.Inertial place))))

  -- expr [ "after" expr ]
  unfoldable pub waveform_element : Rule WaveformElement
  waveform_element = do
    x ← expression limit depth
    y ← optional (one (word w.After) >> expression limit depth)
    pure (record { value = x; after = y })

  -- expr [ "after" expr ] { "," expr [ "after" expr ] }
  unfoldable pub waveform : Rule (List WaveformElement)
  waveform = do
    first ← waveform_element
    repeated last (one (mark m.Comma) >> waveform_element) (first ∷ [])

  -- [ "severity" id ]
  unfoldable pub severity : Rule (Option Name)
  severity = optional (one (word w.Severity) >> one name_of)

  -- "assert" expr [ "report" string ] [ "severity" id ] ";"
  unfoldable pub assertion : Rule Assertion
  assertion = do
    at ← one (word w.Assert)
    x ← expression limit depth
    message ← optional (one (word w.Report) >> one string_of)
    level ← severity
    one (mark m.Semicolon)
    pure (record { place = at; condition = x; text = message; severity = level })

  -- name "=>" expr
  unfoldable pub broken : Option Expr → Rule BreakElement
  broken of = do
    x ← listed_name limit depth
    one (mark m.Arrow)
    y ← expression limit depth
    pure (record { selector = of; quantity = x; value = y })

  -- [ "for" name "use" ] name "=>" expr
  unfoldable pub break_element : Rule BreakElement
  break_element = (do
    one (word w.For)
    of ← listed_name limit depth
    one (word w.Use)
    broken (Some of))
      <|> broken None

  -- elem { "," elem }
  unfoldable pub break_list : Rule (List BreakElement)
  break_list = do
    first ← break_element
    repeated last (one (mark m.Comma) >> break_element) (first ∷ [])

  -- [ elem { "," elem } ]
  unfoldable pub break_elements : Rule (List BreakElement)
  break_elements = break_list <|> pure []

  -- [ "when" expr ]
  unfoldable pub condition : Rule (Option Expr)
  condition = optional (one (word w.When) >> expression limit depth)

  -- simple | "others"
  unfoldable pub one_choice : Rule Choice
  one_choice = (one (word w.Others) >>= (λ place. pure (choice.Others place)))
      <|> (simple_expression limit depth >>= (λ x. pure (choice.Value x)))

  -- "when" choice { "|" choice } "=>"
  unfoldable pub choices : Rule (List Choice)
  choices = do
    one (word w.When)
    first ← one_choice
    all ← repeated last (one (mark m.Bar) >> one_choice) (first ∷ [])
    one (mark m.Arrow)
    pure all

  -- id ( "<=" [ delay ] wave | ":=" expr ) ";"
  unfoldable pub assignment : Rule Seq
  assignment = one name_of >>= (λ target.
      (do
        one (mark m.LessEqual)
        how ← optional delay_mechanism
        wave ← waveform
        one (mark m.Semicolon)
        pure (seq.Signal target how wave))
      <|> (do
        one (mark m.Assign)
        value ← expression limit depth
        one (mark m.Semicolon)
        pure (seq.Variable target value)))

  -- "exit" [ "when" expr ] ";"
  unfoldable pub exit_statement : Rule Seq
  exit_statement = do
    place ← one (word w.Exit)
    x ← condition
    one (mark m.Semicolon)
    pure (seq.Exit place x)

  -- "next" [ "when" expr ] ";"
  unfoldable pub next_statement : Rule Seq
  next_statement = do
    place ← one (word w.Next)
    x ← condition
    one (mark m.Semicolon)
    pure (seq.Next place x)

  -- "wait" [ "on" name { "," name } ] [ "until" expr ] [ "for" expr ] ";"
  unfoldable pub wait_statement : Rule Seq
  wait_statement = do
    place ← one (word w.Wait)
    on ← (one (word w.On) >> name_list) <|> pure []
    until ← optional (one (word w.Until) >> expression limit depth)
    time ← optional (one (word w.For) >> expression limit depth)
    one (mark m.Semicolon)
    pure (seq.Wait place on until time)

  -- "report" string [ "severity" id ] ";"
  unfoldable pub report_statement : Rule Seq
  report_statement = do
    place ← one (word w.Report)
    message ← one string_of
    level ← severity
    one (mark m.Semicolon)
    pure (seq.Report place (record { text = message; severity = level }))

  -- "break" [ elem { "," elem } ] [ "when" expr ] ";"
  unfoldable pub break_statement : Rule Seq
  break_statement = do
    place ← one (word w.Break)
    elements ← break_elements
    x ← condition
    one (mark m.Semicolon)
    pure (seq.Break place elements x)

  -- "null" ";"
  unfoldable pub null_statement : Rule Seq
  null_statement = one (word w.Null) >>= (λ place. one (mark m.Semicolon) >> pure (seq.Null place))

-- with the statement that may stand inside, where there may be one, so many operators in an expression there, and so many
-- levels there
module _ (allowed : Bool) (inner : Rule Seq) (limit depth : ℕ) where
  -- { seq }
  unfoldable pub body : Rule (List Seq)
  body = repeated last inner []

  -- expr "then" { seq }
  unfoldable pub branch : Rule Branch
  branch = do
    x ← expression limit depth
    one (word w.Then)
    all ← body
    pure (roll-Branch (record { condition = x; body = all }))

  -- { "elsif" expr "then" { seq } } [ "else" { seq } ] "end" "if" ";"
  unfoldable pub rest_of_if : Place → Branch → Rule Seq
  rest_of_if place first = do
    all ← repeated last (one (word w.Elsif) >> branch) (first ∷ [])
    other ← optional (one (word w.Else) >> body)
    ending w.If
    pure (seq.If place all other)

  -- "if" expr "then" { seq } { "elsif" expr "then" { seq } } [ "else" { seq } ] "end" "if" ";"
  unfoldable pub if_statement : Rule Seq
  if_statement = do
    place ← terminal allowed 0 (word w.If)
    first ← branch
    rest_of_if place first

  -- "when" choice { "|" choice } "=>" { seq }
  unfoldable pub alternative : Rule Alternative
  alternative = do
    xs ← choices limit depth
    all ← body
    pure (roll-Alternative (record { choices = xs; body = all }))

  -- alt { alt }
  unfoldable pub alternatives : Rule (List Alternative)
  alternatives = do
    first ← alternative
    repeated last alternative (first ∷ [])

  -- "case" expr "is" alt { alt } "end" "case" ";"
  unfoldable pub case_statement : Rule Seq
  case_statement = do
    place ← terminal allowed 0 (word w.Case)
    x ← expression limit depth
    one (word w.Is)
    all ← alternatives
    ending w.Case
    pure (seq.Case place x all)

  -- { seq } "end" "loop" ";"
  unfoldable pub rest_of_loop : Place → Iteration → Rule Seq
  rest_of_loop place how = do
    all ← body
    ending w.Loop
    pure (seq.Loop place how all)

  -- id "in" simple ( "to" | "downto" ) simple
  unfoldable pub parameter : Rule Iteration
  parameter = do
    name ← one name_of
    one (word w.In)
    x ← range limit depth
    pure (iteration.For name x)

  -- [ "while" expr | "for" id "in" simple ( "to" | "downto" ) simple ] "loop" { seq } "end" "loop" ";"
  unfoldable pub loop_statement : Rule Seq
  loop_statement = (do
    place ← terminal allowed 0 (word w.While)
    x ← expression limit depth
    one (word w.Loop)
    rest_of_loop place (iteration.While x))
      <|> ((do
        place ← terminal allowed 0 (word w.For)
        how ← parameter
        one (word w.Loop)
        rest_of_loop place how)
      <|> (terminal allowed 0 (word w.Loop) >>= (λ place. rest_of_loop place iteration.Endless)))

-- a statement with so many operators in each expression, and levels, at most
unfoldable pub simple_statement : ℕ → ℕ → Rule Seq
simple_statement limit depth = assignment limit depth
    <|> (exit_statement limit depth
    <|> (next_statement limit depth
    <|> (wait_statement limit depth
    <|> ((assertion limit depth >>= (λ x. pure (seq.Assert x)))
    <|> (report_statement limit depth
    <|> (break_statement limit depth
    <|> null_statement limit depth))))))

unfoldable pub compound_statement : Bool → Rule Seq → ℕ → ℕ → Rule Seq
compound_statement allowed inner limit depth = if_statement allowed inner limit depth
    <|> (case_statement allowed inner limit depth
    <|> loop_statement allowed inner limit depth)

unfoldable pub statement : ℕ → ℕ → Rule Seq
statement limit zero = simple_statement limit zero <|> compound_statement false nowhere limit zero
statement limit (suc depth) = simple_statement limit (suc depth) <|> compound_statement true (statement limit depth) limit depth
