-- The parts that declarations, statements and design units share, as functions that read.
use Rattle.std.specs.Prelude.{ℕ, List, [], ◌∷◌, Option, Some, None}
use Rattle.ams_token.specs.declared.token.Place.{Place}
use Rattle.ams_token.specs.declared.token.Token.{Token}
use Rattle.ams_token.specs.declared.token.TokenKind.{TokenKind}
use Rattle.ams_token.specs.declared.token.TokenKind.TheVariants as kind
use Rattle.ams_token.specs.declared.word.Word.{Word}
use Rattle.ams_token.specs.declared.word.Word.TheVariants as w
use Rattle.ams_token.specs.declared.mark.Mark.TheVariants as m
use Rattle.ams_tree.specs.declared.expression.Name.{Name}
use Rattle.ams_tree.specs.declared.expression.Expr.{Expr}
use Rattle.ams_tree.specs.declared.expression.Literal.{Literal}
use Rattle.ams_tree.specs.declared.declaration.Range.{Range}
use Rattle.ams_tree.specs.declared.sequential.DelayMechanism.{DelayMechanism}
use Rattle.ams_tree.specs.declared.sequential.DelayMechanism.TheVariants as delay
use Rattle.ams_tree.specs.declared.sequential.WaveformElement.{WaveformElement}
use Rattle.ams_tree.specs.declared.sequential.Assertion.{Assertion}
use Rattle.ams_tree.specs.declared.sequential.BreakElement.{BreakElement}
use Rattle.ams_tree.specs.declared.sequential.Choice.{Choice}
use Rattle.ams_tree.specs.declared.sequential.Choice.TheVariants as choice
use Rattle.ams_tree.specs.Terminals.{mark, word, name_of, string_of, direction_of}
use Rattle.ams_tree.specs.Expressions.{last}
use Rattle.parse_steps.specs.Reading.{Parser, pure, one, ◌>>=◌, ◌>>◌, at, choose, optional, turns, repeated}
use Rattle.parse_expr.specs.Parsing.{expression, simple_expression, listed_name}

abbrev pub name_turns : ℕ → List Name → Parser (List Name)
name_turns = turns (at (mark m.Comma)) last (one (mark m.Comma) >> one name_of)

unfoldable pub more_names : Name → Parser (List Name)
more_names first = repeated (at (mark m.Comma)) last (one (mark m.Comma) >> one name_of) (first ∷ [])

unfoldable pub names : Parser (List Name)
names = one name_of >>= more_names

unfoldable pub name_after : Word → Parser Name
name_after x = one (word x) >> one name_of

-- with this many operators, calls and attributes, and levels, at most
module _ (limit n : ℕ) where
  unfoldable pub range : Parser Range
  range = do
    left ← simple_expression limit n
    way ← one direction_of
    right ← simple_expression limit n
    pure (record { left = left; direction = way; right = right })

-- ---- parts of statements

-- the words with which a delay begins
abbrev pub delaying_in : TokenKind → Option (Unit {0})
delaying_in (kind.Word w.Transport) = Some tt
delaying_in (kind.Word w.Reject) = Some tt
delaying_in (kind.Word w.Inertial) = Some tt
delaying_in _ = None

unfoldable pub delaying : Token → Option (Unit {0})
delaying t = delaying_in t.kind

-- what begins an element of a break
abbrev pub breaking_in : TokenKind → Option (Unit {0})
breaking_in (kind.Name n) = Some tt
breaking_in (kind.Word w.For) = Some tt
breaking_in _ = None

unfoldable pub breaking : Token → Option (Unit {0})
breaking t = breaking_in t.kind

unfoldable pub ending : Word → Parser Place
ending x = one (word w.End) >> (one (word x) >> one (mark m.Semicolon))

unfoldable pub severity : Parser (Option Name)
severity = optional (at (word w.Severity)) (one (word w.Severity) >> one name_of)

-- [ "report" string ]
unfoldable pub message : Parser (Option Literal)
message = optional (at (word w.Report)) (one (word w.Report) >> one string_of)

module _ (limit n : ℕ) where
  abbrev pub listed_turns : ℕ → List Expr → Parser (List Expr)
  listed_turns = turns (at (mark m.Comma)) last (one (mark m.Comma) >> listed_name limit n)

  unfoldable pub more_listed : Expr → Parser (List Expr)
  more_listed first = repeated (at (mark m.Comma)) last (one (mark m.Comma) >> listed_name limit n) (first ∷ [])

  unfoldable pub name_list : Parser (List Expr)
  name_list = listed_name limit n >>= more_listed

  -- [ "on" name { "," name } ]
  unfoldable pub names_on : Parser (List Expr)
  names_on = choose (at (word w.On)) (one (word w.On) >> name_list) (pure [])

  -- "reject" expr "inertial"
  unfoldable pub rejection : Parser DelayMechanism
  rejection = do
    place ← one (word w.Reject)
    limit_of ← expression limit n
    one (word w.Inertial)
    pure (delay.Reject place limit_of)

  unfoldable pub delay_mechanism : Parser DelayMechanism
  delay_mechanism = choose (at (word w.Transport)) (one (word w.Transport) >>= (λ place. pure (delay.Transport place)))
      (choose (at (word w.Reject)) rejection (one (word w.Inertial) >>= (λ place. pure (delay.Inertial place))))

  -- [ delay ]
  unfoldable pub maybe_delay : Parser (Option DelayMechanism)
  maybe_delay = optional (at delaying) delay_mechanism

  -- [ "after" expr ]
  unfoldable pub after : Parser (Option Expr)
  after = optional (at (word w.After)) (one (word w.After) >> expression limit n)

  unfoldable pub waveform_element : Parser WaveformElement
  waveform_element = do
    x ← expression limit n
    y ← after
    pure (record { value = x; after = y })

  abbrev pub element_turns : ℕ → List WaveformElement → Parser (List WaveformElement)
  element_turns = turns (at (mark m.Comma)) last (one (mark m.Comma) >> waveform_element)

  unfoldable pub more_elements : WaveformElement → Parser (List WaveformElement)
  more_elements first = repeated (at (mark m.Comma)) last (one (mark m.Comma) >> waveform_element) (first ∷ [])

  unfoldable pub waveform : Parser (List WaveformElement)
  waveform = waveform_element >>= more_elements

  unfoldable pub assertion : Parser Assertion
  assertion = do
    place ← one (word w.Assert)
    x ← expression limit n
    text ← message
    level ← severity
    one (mark m.Semicolon)
    pure (record { place = place; condition = x; text = text; severity = level })

  unfoldable pub broken : Option Expr → Parser BreakElement
  broken of = do
    x ← listed_name limit n
    one (mark m.Arrow)
    y ← expression limit n
    pure (record { selector = of; quantity = x; value = y })

  -- "for" name "use" name "=>" expr
  unfoldable pub selected : Parser BreakElement
  selected = do
    one (word w.For)
    of ← listed_name limit n
    one (word w.Use)
    broken (Some of)

  unfoldable pub break_element : Parser BreakElement
  break_element = choose (at (word w.For)) selected (broken None)

  abbrev pub break_turns : ℕ → List BreakElement → Parser (List BreakElement)
  break_turns = turns (at (mark m.Comma)) last (one (mark m.Comma) >> break_element)

  unfoldable pub more_breaks : BreakElement → Parser (List BreakElement)
  more_breaks first = repeated (at (mark m.Comma)) last (one (mark m.Comma) >> break_element) (first ∷ [])

  unfoldable pub break_list : Parser (List BreakElement)
  break_list = break_element >>= more_breaks

  unfoldable pub break_elements : Parser (List BreakElement)
  break_elements = choose (at breaking) break_list (pure [])

  unfoldable pub condition : Parser (Option Expr)
  condition = optional (at (word w.When)) (one (word w.When) >> expression limit n)

  unfoldable pub one_choice : Parser Choice
  one_choice = choose (at (word w.Others)) (one (word w.Others) >>= (λ place. pure (choice.Others place)))
      (simple_expression limit n >>= (λ x. pure (choice.Value x)))

  abbrev pub choice_turns : ℕ → List Choice → Parser (List Choice)
  choice_turns = turns (at (mark m.Bar)) last (one (mark m.Bar) >> one_choice)

  unfoldable pub more_choices : Choice → Parser (List Choice)
  more_choices first = repeated (at (mark m.Bar)) last (one (mark m.Bar) >> one_choice) (first ∷ [])

  unfoldable pub choices : Parser (List Choice)
  choices = do
    one (word w.When)
    first ← one_choice
    all ← more_choices first
    one (mark m.Arrow)
    pure all
