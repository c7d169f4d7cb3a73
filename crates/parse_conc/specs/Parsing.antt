-- The rules of concurrent and simultaneous statements as functions that read, which the code computes.
use Rattle.std.specs.Prelude.{ℕ, zero, suc, Bool, ◌&&◌, List, [], ◌∷◌, length, Option, Some, None}
use Rattle.ams_token.specs.declared.token.Place.{Place}
use Rattle.ams_token.specs.declared.token.Token.{Token}
use Rattle.ams_token.specs.declared.token.TokenKind.{TokenKind}
use Rattle.ams_token.specs.declared.token.TokenKind.TheVariants as kind
use Rattle.ams_token.specs.declared.word.Word.{Word}
use Rattle.ams_token.specs.declared.word.Word.TheVariants as w
use Rattle.ams_token.specs.declared.mark.Mark.{Mark}
use Rattle.ams_token.specs.declared.mark.Mark.TheVariants as m
use Rattle.ams_tree.specs.declared.expression.Name.{Name}
use Rattle.ams_tree.specs.declared.expression.Expr.{Expr}
use Rattle.ams_tree.specs.declared.declaration.ProcessDeclaration.{ProcessDeclaration}
use Rattle.ams_tree.specs.declared.sequential.Seq.{Seq}
use Rattle.ams_tree.specs.declared.sequential.WaveformElement.{WaveformElement}
use Rattle.ams_tree.specs.declared.concurrent.ConditionalWaveform.{ConditionalWaveform}
use Rattle.ams_tree.specs.declared.concurrent.Equation.{Equation}
use Rattle.ams_tree.specs.declared.concurrent.Association.{Association}
use Rattle.ams_tree.specs.declared.concurrent.Association.TheVariants as association
use Rattle.ams_tree.specs.declared.concurrent.SimultaneousBranch.{SimultaneousBranch}
use Rattle.ams_tree.specs.declared.concurrent.SimultaneousAlternative.{SimultaneousAlternative}
use Rattle.ams_tree.specs.declared.concurrent.ConcurrentStatement.{ConcurrentStatement}
use Rattle.ams_tree.specs.declared.concurrent.ConcurrentStatement.TheVariants as conc
use Rattle.ams_tree.specs.declared.concurrent.Concurrent.{Concurrent}
use Rattle.ams_tree.specs.Terminals.{mark, word, name_of}
use Rattle.ams_tree.specs.Expressions.{last, allows, below}
use Rattle.ams_tree.specs.Concurrents.{when_else}
use Rattle.parse_steps.specs.Reading.{Parser, pure, terminal, one, ◌>>=◌, ◌>>◌, tail, at, choose, optional, turns, repeated}
use Rattle.parse_expr.specs.Parsing.{expression, simple_expression}
use Rattle.parse_parts.specs.Parsing.{name_list, names_on, maybe_delay, waveform, assertion, break_elements, condition, choices, ending}
use Rattle.parse_decl.specs.Firsts.{begins_process_declaration}
use Rattle.parse_decl.specs.Parsing.{word_said, process_declaration}
use Rattle.parse_seq.specs.Parsing.{begins_statement, statement}

-- ---- what the next tokens are

-- what begins an expression
abbrev pub expression_in : TokenKind → Option (Unit {0})
expression_in (kind.Name n) = Some tt
expression_in (kind.Int x) = Some tt
expression_in (kind.Real x) = Some tt
expression_in (kind.Char c) = Some tt
expression_in (kind.Str n) = Some tt
expression_in (kind.Bits n) = Some tt
expression_in (kind.Word w.Abs) = Some tt
expression_in (kind.Word w.Not) = Some tt
expression_in (kind.Mark m.Plus) = Some tt
expression_in (kind.Mark m.Minus) = Some tt
expression_in (kind.Mark m.LeftParen) = Some tt
expression_in _ = None

unfoldable pub begins_expression : Token → Option (Unit {0})
begins_expression t = expression_in t.kind

-- what begins a statement
abbrev pub concurrent_in : TokenKind → Option (Unit {0})
concurrent_in (kind.Word w.Process) = Some tt
concurrent_in (kind.Word w.If) = Some tt
concurrent_in (kind.Word w.Case) = Some tt
concurrent_in (kind.Word w.Assert) = Some tt
concurrent_in (kind.Word w.Break) = Some tt
concurrent_in k = expression_in k

unfoldable pub begins_concurrent : Token → Option (Unit {0})
begins_concurrent t = concurrent_in t.kind

-- an identifier, and this mark behind it
unfoldable pub name_then : Mark → List Token → Bool
name_then x ts = at name_of ts && at (mark x) (tail ts)

-- with this many operators, calls and attributes, and levels, at most
module _ (limit n : ℕ) where
  unfoldable pub equation : Parser Equation
  equation = do
    x ← simple_expression limit n
    one (mark m.DoubleEqual)
    y ← simple_expression limit n
    one (mark m.Semicolon)
    pure (record { left = x; right = y })

  abbrev pub equation_turns : ℕ → List Equation → Parser (List Equation)
  equation_turns = turns (at begins_expression) last equation

  unfoldable pub equations : Parser (List Equation)
  equations = repeated (at begins_expression) last equation []

  -- "when" expr
  unfoldable pub when_condition : Parser Expr
  when_condition = one (word w.When) >> expression limit n

  -- "else" wave
  unfoldable pub else_waveform : Parser (List WaveformElement)
  else_waveform = one (word w.Else) >> waveform limit n

  -- { "when" expr "else" wave } [ "when" expr ], behind these waveforms
  abbrev pub wave_turns : ℕ → List ConditionalWaveform × List WaveformElement → Parser (List ConditionalWaveform × List WaveformElement × Option Expr)
  wave_turns zero so_far = pure (so_far.0, so_far.1, None)
  wave_turns (suc k) so_far = choose (at (word w.When))
      (when_condition >>= (λ x. choose (at (word w.Else)) (else_waveform >>= (λ more. wave_turns k (when_else so_far (x, more)))) (pure (so_far.0, so_far.1, Some x))))
      (pure (so_far.0, so_far.1, None))

  unfoldable pub more_waveforms : List WaveformElement → Parser (List ConditionalWaveform × List WaveformElement × Option Expr)
  more_waveforms first = λ s. wave_turns (length s.rest) ([], first) s

  unfoldable pub conditional_waveforms : Parser (List ConditionalWaveform × List WaveformElement × Option Expr)
  conditional_waveforms = waveform limit n >>= more_waveforms

  unfoldable pub concurrent_assignment : Parser ConcurrentStatement
  concurrent_assignment = do
    target ← one name_of
    one (mark m.LessEqual)
    how ← maybe_delay limit n
    waves ← conditional_waveforms
    one (mark m.Semicolon)
    pure (conc.Assign target how waves.0 waves.1 waves.2)

  unfoldable pub concurrent_break : Parser ConcurrentStatement
  concurrent_break = do
    place ← one (word w.Break)
    elements ← break_elements limit n
    on ← names_on limit n
    x ← condition limit n
    one (mark m.Semicolon)
    pure (conc.Break place elements on x)

  unfoldable pub actual : Option Name → Parser Association
  actual formal = choose (at (word w.Open)) (one (word w.Open) >>= (λ place. pure (association.Open formal place)))
      (expression limit n >>= (λ x. pure (association.Actual formal x)))

  -- id "=>" ( expr | "open" )
  unfoldable pub named_association : Parser Association
  named_association = one name_of >>= (λ formal. one (mark m.Arrow) >> actual (Some formal))

  unfoldable pub one_association : Parser Association
  one_association = choose (name_then m.Arrow) named_association (actual None)

  abbrev pub association_turns : ℕ → List Association → Parser (List Association)
  association_turns = turns (at (mark m.Comma)) last (one (mark m.Comma) >> one_association)

  unfoldable pub more_associations : Association → Parser (List Association)
  more_associations first = repeated (at (mark m.Comma)) last (one (mark m.Comma) >> one_association) (first ∷ [])

  unfoldable pub associations : Parser (List Association)
  associations = one_association >>= more_associations

  unfoldable pub simultaneous_branch : Parser SimultaneousBranch
  simultaneous_branch = do
    x ← expression limit n
    one (word w.Use)
    all ← equations
    pure (record { condition = x; equations = all })

  unfoldable pub simultaneous_alternative : Parser SimultaneousAlternative
  simultaneous_alternative = do
    xs ← choices limit n
    all ← equations
    pure (record { choices = xs; equations = all })

  unfoldable pub map_aspect : Bool → Parser (List Association)
  map_aspect allowed = do
    one (word w.Map)
    terminal allowed 0 (mark m.LeftParen)
    all ← associations
    one (mark m.RightParen)
    pure all

  abbrev pub branch_turns : ℕ → List SimultaneousBranch → Parser (List SimultaneousBranch)
  branch_turns = turns (at (word w.Elsif)) last (one (word w.Elsif) >> simultaneous_branch)

  unfoldable pub more_branches : SimultaneousBranch → Parser (List SimultaneousBranch)
  more_branches first = repeated (at (word w.Elsif)) last (one (word w.Elsif) >> simultaneous_branch) (first ∷ [])

  -- [ "else" { equation } ]
  unfoldable pub other_equations : Parser (Option (List Equation))
  other_equations = optional (at (word w.Else)) (one (word w.Else) >> equations)

  unfoldable pub simultaneous_if : Place → Parser ConcurrentStatement
  simultaneous_if place = do
    first ← simultaneous_branch
    all ← more_branches first
    other ← other_equations
    ending w.Use
    pure (conc.If place all other)

  abbrev pub alternative_turns : ℕ → List SimultaneousAlternative → Parser (List SimultaneousAlternative)
  alternative_turns = turns (at (word w.When)) last simultaneous_alternative

  unfoldable pub more_alternatives : SimultaneousAlternative → Parser (List SimultaneousAlternative)
  more_alternatives first = repeated (at (word w.When)) last simultaneous_alternative (first ∷ [])

  unfoldable pub simultaneous_alternatives : Parser (List SimultaneousAlternative)
  simultaneous_alternatives = simultaneous_alternative >>= more_alternatives

  unfoldable pub simultaneous_case : Place → Parser ConcurrentStatement
  simultaneous_case place = do
    x ← expression limit n
    one (word w.Use)
    all ← simultaneous_alternatives
    ending w.Case
    pure (conc.Case place x all)

-- [ id ]
unfoldable pub maybe_name : Parser (Option Name)
maybe_name = optional (at name_of) (one name_of)

unfoldable pub sensitivity : ℕ → ℕ → Parser (List Expr)
sensitivity limit n = do
  terminal (allows n) 0 (mark m.LeftParen)
  all ← name_list limit (below n)
  one (mark m.RightParen)
  pure all

module _ (limit n : ℕ) where
  -- [ "(" name { "," name } ")" ]
  unfoldable pub maybe_sensitivity : Parser (Option (List Expr))
  maybe_sensitivity = optional (at (mark m.LeftParen)) (sensitivity limit n)

  abbrev pub declaration_turns : ℕ → List ProcessDeclaration → Parser (List ProcessDeclaration)
  declaration_turns = turns (at begins_process_declaration) last (process_declaration limit n)

  unfoldable pub declarations : Parser (List ProcessDeclaration)
  declarations = repeated (at begins_process_declaration) last (process_declaration limit n) []

  unfoldable pub process_head : Parser (Option (List Expr) × Bool × List ProcessDeclaration)
  process_head = do
    names ← maybe_sensitivity
    is ← word_said w.Is
    locals ← declarations
    one (word w.Begin)
    pure (names, is, locals)

  abbrev pub statement_turns : ℕ → List Seq → Parser (List Seq)
  statement_turns = turns (at begins_statement) last (statement limit n)

  unfoldable pub statements : Parser (List Seq)
  statements = repeated (at begins_statement) last (statement limit n) []

  unfoldable pub process_body : Parser (List Seq × Option Name)
  process_body = do
    all ← statements
    one (word w.End)
    one (word w.Process)
    name ← maybe_name
    one (mark m.Semicolon)
    pure (all, name)

  unfoldable pub process_parts : Place → Parser ConcurrentStatement
  process_parts place = do
    x ← process_head
    y ← process_body
    pure (conc.Process (record { place = place; sensitivity = x.0; word_is = x.1; declarations = x.2; body = y.0; end = y.1 }))

unfoldable pub entity_name : Name → Parser (Option Name × Name)
entity_name first = choose (at (mark m.Point)) (one (mark m.Point) >> (one name_of >>= (λ second. pure (Some first, second)))) (pure (None, first))

module _ (limit n : ℕ) where
  unfoldable pub architecture_name : Parser Name
  architecture_name = do
    terminal (allows n) 0 (mark m.LeftParen)
    name ← one name_of
    one (mark m.RightParen)
    pure name

  -- [ "(" id ")" ]
  unfoldable pub maybe_architecture : Parser (Option Name)
  maybe_architecture = optional (at (mark m.LeftParen)) architecture_name

  unfoldable pub entity_aspect : Parser (Place × (Option Name × Name) × Option Name)
  entity_aspect = do
    place ← one (word w.Entity)
    first ← one name_of
    names ← entity_name first
    of ← maybe_architecture
    pure (place, names, of)

  -- [ ( "generic" | "port" ) "map" "(" assoc ")" ]
  unfoldable pub maybe_map : Word → Parser (Option (List Association))
  maybe_map x = optional (at (word x)) (one (word x) >> map_aspect limit (below n) (allows n))

  unfoldable pub maps : Place × (Option Name × Name) × Option Name → Parser ConcurrentStatement
  maps aspect = do
    xs ← maybe_map w.Generic
    ys ← maybe_map w.Port
    one (mark m.Semicolon)
    pure (conc.Instance (record { place = aspect.0; library = aspect.1.0; entity = aspect.1.1; architecture = aspect.2; generics = xs; ports = ys }))

  unfoldable pub instance : Parser ConcurrentStatement
  instance = entity_aspect >>= maps

  -- an assignment or an equation
  unfoldable pub assignment_or_equation : Parser ConcurrentStatement
  assignment_or_equation = choose (name_then m.LessEqual) (concurrent_assignment limit n) (equation limit n >>= (λ x. pure (conc.Equation x)))

  unfoldable pub unlabelled : Parser ConcurrentStatement
  unlabelled =
      choose (at (word w.Process)) (terminal (allows n) 0 (word w.Process) >>= process_parts limit (below n))
      (choose (at (word w.If)) (terminal (allows n) 0 (word w.If) >>= simultaneous_if limit (below n))
      (choose (at (word w.Case)) (terminal (allows n) 0 (word w.Case) >>= simultaneous_case limit (below n))
      (choose (at (word w.Assert)) (assertion limit n >>= (λ x. pure (conc.Assert x)))
      (choose (at (word w.Break)) (concurrent_break limit n)
      assignment_or_equation))))

  unfoldable pub labelled_statement : Parser ConcurrentStatement
  labelled_statement = choose (at (word w.Entity)) instance unlabelled

  -- id ":" ( instance | statement )
  unfoldable pub labelled : Parser Concurrent
  labelled = do
    name ← one name_of
    one (mark m.Colon)
    x ← labelled_statement
    pure (record { label = Some name; statement = x })

  unfoldable pub concurrent : Parser Concurrent
  concurrent = choose (name_then m.Colon) labelled (unlabelled >>= (λ x. pure (record { label = None; statement = x })))
