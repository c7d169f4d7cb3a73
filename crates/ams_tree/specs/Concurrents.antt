-- The grammar of concurrent and simultaneous statements (IEEE 1076 and 1076.1, as far as the profile has them).
use Rattle.std.specs.Prelude.{ℕ, Bool, List, [], ◌∷◌, Option, Some, None}
use Rattle.ams_token.specs.declared.token.Place.{Place}
use Rattle.ams_token.specs.declared.word.Word.TheVariants as w
use Rattle.ams_token.specs.declared.mark.Mark.TheVariants as m
use Rattle.ams_tree.specs.declared.expression.Name.{Name}
use Rattle.ams_tree.specs.declared.expression.Expr.{Expr}
use Rattle.ams_tree.specs.declared.declaration.ProcessDeclaration.{ProcessDeclaration}
use Rattle.ams_tree.specs.declared.sequential.Seq.{Seq}
use Rattle.ams_tree.specs.declared.sequential.WaveformElement.{WaveformElement}
use Rattle.ams_tree.specs.declared.concurrent.ConditionalWaveform.{ConditionalWaveform}
use Rattle.ams_tree.specs.declared.concurrent.Equation.{Equation}
use Rattle.ams_tree.specs.declared.concurrent.Association.{Association}
use Rattle.ams_tree.specs.declared.concurrent.Association.TheVariants as association
use Rattle.ams_tree.specs.declared.concurrent.SimultaneousBranch.{SimultaneousBranch}
use Rattle.ams_tree.specs.declared.concurrent.SimultaneousAlternative.{SimultaneousAlternative}
use Rattle.ams_tree.specs.declared.concurrent.ConcurrentStatement.{ConcurrentStatement}
use Rattle.ams_tree.specs.declared.concurrent.ConcurrentStatement.TheVariants as conc
use Rattle.ams_tree.specs.declared.concurrent.Concurrent.{Concurrent}
use Rattle.ams_tree.specs.Rule.{Rule, pure, terminal, one, optional, present, ◌>>=◌, ◌>>◌, ◌<|>◌, repeated}
use Rattle.ams_tree.specs.Terminals.{mark, word, name_of}
use Rattle.ams_tree.specs.Expressions.{last, allows, below, expression, simple_expression}
use Rattle.ams_tree.specs.Declarations.{process_declaration}
use Rattle.ams_tree.specs.Statements.{name_list, delay_mechanism, waveform, assertion, break_elements, condition, choices, ending, statement}

-- the waveforms so far, with their conditions, and the last one, which then gets a condition
abbrev pub when_else : List ConditionalWaveform × List WaveformElement → Expr × List WaveformElement → List ConditionalWaveform × List WaveformElement
when_else so_far more = (last so_far.0 (record { elements = so_far.1; condition = more.0 }), more.1)

-- with this many operators, calls and attributes, and levels, at most
module _ (limit depth : ℕ) where
  -- simple "==" simple ";"
  unfoldable pub equation : Rule Equation
  equation = do
    x ← simple_expression limit depth
    one (mark m.DoubleEqual)
    y ← simple_expression limit depth
    one (mark m.Semicolon)
    pure (record { left = x; right = y })

  -- { equation }
  unfoldable pub equations : Rule (List Equation)
  equations = repeated last equation []

  -- "when" expr "else" wave
  unfoldable pub otherwise : Rule (Expr × List WaveformElement)
  otherwise = do
    one (word w.When)
    x ← expression limit depth
    one (word w.Else)
    wave ← waveform limit depth
    pure (x, wave)

  -- wave { "when" expr "else" wave } [ "when" expr ]
  unfoldable pub conditional_waveforms : Rule (List ConditionalWaveform × List WaveformElement × Option Expr)
  conditional_waveforms = do
    first ← waveform limit depth
    waves ← repeated when_else otherwise ([], first)
    x ← condition limit depth
    pure (waves.0, waves.1, x)

  -- id "<=" [ delay ] wave { "when" expr "else" wave } [ "when" expr ] ";"
  unfoldable pub concurrent_assignment : Rule ConcurrentStatement
  concurrent_assignment = do
    target ← one name_of
    one (mark m.LessEqual)
    how ← optional (delay_mechanism limit depth)
    waves ← conditional_waveforms
    one (mark m.Semicolon)
    pure (conc.Assign target how waves.0 waves.1 waves.2)

  -- "break" [ elem { "," elem } ] [ "on" name { "," name } ] [ "when" expr ] ";"
  unfoldable pub concurrent_break : Rule ConcurrentStatement
  concurrent_break = do
    place ← one (word w.Break)
    elements ← break_elements limit depth
    on ← (one (word w.On) >> name_list limit depth) <|> pure []
    x ← condition limit depth
    one (mark m.Semicolon)
    pure (conc.Break place elements on x)

  -- expr | "open"
  unfoldable pub actual : Option Name → Rule Association
  actual formal = (one (word w.Open) >>= (λ place. pure (association.Open formal place)))
      <|> (expression limit depth >>= (λ x. pure (association.Actual formal x)))

  -- [ id "=>" ] ( expr | "open" )
  unfoldable pub one_association : Rule Association
  one_association = (one name_of >>= (λ formal. one (mark m.Arrow) >> actual (Some formal))) <|> actual None

  -- one { "," one }
  unfoldable pub associations : Rule (List Association)
  associations = do
    first ← one_association
    repeated last (one (mark m.Comma) >> one_association) (first ∷ [])

  -- expr "use" { equation }
  unfoldable pub simultaneous_branch : Rule SimultaneousBranch
  simultaneous_branch = do
    x ← expression limit depth
    one (word w.Use)
    all ← equations
    pure (record { condition = x; equations = all })

  -- "when" choice { "|" choice } "=>" { equation }
  unfoldable pub simultaneous_alternative : Rule SimultaneousAlternative
  simultaneous_alternative = do
    xs ← choices limit depth
    all ← equations
    pure (record { choices = xs; equations = all })

  -- ( "generic" | "port" ) "map" "(" assoc ")", behind its first word
  unfoldable pub map_aspect : Bool → Rule (List Association)
  map_aspect allowed = do
    one (word w.Map)
    terminal allowed 0 (mark m.LeftParen)
    all ← associations
    one (mark m.RightParen)
    pure all

  -- expr "use" { equation } { "elsif" expr "use" { equation } } [ "else" { equation } ] "end" "use" ";"
  unfoldable pub simultaneous_if : Place → Rule ConcurrentStatement
  simultaneous_if place = do
    first ← simultaneous_branch
    all ← repeated last (one (word w.Elsif) >> simultaneous_branch) (first ∷ [])
    other ← optional (one (word w.Else) >> equations)
    ending w.Use
    pure (conc.If place all other)

  -- salt { salt }
  unfoldable pub simultaneous_alternatives : Rule (List SimultaneousAlternative)
  simultaneous_alternatives = do
    first ← simultaneous_alternative
    repeated last simultaneous_alternative (first ∷ [])

  -- expr "use" salt { salt } "end" "case" ";"
  unfoldable pub simultaneous_case : Place → Rule ConcurrentStatement
  simultaneous_case place = do
    x ← expression limit depth
    one (word w.Use)
    all ← simultaneous_alternatives
    ending w.Case
    pure (conc.Case place x all)

-- "(" name { "," name } ")"
unfoldable pub sensitivity : ℕ → ℕ → Rule (List Expr)
sensitivity limit depth = do
  terminal (allows depth) 0 (mark m.LeftParen)
  all ← name_list limit (below depth)
  one (mark m.RightParen)
  pure all

module _ (limit depth : ℕ) where
  -- [ "(" name { "," name } ")" ] [ "is" ] { pdecl } "begin"
  unfoldable pub process_head : Rule (Option (List Expr) × Bool × List ProcessDeclaration)
  process_head = do
    names ← optional (sensitivity limit depth)
    is ← present (one (word w.Is))
    locals ← repeated last (process_declaration limit depth) []
    one (word w.Begin)
    pure (names, is, locals)

  -- { seq } "end" "process" [ id ] ";"
  unfoldable pub process_body : Rule (List Seq × Option Name)
  process_body = do
    all ← repeated last (statement limit depth) []
    one (word w.End)
    one (word w.Process)
    name ← optional (one name_of)
    one (mark m.Semicolon)
    pure (all, name)

  -- what stands behind "process"
  unfoldable pub process_parts : Place → Rule ConcurrentStatement
  process_parts at = do
    x ← process_head
    y ← process_body
    pure (conc.Process (record { place = at; sensitivity = x.0; word_is = x.1; declarations = x.2; body = y.0; end = y.1 }))

module _ (limit depth : ℕ) where
  -- id [ "." id ], behind a first id: the library and the entity
  unfoldable pub entity_name : Name → Rule (Option Name × Name)
  entity_name first = (one (mark m.Point) >> (one name_of >>= (λ second. pure (Some first, second)))) <|> pure (None, first)

  -- "(" id ")"
  unfoldable pub architecture_name : Rule Name
  architecture_name = do
    terminal (allows depth) 0 (mark m.LeftParen)
    name ← one name_of
    one (mark m.RightParen)
    pure name

  -- "entity" id [ "." id ] [ "(" id ")" ]
  unfoldable pub entity_aspect : Rule (Place × (Option Name × Name) × Option Name)
  entity_aspect = do
    at ← one (word w.Entity)
    first ← one name_of
    names ← entity_name first
    of ← optional architecture_name
    pure (at, names, of)

  -- [ "generic" "map" "(" assoc ")" ] [ "port" "map" "(" assoc ")" ] ";", behind the entity
  unfoldable pub maps : Place × (Option Name × Name) × Option Name → Rule ConcurrentStatement
  maps aspect = do
    xs ← optional (one (word w.Generic) >> map_aspect limit (below depth) (allows depth))
    ys ← optional (one (word w.Port) >> map_aspect limit (below depth) (allows depth))
    one (mark m.Semicolon)
    pure (conc.Instance (record { place = aspect.0; library = aspect.1.0; entity = aspect.1.1; architecture = aspect.2; generics = xs; ports = ys }))

  -- "entity" id [ "." id ] [ "(" id ")" ] [ "generic" "map" "(" assoc ")" ] [ "port" "map" "(" assoc ")" ] ";"
  unfoldable pub instance : Rule ConcurrentStatement
  instance = entity_aspect >>= maps

  -- a statement that may stand without a label
  unfoldable pub unlabelled : Rule ConcurrentStatement
  unlabelled = (terminal (allows depth) 0 (word w.Process) >>= process_parts limit (below depth))
      <|> ((terminal (allows depth) 0 (word w.If) >>= simultaneous_if limit (below depth))
      <|> ((terminal (allows depth) 0 (word w.Case) >>= simultaneous_case limit (below depth))
      <|> ((assertion limit depth >>= (λ x. pure (conc.Assert x)))
      <|> (concurrent_break limit depth
      <|> (concurrent_assignment limit depth
      <|> (equation limit depth >>= (λ x. pure (conc.Equation x))))))))

  -- [ id ":" ] ( process | assign_c | assert | break_c | equation | sim_if | sim_case ) | id ":" instance
  unfoldable pub concurrent : Rule Concurrent
  concurrent = (do
    name ← one name_of
    one (mark m.Colon)
    x ← instance <|> unlabelled
    pure (record { label = Some name; statement = x }))
      <|> (unlabelled >>= (λ x. pure (record { label = None; statement = x })))
