-- The grammar of declarations (IEEE 1076 and 1076.1, as far as the profile has them).
use Rattle.std.specs.Prelude.{ℕ, List, [], ◌∷◌, Option, Some, None}
use Rattle.ams_token.specs.declared.token.Place.{Place}
use Rattle.ams_token.specs.declared.word.Word.{Word}
use Rattle.ams_token.specs.declared.word.Word.TheVariants as w
use Rattle.ams_token.specs.declared.mark.Mark.TheVariants as m
use Rattle.ams_tree.specs.declared.expression.Name.{Name}
use Rattle.ams_tree.specs.declared.expression.Expr.{Expr}
use Rattle.ams_tree.specs.declared.declaration.Range.{Range}
use Rattle.ams_tree.specs.declared.declaration.Bounds.{Bounds}
use Rattle.ams_tree.specs.declared.declaration.SubtypeIndication.{SubtypeIndication}
use Rattle.ams_tree.specs.declared.declaration.Generic.{Generic}
use Rattle.ams_tree.specs.declared.declaration.Port.{Port}
use Rattle.ams_tree.specs.declared.declaration.Port.TheVariants as port
use Rattle.ams_tree.specs.declared.declaration.Declaration.{Declaration}
use Rattle.ams_tree.specs.declared.declaration.Declaration.TheVariants as declare
use Rattle.ams_tree.specs.declared.declaration.ProcessDeclaration.{ProcessDeclaration}
use Rattle.ams_tree.specs.declared.declaration.ProcessDeclaration.TheVariants as local
use Rattle.ams_tree.specs.Rule.{Rule, pure, terminal, one, optional, present, ◌>>=◌, ◌>>◌, ◌<|>◌, repeated}
use Rattle.ams_tree.specs.Terminals.{mark, word, name_of, direction_of, mode_of}
use Rattle.ams_tree.specs.Expressions.{last, below, allows, expression, simple_expression}

-- { "," id }, behind a first one
unfoldable pub more_names : Name → Rule (List Name)
more_names first = repeated last (one (mark m.Comma) >> one name_of) (first ∷ [])

-- id { "," id }
unfoldable pub names : Rule (List Name)
names = one name_of >>= more_names

-- ids ":"
unfoldable pub names_colon : Rule (List Name)
names_colon = names >>= (λ ids. one (mark m.Colon) >> pure ids)

-- a word, and the name behind it
unfoldable pub name_after : Word → Rule Name
name_after x = one (word x) >> one name_of

-- with this many operators, calls and attributes, and levels, at most
module _ (limit depth : ℕ) where
  -- simple ( "to" | "downto" ) simple
  unfoldable pub range : Rule Range
  range = do
    left ← simple_expression limit depth
    way ← one direction_of
    right ← simple_expression limit depth
    pure (record { left = left; direction = way; right = right })

  -- "range" simple "to" simple
  unfoldable pub bounds : Rule Bounds
  bounds = do
    one (word w.Range)
    low ← simple_expression limit depth
    one (word w.To)
    high ← simple_expression limit depth
    pure (record { low = low; high = high })

  -- [ ":=" expr ]
  unfoldable pub default : Rule (Option Expr)
  default = optional (one (mark m.Assign) >> expression limit depth)

-- "(" simple ( "to" | "downto" ) simple ")"
unfoldable pub index : ℕ → ℕ → Rule Range
index limit depth = do
  terminal (allows depth) 0 (mark m.LeftParen)
  x ← range limit (below depth)
  one (mark m.RightParen)
  pure x

module _ (limit depth : ℕ) where
  -- id [ "(" simple ( "to" | "downto" ) simple ")" ] [ "range" simple "to" simple ]
  unfoldable pub indication : Rule SubtypeIndication
  indication = do
    name ← one name_of
    x ← optional (index limit depth)
    y ← optional (bounds limit depth)
    pure (record { mark = name; index = x; bounds = y })

  -- [ "constant" ] ids ":" [ "in" ] type [ ":=" expr ]
  unfoldable pub generic : Rule Generic
  generic = do
    place ← optional (one (word w.Constant))
    ids ← names_colon
    mode ← present (one (word w.In))
    type ← indication
    value ← default limit depth
    pure (record { constant = place; names = ids; mode_in = mode; indication = type; default = value })

  -- ids ":" [ "in" | "out" ] type [ ":=" expr ]
  unfoldable pub signal_port : Option Place → Rule Port
  signal_port place = do
    ids ← names_colon
    mode ← optional (one mode_of)
    type ← indication
    value ← default limit depth
    pure (port.Signal place ids mode type value)

  -- [ "signal" ] ids ":" [ "in" | "out" ] type [ ":=" expr ] | "terminal" ids ":" id | "quantity" ids ":" [ "in" | "out" ] type
  unfoldable pub port_declaration : Rule Port
  port_declaration = (do
    place ← one (word w.Terminal)
    ids ← names_colon
    nature ← one name_of
    pure (port.Terminal place ids nature))
      <|> ((do
        place ← one (word w.Quantity)
        ids ← names_colon
        mode ← optional (one mode_of)
        type ← indication
        pure (port.Quantity place ids mode type))
      <|> (optional (one (word w.Signal)) >>= signal_port))

  -- "signal" ids ":" type [ ":=" expr ] ";"
  unfoldable pub signal_declaration : Rule Declaration
  signal_declaration = do
    place ← one (word w.Signal)
    ids ← names_colon
    type ← indication
    value ← default limit depth
    one (mark m.Semicolon)
    pure (declare.Signal place ids type value)

  -- ids ":" type ":=" expr ";"
  unfoldable pub constant_parts : Rule (List Name × SubtypeIndication × Expr)
  constant_parts = do
    ids ← names_colon
    type ← indication
    one (mark m.Assign)
    value ← expression limit depth
    one (mark m.Semicolon)
    pure (ids, type, value)

  -- "terminal" ids ":" id ";"
  unfoldable pub terminal_declaration : Rule Declaration
  terminal_declaration = do
    place ← one (word w.Terminal)
    ids ← names_colon
    nature ← one name_of
    one (mark m.Semicolon)
    pure (declare.Terminal place ids nature)

  -- "through" id [ "to" id ] ";", or id [ "to" id ] ";" where no through quantities stand before it
  unfoldable pub across_ends : Place → List Name → Option (List Name) → Name → Rule Declaration
  across_ends place across through from = do
    to ← optional (name_after w.To)
    one (mark m.Semicolon)
    pure (declare.Across place across through from to)

  -- "across" [ ids "through" ] id [ "to" id ] ";"
  unfoldable pub across_branch : Place → List Name → Rule Declaration
  across_branch place ids = do
    first ← name_after w.Across
    (more_names first >>= (λ through. name_after w.Through >>= across_ends place ids (Some through)))
        <|> across_ends place ids None first

  -- "through" id [ "to" id ] ";"
  unfoldable pub through_branch : Place → List Name → Rule Declaration
  through_branch place ids = do
    from ← name_after w.Through
    to ← optional (name_after w.To)
    one (mark m.Semicolon)
    pure (declare.Through place ids from to)

  -- ":" type [ ":=" expr ] ";"
  unfoldable pub free_quantity : Place → List Name → Rule Declaration
  free_quantity place ids = do
    one (mark m.Colon)
    type ← indication
    value ← default limit depth
    one (mark m.Semicolon)
    pure (declare.Quantity place ids type value)

  -- "quantity" ids ( ":" type [ ":=" expr ] | "across" [ ids "through" ] id [ "to" id ] | "through" id [ "to" id ] ) ";"
  unfoldable pub quantity_declaration : Rule Declaration
  quantity_declaration = do
    place ← one (word w.Quantity)
    ids ← names
    free_quantity place ids <|> (across_branch place ids <|> through_branch place ids)

  -- "across" id "through" id "reference" ";"
  unfoldable pub rest_of_nature : Place → Name → Name → Rule Declaration
  rest_of_nature place name across = do
    through ← name_after w.Across
    reference ← name_after w.Through
    one (word w.Reference)
    one (mark m.Semicolon)
    pure (declare.Nature place name across through reference)

  -- "nature" id "is" id "across" id "through" id "reference" ";"
  unfoldable pub nature_declaration : Rule Declaration
  nature_declaration = do
    place ← one (word w.Nature)
    name ← one name_of
    across ← name_after w.Is
    rest_of_nature place name across

  -- "(" ids ")"
  unfoldable pub enumerated : Rule (List Name)
  enumerated = do
    terminal (allows depth) 0 (mark m.LeftParen)
    literals ← names
    one (mark m.RightParen)
    pure literals

  -- "type" id "is" "(" ids ")" ";"
  unfoldable pub enumeration_declaration : Rule Declaration
  enumeration_declaration = do
    place ← one (word w.Type)
    name ← one name_of
    one (word w.Is)
    literals ← enumerated
    one (mark m.Semicolon)
    pure (declare.Enumeration place name literals)

  -- "subtype" id "is" type ";"
  unfoldable pub subtype_declaration : Rule Declaration
  subtype_declaration = do
    place ← one (word w.Subtype)
    name ← one name_of
    one (word w.Is)
    type ← indication
    one (mark m.Semicolon)
    pure (declare.Subtype place name type)

  -- a declaration of an architecture
  unfoldable pub declaration : Rule Declaration
  declaration = signal_declaration
      <|> ((one (word w.Constant) >>= (λ place. constant_parts >>= (λ x. pure (declare.Constant place x.0 x.1 x.2))))
      <|> (terminal_declaration
      <|> (quantity_declaration
      <|> (nature_declaration
      <|> (enumeration_declaration
      <|> subtype_declaration)))))

  -- "variable" ids ":" type [ ":=" expr ] ";"
  unfoldable pub variable_declaration : Rule ProcessDeclaration
  variable_declaration = do
    place ← one (word w.Variable)
    ids ← names_colon
    type ← indication
    value ← default limit depth
    one (mark m.Semicolon)
    pure (local.Variable place ids type value)

  -- a declaration of a process
  unfoldable pub process_declaration : Rule ProcessDeclaration
  process_declaration = variable_declaration
      <|> (one (word w.Constant) >>= (λ place. constant_parts >>= (λ x. pure (local.Constant place x.0 x.1 x.2))))
