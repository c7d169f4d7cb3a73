-- The rules of declarations as functions that read, which the code computes.
use Rattle.std.specs.Prelude.{ℕ, Bool, ◌||◌, List, Option, Some, None}
use Rattle.ams_token.specs.declared.token.Place.{Place}
use Rattle.ams_token.specs.declared.word.Word.{Word}
use Rattle.ams_token.specs.declared.word.Word.TheVariants as w
use Rattle.ams_token.specs.declared.mark.Mark.TheVariants as m
use Rattle.ams_tree.specs.declared.expression.Name.{Name}
use Rattle.ams_tree.specs.declared.expression.Expr.{Expr}
use Rattle.ams_tree.specs.declared.declaration.Range.{Range}
use Rattle.ams_tree.specs.declared.declaration.Bounds.{Bounds}
use Rattle.ams_tree.specs.declared.declaration.Mode.{Mode}
use Rattle.ams_tree.specs.declared.declaration.SubtypeIndication.{SubtypeIndication}
use Rattle.ams_tree.specs.declared.declaration.Generic.{Generic}
use Rattle.ams_tree.specs.declared.declaration.Port.{Port}
use Rattle.ams_tree.specs.declared.declaration.Port.TheVariants as port
use Rattle.ams_tree.specs.declared.declaration.Declaration.{Declaration}
use Rattle.ams_tree.specs.declared.declaration.Declaration.TheVariants as declare
use Rattle.ams_tree.specs.declared.declaration.ProcessDeclaration.{ProcessDeclaration}
use Rattle.ams_tree.specs.declared.declaration.ProcessDeclaration.TheVariants as local
use Rattle.ams_tree.specs.Terminals.{mark, word, name_of, mode_of}
use Rattle.ams_tree.specs.Expressions.{allows, below}
use Rattle.parse_steps.specs.Reading.{Parser, pure, terminal, one, ◌>>=◌, ◌>>◌, at, choose, optional, present}
use Rattle.parse_expr.specs.Parsing.{expression, simple_expression}
use Rattle.parse_parts.specs.Parsing.{more_names, names, name_after, range}

-- ---- the parts of declarations

unfoldable pub names_colon : Parser (List Name)
names_colon = names >>= (λ ids. one (mark m.Colon) >> pure ids)

-- the place of a word that may be left out
unfoldable pub word_place : Word → Parser (Option Place)
word_place x = optional (at (word x)) (one (word x))

unfoldable pub word_said : Word → Parser Bool
word_said x = present (at (word x)) (one (word x))

unfoldable pub mode : Parser (Option Mode)
mode = optional (at mode_of) (one mode_of)

-- with this many operators, calls and attributes, and levels, at most
module _ (limit n : ℕ) where
  unfoldable pub bounds : Parser Bounds
  bounds = do
    one (word w.Range)
    low ← simple_expression limit n
    one (word w.To)
    high ← simple_expression limit n
    pure (record { low = low; high = high })

  unfoldable pub default : Parser (Option Expr)
  default = optional (at (mark m.Assign)) (one (mark m.Assign) >> expression limit n)

unfoldable pub index : ℕ → ℕ → Parser Range
index limit n = do
  terminal (allows n) 0 (mark m.LeftParen)
  x ← range limit (below n)
  one (mark m.RightParen)
  pure x

module _ (limit n : ℕ) where
  unfoldable pub some_index : Parser (Option Range)
  some_index = optional (at (mark m.LeftParen)) (index limit n)

  unfoldable pub some_bounds : Parser (Option Bounds)
  some_bounds = optional (at (word w.Range)) (bounds limit n)

  unfoldable pub indication : Parser SubtypeIndication
  indication = do
    name ← one name_of
    x ← some_index
    y ← some_bounds
    pure (record { mark = name; index = x; bounds = y })

-- ---- branch quantities and natures

unfoldable pub to_name : Parser (Option Name)
to_name = optional (at (word w.To)) (name_after w.To)

unfoldable pub across_ends : Place → List Name → Option (List Name) → Name → Parser Declaration
across_ends place across through from = do
  to ← to_name
  one (mark m.Semicolon)
  pure (declare.Across place across through from to)

unfoldable pub across_through : Place → List Name → Name → Parser Declaration
across_through place ids first = more_names first >>= (λ through. name_after w.Through >>= across_ends place ids (Some through))

unfoldable pub across_branch : Place → List Name → Parser Declaration
across_branch place ids = do
  first ← name_after w.Across
  choose (λ ts. at (mark m.Comma) ts || at (word w.Through) ts) (across_through place ids first) (across_ends place ids None first)

unfoldable pub through_branch : Place → List Name → Parser Declaration
through_branch place ids = do
  from ← name_after w.Through
  to ← to_name
  one (mark m.Semicolon)
  pure (declare.Through place ids from to)

unfoldable pub rest_of_nature : Place → Name → Name → Parser Declaration
rest_of_nature place name across = do
  through ← name_after w.Across
  reference ← name_after w.Through
  one (word w.Reference)
  one (mark m.Semicolon)
  pure (declare.Nature place name across through reference)

unfoldable pub nature_declaration : Parser Declaration
nature_declaration = do
  place ← one (word w.Nature)
  name ← one name_of
  across ← name_after w.Is
  rest_of_nature place name across

unfoldable pub terminal_declaration : Parser Declaration
terminal_declaration = do
  place ← one (word w.Terminal)
  ids ← names_colon
  nature ← one name_of
  one (mark m.Semicolon)
  pure (declare.Terminal place ids nature)

unfoldable pub constant_end : List Name → SubtypeIndication → Expr → Parser (List Name × SubtypeIndication × Expr)
constant_end ids type value = one (mark m.Semicolon) >> pure (ids, type, value)

unfoldable pub terminal_port : Parser Port
terminal_port = do
  place ← one (word w.Terminal)
  ids ← names_colon
  nature ← one name_of
  pure (port.Terminal place ids nature)

module _ (limit n : ℕ) where
  -- ---- generics and ports

  unfoldable pub generic : Parser Generic
  generic = do
    place ← word_place w.Constant
    ids ← names_colon
    mode ← word_said w.In
    type ← indication limit n
    value ← default limit n
    pure (record { constant = place; names = ids; mode_in = mode; indication = type; default = value })

  unfoldable pub signal_port : Option Place → Parser Port
  signal_port place = do
    ids ← names_colon
    how ← mode
    type ← indication limit n
    value ← default limit n
    pure (port.Signal place ids how type value)

  unfoldable pub quantity_port : Parser Port
  quantity_port = do
    place ← one (word w.Quantity)
    ids ← names_colon
    how ← mode
    type ← indication limit n
    pure (port.Quantity place ids how type)

  unfoldable pub port_declaration : Parser Port
  port_declaration = choose (at (word w.Terminal)) terminal_port
      (choose (at (word w.Quantity)) quantity_port
      (word_place w.Signal >>= signal_port))

  -- ---- declarations of an architecture

  unfoldable pub signal_declaration : Parser Declaration
  signal_declaration = do
    place ← one (word w.Signal)
    ids ← names_colon
    type ← indication limit n
    value ← default limit n
    one (mark m.Semicolon)
    pure (declare.Signal place ids type value)

  unfoldable pub constant_parts : Parser (List Name × SubtypeIndication × Expr)
  constant_parts = do
    ids ← names_colon
    type ← indication limit n
    one (mark m.Assign)
    value ← expression limit n
    constant_end ids type value

  unfoldable pub constant_declaration : Parser Declaration
  constant_declaration = one (word w.Constant) >>= (λ place. constant_parts >>= (λ x. pure (declare.Constant place x.0 x.1 x.2)))

  unfoldable pub free_quantity : Place → List Name → Parser Declaration
  free_quantity place ids = do
    one (mark m.Colon)
    type ← indication limit n
    value ← default limit n
    one (mark m.Semicolon)
    pure (declare.Quantity place ids type value)

  unfoldable pub quantity_declaration : Parser Declaration
  quantity_declaration = do
    place ← one (word w.Quantity)
    ids ← names
    choose (at (mark m.Colon)) (free_quantity place ids) (choose (at (word w.Across)) (across_branch place ids) (through_branch place ids))

  unfoldable pub enumerated : Parser (List Name)
  enumerated = do
    terminal (allows n) 0 (mark m.LeftParen)
    literals ← names
    one (mark m.RightParen)
    pure literals

  unfoldable pub enumeration_declaration : Parser Declaration
  enumeration_declaration = do
    place ← one (word w.Type)
    name ← one name_of
    one (word w.Is)
    literals ← enumerated
    one (mark m.Semicolon)
    pure (declare.Enumeration place name literals)

  unfoldable pub subtype_declaration : Parser Declaration
  subtype_declaration = do
    place ← one (word w.Subtype)
    name ← one name_of
    one (word w.Is)
    type ← indication limit n
    one (mark m.Semicolon)
    pure (declare.Subtype place name type)

  unfoldable pub declaration : Parser Declaration
  declaration = choose (at (word w.Signal)) signal_declaration
      (choose (at (word w.Constant)) constant_declaration
      (choose (at (word w.Terminal)) terminal_declaration
      (choose (at (word w.Quantity)) quantity_declaration
      (choose (at (word w.Nature)) nature_declaration
      (choose (at (word w.Type)) enumeration_declaration
      subtype_declaration)))))

  -- ---- declarations of a process

  unfoldable pub variable_declaration : Parser ProcessDeclaration
  variable_declaration = do
    place ← one (word w.Variable)
    ids ← names_colon
    type ← indication limit n
    value ← default limit n
    one (mark m.Semicolon)
    pure (local.Variable place ids type value)

  unfoldable pub local_constant : Parser ProcessDeclaration
  local_constant = one (word w.Constant) >>= (λ place. constant_parts >>= (λ x. pure (local.Constant place x.0 x.1 x.2)))

  unfoldable pub process_declaration : Parser ProcessDeclaration
  process_declaration = choose (at (word w.Variable)) variable_declaration local_constant
