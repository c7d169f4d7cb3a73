-- The grammar of a design file (IEEE 1076, as far as the profile has it).
use Rattle.std.specs.Prelude.{ℕ, Bool, true, false, List, [], ◌∷◌, Option}
use Rattle.ams_token.specs.declared.word.Word.{Word}
use Rattle.ams_token.specs.declared.word.Word.TheVariants as w
use Rattle.ams_token.specs.declared.mark.Mark.TheVariants as m
use Rattle.ams_tree.specs.declared.expression.Name.{Name}
use Rattle.ams_tree.specs.declared.declaration.Generic.{Generic}
use Rattle.ams_tree.specs.declared.declaration.Port.{Port}
use Rattle.ams_tree.specs.declared.design.Path.{Path}
use Rattle.ams_tree.specs.declared.design.DesignUnit.{DesignUnit}
use Rattle.ams_tree.specs.declared.design.DesignUnit.TheVariants as unit
use Rattle.ams_tree.specs.declared.design.DesignFile.{DesignFile}
use Rattle.ams_tree.specs.Rule.{Rule, pure, terminal, one, optional, present, ◌>>=◌, ◌>>◌, ◌<|>◌, repeated}
use Rattle.ams_tree.specs.Terminals.{mark, word, name_of}
use Rattle.ams_tree.specs.Expressions.{last, allows, below}
use Rattle.ams_tree.specs.Declarations.{names, name_after, generic, port_declaration, declaration}
use Rattle.ams_tree.specs.Concurrents.{concurrent}

-- id "."
unfoldable pub prefix_name : Rule Name
prefix_name = one name_of >>= (λ name. one (mark m.Point) >> pure name)

-- id "." { id "." } ( id | "all" )
unfoldable pub path : Rule Path
path = do
  first ← prefix_name
  front ← repeated last prefix_name (first ∷ [])
  (one name_of >>= (λ name. pure (record { names = last front name; all = false })))
      <|> (one (word w.All) >> pure (record { names = front; all = true }))

-- "end" [ this word ] [ id ] ";"
unfoldable pub unit_end : Word → Rule (Bool × Option Name)
unit_end x = do
  one (word w.End)
  said ← present (one (word x))
  again ← optional (one name_of)
  one (mark m.Semicolon)
  pure (said, again)

-- "library" ids ";"
unfoldable pub library_clause : Rule DesignUnit
library_clause = one (word w.Library) >> (names >>= (λ ids. one (mark m.Semicolon) >> pure (unit.Library ids)))

-- "use" path { "," path } ";"
unfoldable pub use_clause : Rule DesignUnit
use_clause = do
  one (word w.Use)
  first ← path
  all ← repeated last (one (mark m.Comma) >> path) (first ∷ [])
  one (mark m.Semicolon)
  pure (unit.Use all)

-- with this many operators, calls and attributes, and levels, at most
module _ (limit depth : ℕ) where
  -- gen { ";" gen }
  unfoldable pub generics : Rule (List Generic)
  generics = do
    first ← generic limit depth
    repeated last (one (mark m.Semicolon) >> generic limit depth) (first ∷ [])

  -- port { ";" port }
  unfoldable pub ports : Rule (List Port)
  ports = do
    first ← port_declaration limit depth
    repeated last (one (mark m.Semicolon) >> port_declaration limit depth) (first ∷ [])

module _ (limit depth : ℕ) where
  -- "generic" "(" gen { ";" gen } ")" ";"
  unfoldable pub generic_clause : Rule (List Generic)
  generic_clause = do
    one (word w.Generic)
    terminal (allows depth) 0 (mark m.LeftParen)
    all ← generics limit (below depth)
    one (mark m.RightParen)
    one (mark m.Semicolon)
    pure all

  -- "port" "(" port { ";" port } ")" ";"
  unfoldable pub port_clause : Rule (List Port)
  port_clause = do
    one (word w.Port)
    terminal (allows depth) 0 (mark m.LeftParen)
    all ← ports limit (below depth)
    one (mark m.RightParen)
    one (mark m.Semicolon)
    pure all

  -- "entity" id "is"
  unfoldable pub entity_head : Rule Name
  entity_head = do
    one (word w.Entity)
    id ← one name_of
    one (word w.Is)
    pure id

  -- "entity" id "is" [ generics ] [ ports ] "end" [ "entity" ] [ id ] ";"
  unfoldable pub entity : Rule DesignUnit
  entity = do
    id ← entity_head
    xs ← generic_clause <|> pure []
    ys ← port_clause <|> pure []
    ends ← unit_end w.Entity
    pure (unit.Entity (record { name = id; generics = xs; ports = ys; word_end = ends.0; end = ends.1 }))

  -- "architecture" id "of" id "is"
  unfoldable pub architecture_head : Rule (Name × Name)
  architecture_head = do
    one (word w.Architecture)
    id ← one name_of
    of ← name_after w.Of
    one (word w.Is)
    pure (id, of)

  -- "architecture" id "of" id "is" { decl } "begin" { conc } "end" [ "architecture" ] [ id ] ";"
  unfoldable pub architecture : Rule DesignUnit
  architecture = do
    head ← architecture_head
    xs ← repeated last (declaration limit depth) []
    one (word w.Begin)
    ys ← repeated last (concurrent limit depth) []
    ends ← unit_end w.Architecture
    pure (unit.Architecture (record { name = head.0; entity = head.1; declarations = xs; statements = ys; word_end = ends.0; end = ends.1 }))

  -- context | entity | architecture
  unfoldable pub design_unit : Rule DesignUnit
  design_unit = library_clause <|> (use_clause <|> (entity <|> architecture))

  -- { context | entity | architecture }
  unfoldable pub design_file : Rule DesignFile
  design_file = repeated last design_unit [] >>= (λ all. pure (record { units = all }))
