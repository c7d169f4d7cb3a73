-- The rules of context clauses and entities as functions that read, which the code computes.
use Rattle.std.specs.Prelude.{ℕ, zero, suc, Bool, true, false, List, [], ◌∷◌, length, Option}
use Rattle.ams_token.specs.declared.word.Word.{Word}
use Rattle.ams_token.specs.declared.word.Word.TheVariants as w
use Rattle.ams_token.specs.declared.mark.Mark.TheVariants as m
use Rattle.ams_tree.specs.declared.expression.Name.{Name}
use Rattle.ams_tree.specs.declared.declaration.Generic.{Generic}
use Rattle.ams_tree.specs.declared.declaration.Port.{Port}
use Rattle.ams_tree.specs.declared.design.Path.{Path}
use Rattle.ams_tree.specs.declared.design.DesignUnit.{DesignUnit}
use Rattle.ams_tree.specs.declared.design.DesignUnit.TheVariants as unit
use Rattle.ams_tree.specs.Terminals.{mark, word, name_of}
use Rattle.ams_tree.specs.Expressions.{last, allows, below}
use Rattle.parse_steps.specs.Reading.{Parser, pure, terminal, one, ◌>>=◌, ◌>>◌, at, choose, optional, turns, repeated}
use Rattle.parse_parts.specs.Parsing.{names}
use Rattle.parse_decl.specs.Parsing.{word_said, generic, port_declaration}

-- ---- selected names

unfoldable pub prefix_name : Parser Name
prefix_name = one name_of >>= (λ name. one (mark m.Point) >> pure name)

unfoldable pub all_of : List Name → Parser Path
all_of front = one (word w.All) >> pure (record { names = front; all = true })

unfoldable pub path_end : List Name → Parser Path
path_end front = choose (at name_of) (one name_of >>= (λ name. pure (record { names = last front name; all = false }))) (all_of front)

-- a point behind a name decides whether the name is the last one
abbrev pub path_turns : ℕ → List Name → Parser Path
path_turns zero front = path_end front
path_turns (suc k) front = choose (at name_of)
    (one name_of >>= (λ name. choose (at (mark m.Point)) (one (mark m.Point) >> path_turns k (last front name)) (pure (record { names = last front name; all = false }))))
    (all_of front)

unfoldable pub rest_of_path : Name → Parser Path
rest_of_path first = λ s. path_turns (length s.rest) (first ∷ []) s

unfoldable pub path : Parser Path
path = prefix_name >>= rest_of_path

-- ---- context clauses

unfoldable pub some_name : Parser (Option Name)
some_name = optional (at name_of) (one name_of)

unfoldable pub unit_end : Word → Parser (Bool × Option Name)
unit_end x = do
  one (word w.End)
  said ← word_said x
  again ← some_name
  one (mark m.Semicolon)
  pure (said, again)

unfoldable pub library_clause : Parser DesignUnit
library_clause = one (word w.Library) >> (names >>= (λ ids. one (mark m.Semicolon) >> pure (unit.Library ids)))

abbrev pub use_turns : ℕ → List Path → Parser (List Path)
use_turns = turns (at (mark m.Comma)) last (one (mark m.Comma) >> path)

unfoldable pub more_paths : Path → Parser (List Path)
more_paths first = repeated (at (mark m.Comma)) last (one (mark m.Comma) >> path) (first ∷ [])

unfoldable pub use_clause : Parser DesignUnit
use_clause = do
  one (word w.Use)
  first ← path
  all ← more_paths first
  one (mark m.Semicolon)
  pure (unit.Use all)

-- ---- entities, with this many operators, calls and attributes, and levels, at most
module _ (limit n : ℕ) where
  abbrev pub generic_turns : ℕ → List Generic → Parser (List Generic)
  generic_turns = turns (at (mark m.Semicolon)) last (one (mark m.Semicolon) >> generic limit n)

  unfoldable pub more_generics : Generic → Parser (List Generic)
  more_generics first = repeated (at (mark m.Semicolon)) last (one (mark m.Semicolon) >> generic limit n) (first ∷ [])

  unfoldable pub generics : Parser (List Generic)
  generics = generic limit n >>= more_generics

  abbrev pub port_turns : ℕ → List Port → Parser (List Port)
  port_turns = turns (at (mark m.Semicolon)) last (one (mark m.Semicolon) >> port_declaration limit n)

  unfoldable pub more_ports : Port → Parser (List Port)
  more_ports first = repeated (at (mark m.Semicolon)) last (one (mark m.Semicolon) >> port_declaration limit n) (first ∷ [])

  unfoldable pub ports : Parser (List Port)
  ports = port_declaration limit n >>= more_ports

unfoldable pub entity_head : Parser Name
entity_head = do
  one (word w.Entity)
  id ← one name_of
  one (word w.Is)
  pure id

module _ (limit n : ℕ) where
  unfoldable pub generic_clause : Parser (List Generic)
  generic_clause = do
    one (word w.Generic)
    terminal (allows n) 0 (mark m.LeftParen)
    all ← generics limit (below n)
    one (mark m.RightParen)
    one (mark m.Semicolon)
    pure all

  unfoldable pub some_generics : Parser (List Generic)
  some_generics = choose (at (word w.Generic)) generic_clause (pure [])

  unfoldable pub port_clause : Parser (List Port)
  port_clause = do
    one (word w.Port)
    terminal (allows n) 0 (mark m.LeftParen)
    all ← ports limit (below n)
    one (mark m.RightParen)
    one (mark m.Semicolon)
    pure all

  unfoldable pub some_ports : Parser (List Port)
  some_ports = choose (at (word w.Port)) port_clause (pure [])

  unfoldable pub entity : Parser DesignUnit
  entity = do
    id ← entity_head
    xs ← some_generics
    ys ← some_ports
    ends ← unit_end w.Entity
    pure (unit.Entity (record { name = id; generics = xs; ports = ys; word_end = ends.0; end = ends.1 }))
