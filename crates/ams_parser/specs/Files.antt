-- The rules of architectures and design files as functions that read, which the code computes.
use Rattle.std.specs.Prelude.{ℕ, List, [], Option, Some, None}
use Rattle.ams_token.specs.declared.token.Token.{Token}
use Rattle.ams_token.specs.declared.token.TokenKind.{TokenKind}
use Rattle.ams_token.specs.declared.token.TokenKind.TheVariants as kind
use Rattle.ams_token.specs.declared.word.Word.TheVariants as w
use Rattle.ams_tree.specs.declared.expression.Name.{Name}
use Rattle.ams_tree.specs.declared.declaration.Declaration.{Declaration}
use Rattle.ams_tree.specs.declared.concurrent.Concurrent.{Concurrent}
use Rattle.ams_tree.specs.declared.design.DesignUnit.{DesignUnit}
use Rattle.ams_tree.specs.declared.design.DesignUnit.TheVariants as unit
use Rattle.ams_tree.specs.declared.design.DesignFile.{DesignFile}
use Rattle.ams_tree.specs.Terminals.{word, name_of}
use Rattle.ams_tree.specs.Expressions.{last}
use Rattle.parse_steps.specs.Reading.{Parser, pure, one, ◌>>=◌, ◌>>◌, at, choose, turns, repeated}
use Rattle.parse_parts.specs.Parsing.{name_after}
use Rattle.parse_decl.specs.Parsing.{declaration}
use Rattle.parse_decl.specs.Firsts.{begins_declaration}
use Rattle.parse_conc.specs.Parsing.{concurrent, begins_concurrent}
use Rattle.ams_parser.specs.Parsing.{unit_end, library_clause, use_clause, entity}

abbrev pub unit_in : TokenKind → Option (Unit {0})
unit_in (kind.Word w.Library) = Some tt
unit_in (kind.Word w.Use) = Some tt
unit_in (kind.Word w.Entity) = Some tt
unit_in (kind.Word w.Architecture) = Some tt
unit_in _ = None

-- a token that begins a design unit
unfoldable pub begins_unit : Token → Option (Unit {0})
begins_unit t = unit_in t.kind

unfoldable pub architecture_head : Parser (Name × Name)
architecture_head = do
  one (word w.Architecture)
  id ← one name_of
  of ← name_after w.Of
  one (word w.Is)
  pure (id, of)

-- with this many operators, calls and attributes, and levels, at most
module _ (limit n : ℕ) where
  abbrev pub declaration_turns : ℕ → List Declaration → Parser (List Declaration)
  declaration_turns = turns (at begins_declaration) last (declaration limit n)

  unfoldable pub declarations : Parser (List Declaration)
  declarations = repeated (at begins_declaration) last (declaration limit n) []

  abbrev pub statement_turns : ℕ → List Concurrent → Parser (List Concurrent)
  statement_turns = turns (at begins_concurrent) last (concurrent limit n)

  unfoldable pub statements : Parser (List Concurrent)
  statements = repeated (at begins_concurrent) last (concurrent limit n) []

  unfoldable pub architecture : Parser DesignUnit
  architecture = do
    head ← architecture_head
    xs ← declarations
    one (word w.Begin)
    ys ← statements
    ends ← unit_end w.Architecture
    pure (unit.Architecture (record { name = head.0; entity = head.1; declarations = xs; statements = ys; word_end = ends.0; end = ends.1 }))

  unfoldable pub design_unit : Parser DesignUnit
  design_unit = choose (at (word w.Library)) library_clause
      (choose (at (word w.Use)) use_clause
      (choose (at (word w.Entity)) (entity limit n)
      architecture))

  abbrev pub unit_turns : ℕ → List DesignUnit → Parser (List DesignUnit)
  unit_turns = turns (at begins_unit) last design_unit

  unfoldable pub units : Parser (List DesignUnit)
  units = repeated (at begins_unit) last design_unit []

  unfoldable pub design_file : Parser DesignFile
  design_file = units >>= (λ all. pure (record { units = all }))
