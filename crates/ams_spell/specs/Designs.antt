-- The kinds of the tokens that spell a design file.
use Rattle.std.specs.Prelude.{Bool, true, false, List, [], ◌∷◌, Option, map}
use Rattle.ams_token.specs.declared.token.TokenKind.{TokenKind}
use Rattle.ams_token.specs.declared.token.TokenKind.TheVariants as kind
use Rattle.ams_token.specs.declared.word.Word.{Word}
use Rattle.ams_token.specs.declared.word.Word.TheVariants as w
use Rattle.ams_token.specs.declared.mark.Mark.TheVariants as m
use Rattle.ams_tree.specs.declared.expression.Name.{Name}
use Rattle.ams_tree.specs.declared.design.Path.{Path}
use Rattle.ams_tree.specs.declared.design.Entity.{Entity}
use Rattle.ams_tree.specs.declared.design.Architecture.{Architecture}
use Rattle.ams_tree.specs.declared.design.DesignUnit.{DesignUnit}
use Rattle.ams_tree.specs.declared.design.DesignUnit.TheVariants as unit
use Rattle.ams_tree.specs.declared.design.DesignFile.{DesignFile}
use Rattle.expr_spell.specs.Kinds.{optional, joined, separated, name}
use Rattle.ams_spell.specs.Parts.{◌⊕◌, mark, word, present, names}
use Rattle.ams_spell.specs.Declarations.{generic_kinds, port_kinds, declaration_kinds}
use Rattle.ams_spell.specs.Concurrents.{concurrent_kinds}

-- a name with a point behind it
abbrev pub prefix_kinds : Name → List TokenKind
prefix_kinds x = name x ⊕ mark m.Point

-- names with points between them, or with one behind each of them and "all" behind the last
abbrev pub path_of : Bool → List Name → List TokenKind
path_of true xs = joined (map prefix_kinds xs) ⊕ word w.All
path_of false xs = separated (kind.Mark m.Point) (map name xs)

abbrev pub path_kinds : Path → List TokenKind
path_kinds x = path_of x.all x.names

-- what an entity has in parentheses behind a word, where there is anything
abbrev pub clause_kinds : Word → List (List TokenKind) → List TokenKind
clause_kinds x [] = []
clause_kinds x (y ∷ ys) = word x ⊕ mark m.LeftParen ⊕ separated (kind.Mark m.Semicolon) (y ∷ ys) ⊕ mark m.RightParen ⊕ mark m.Semicolon

abbrev pub end_kinds : Word → Bool → Option Name → List TokenKind
end_kinds x said again = word w.End ⊕ present (word x) said ⊕ optional name again ⊕ mark m.Semicolon

abbrev pub entity_kinds : Entity → List TokenKind
entity_kinds x =
    word w.Entity ⊕ name x.name ⊕ word w.Is ⊕ clause_kinds w.Generic (map generic_kinds x.generics) ⊕ clause_kinds w.Port (map port_kinds x.ports)
    ⊕ end_kinds w.Entity x.word_end x.end

abbrev pub architecture_kinds : Architecture → List TokenKind
architecture_kinds x =
    word w.Architecture ⊕ name x.name ⊕ word w.Of ⊕ name x.entity ⊕ word w.Is ⊕ joined (map declaration_kinds x.declarations) ⊕ word w.Begin
    ⊕ joined (map concurrent_kinds x.statements) ⊕ end_kinds w.Architecture x.word_end x.end

abbrev pub unit_kinds : DesignUnit → List TokenKind
unit_kinds (unit.Library ids) = word w.Library ⊕ names ids ⊕ mark m.Semicolon
unit_kinds (unit.Use all) = word w.Use ⊕ separated (kind.Mark m.Comma) (map path_kinds all) ⊕ mark m.Semicolon
unit_kinds (unit.Entity x) = entity_kinds x
unit_kinds (unit.Architecture x) = architecture_kinds x

abbrev pub file_kinds : DesignFile → List TokenKind
file_kinds x = joined (map unit_kinds x.units)
