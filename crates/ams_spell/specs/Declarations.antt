-- The kinds of the tokens that spell declarations.
use Rattle.std.specs.Prelude.{List}
use Rattle.ams_token.specs.declared.token.TokenKind.{TokenKind}
use Rattle.ams_token.specs.declared.word.Word.TheVariants as w
use Rattle.ams_token.specs.declared.mark.Mark.TheVariants as m
use Rattle.ams_tree.specs.declared.expression.Name.{Name}
use Rattle.ams_tree.specs.declared.expression.Expr.{Expr}
use Rattle.ams_tree.specs.declared.declaration.Direction.{Direction}
use Rattle.ams_tree.specs.declared.declaration.Direction.TheVariants as direction
use Rattle.ams_tree.specs.declared.declaration.Mode.{Mode}
use Rattle.ams_tree.specs.declared.declaration.Mode.TheVariants as mode
use Rattle.ams_tree.specs.declared.declaration.Range.{Range}
use Rattle.ams_tree.specs.declared.declaration.Bounds.{Bounds}
use Rattle.ams_tree.specs.declared.declaration.SubtypeIndication.{SubtypeIndication}
use Rattle.ams_tree.specs.declared.declaration.Generic.{Generic}
use Rattle.ams_tree.specs.declared.declaration.Port.{Port}
use Rattle.ams_tree.specs.declared.declaration.Port.TheVariants as port
use Rattle.ams_tree.specs.declared.declaration.Declaration.{Declaration}
use Rattle.ams_tree.specs.declared.declaration.Declaration.TheVariants as declare
use Rattle.ams_tree.specs.declared.declaration.ProcessDeclaration.{ProcessDeclaration}
use Rattle.ams_tree.specs.declared.declaration.ProcessDeclaration.TheVariants as local
use Rattle.expr_spell.specs.Kinds.{optional, name}
use Rattle.expr_spell.specs.Spelling.{spelling}
use Rattle.ams_spell.specs.Parts.{◌⊕◌, mark, word, present, names}

abbrev pub direction_kinds : Direction → List TokenKind
direction_kinds direction.To = word w.To
direction_kinds direction.Downto = word w.Downto

abbrev pub mode_kinds : Mode → List TokenKind
mode_kinds mode.In = word w.In
mode_kinds mode.Out = word w.Out

abbrev pub range_kinds : Range → List TokenKind
range_kinds x = spelling x.left ⊕ direction_kinds x.direction ⊕ spelling x.right

abbrev pub bounds_kinds : Bounds → List TokenKind
bounds_kinds x = word w.Range ⊕ spelling x.low ⊕ word w.To ⊕ spelling x.high

abbrev pub index_kinds : Range → List TokenKind
index_kinds x = mark m.LeftParen ⊕ range_kinds x ⊕ mark m.RightParen

abbrev pub indication_kinds : SubtypeIndication → List TokenKind
indication_kinds x = name x.mark ⊕ optional index_kinds x.index ⊕ optional bounds_kinds x.bounds

abbrev pub default_kinds : Expr → List TokenKind
default_kinds x = mark m.Assign ⊕ spelling x

abbrev pub generic_kinds : Generic → List TokenKind
generic_kinds x =
    optional (λ _. word w.Constant) x.constant ⊕ names x.names ⊕ mark m.Colon ⊕ present (word w.In) x.mode_in ⊕ indication_kinds x.indication ⊕ optional default_kinds x.default

abbrev pub port_kinds : Port → List TokenKind
port_kinds (port.Signal place ids way type value) =
    optional (λ _. word w.Signal) place ⊕ names ids ⊕ mark m.Colon ⊕ optional mode_kinds way ⊕ indication_kinds type ⊕ optional default_kinds value
port_kinds (port.Terminal place ids nature) = word w.Terminal ⊕ names ids ⊕ mark m.Colon ⊕ name nature
port_kinds (port.Quantity place ids way type) = word w.Quantity ⊕ names ids ⊕ mark m.Colon ⊕ optional mode_kinds way ⊕ indication_kinds type

-- the through quantities of a branch that has across quantities
abbrev pub through_kinds : List Name → List TokenKind
through_kinds ids = names ids ⊕ word w.Through

-- the second terminal of a branch
abbrev pub to_kinds : Name → List TokenKind
to_kinds x = word w.To ⊕ name x

abbrev pub declaration_kinds : Declaration → List TokenKind
declaration_kinds (declare.Signal place ids type value) = word w.Signal ⊕ names ids ⊕ mark m.Colon ⊕ indication_kinds type ⊕ optional default_kinds value ⊕ mark m.Semicolon
declaration_kinds (declare.Constant place ids type value) = word w.Constant ⊕ names ids ⊕ mark m.Colon ⊕ indication_kinds type ⊕ mark m.Assign ⊕ spelling value ⊕ mark m.Semicolon
declaration_kinds (declare.Terminal place ids nature) = word w.Terminal ⊕ names ids ⊕ mark m.Colon ⊕ name nature ⊕ mark m.Semicolon
declaration_kinds (declare.Quantity place ids type value) = word w.Quantity ⊕ names ids ⊕ mark m.Colon ⊕ indication_kinds type ⊕ optional default_kinds value ⊕ mark m.Semicolon
declaration_kinds (declare.Across place across through from to) =
    word w.Quantity ⊕ names across ⊕ word w.Across ⊕ optional through_kinds through ⊕ name from ⊕ optional to_kinds to ⊕ mark m.Semicolon
declaration_kinds (declare.Through place ids from to) = word w.Quantity ⊕ names ids ⊕ word w.Through ⊕ name from ⊕ optional to_kinds to ⊕ mark m.Semicolon
declaration_kinds (declare.Nature place id across through reference) =
    word w.Nature ⊕ name id ⊕ word w.Is ⊕ name across ⊕ word w.Across ⊕ name through ⊕ word w.Through ⊕ name reference ⊕ word w.Reference ⊕ mark m.Semicolon
declaration_kinds (declare.Enumeration place id literals) = word w.Type ⊕ name id ⊕ word w.Is ⊕ mark m.LeftParen ⊕ names literals ⊕ mark m.RightParen ⊕ mark m.Semicolon
declaration_kinds (declare.Subtype place id type) = word w.Subtype ⊕ name id ⊕ word w.Is ⊕ indication_kinds type ⊕ mark m.Semicolon

abbrev pub process_declaration_kinds : ProcessDeclaration → List TokenKind
process_declaration_kinds (local.Variable place ids type value) = word w.Variable ⊕ names ids ⊕ mark m.Colon ⊕ indication_kinds type ⊕ optional default_kinds value ⊕ mark m.Semicolon
process_declaration_kinds (local.Constant place ids type value) = word w.Constant ⊕ names ids ⊕ mark m.Colon ⊕ indication_kinds type ⊕ mark m.Assign ⊕ spelling value ⊕ mark m.Semicolon
