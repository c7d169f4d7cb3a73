-- The kinds of the tokens that spell concurrent and simultaneous statements.
use Rattle.std.specs.Prelude.{List, map}
use Rattle.ams_token.specs.declared.token.TokenKind.{TokenKind}
use Rattle.ams_token.specs.declared.token.TokenKind.TheVariants as kind
use Rattle.ams_token.specs.declared.word.Word.TheVariants as w
use Rattle.ams_token.specs.declared.mark.Mark.TheVariants as m
use Rattle.ams_tree.specs.declared.expression.Name.{Name}
use Rattle.ams_tree.specs.declared.expression.Expr.{Expr}
use Rattle.ams_tree.specs.declared.concurrent.Process.{Process}
use Rattle.ams_tree.specs.declared.concurrent.ConditionalWaveform.{ConditionalWaveform}
use Rattle.ams_tree.specs.declared.concurrent.Equation.{Equation}
use Rattle.ams_tree.specs.declared.concurrent.Association.{Association}
use Rattle.ams_tree.specs.declared.concurrent.Association.TheVariants as association
use Rattle.ams_tree.specs.declared.concurrent.Instance.{Instance}
use Rattle.ams_tree.specs.declared.concurrent.SimultaneousBranch.{SimultaneousBranch}
use Rattle.ams_tree.specs.declared.concurrent.SimultaneousAlternative.{SimultaneousAlternative}
use Rattle.ams_tree.specs.declared.concurrent.ConcurrentStatement.{ConcurrentStatement}
use Rattle.ams_tree.specs.declared.concurrent.ConcurrentStatement.TheVariants as conc
use Rattle.ams_tree.specs.declared.concurrent.Concurrent.{Concurrent}
use Rattle.expr_spell.specs.Kinds.{optional, joined, separated, name}
use Rattle.expr_spell.specs.Spelling.{spelling}
use Rattle.ams_spell.specs.Parts.{◌⊕◌, mark, word, present}
use Rattle.ams_spell.specs.Declarations.{process_declaration_kinds}
use Rattle.ams_spell.specs.Statements.{name_list_kinds, on_kinds, when_kinds, delay_kinds, waveform_kinds, assertion_kinds, break_kinds, choices_kinds, statement_kinds}

abbrev pub equation_kinds : Equation → List TokenKind
equation_kinds x = spelling x.left ⊕ mark m.DoubleEqual ⊕ spelling x.right ⊕ mark m.Semicolon

abbrev pub equations_kinds : List Equation → List TokenKind
equations_kinds xs = joined (map equation_kinds xs)

-- a waveform that holds under a condition, and the word behind which the next one stands
abbrev pub conditional_kinds : ConditionalWaveform → List TokenKind
conditional_kinds x = waveform_kinds x.elements ⊕ word w.When ⊕ spelling x.condition ⊕ word w.Else

-- the name that an association is for
abbrev pub formal_kinds : Name → List TokenKind
formal_kinds x = name x ⊕ mark m.Arrow

abbrev pub association_kinds : Association → List TokenKind
association_kinds (association.Actual formal x) = optional formal_kinds formal ⊕ spelling x
association_kinds (association.Open formal place) = optional formal_kinds formal ⊕ word w.Open

abbrev pub map_kinds : List Association → List TokenKind
map_kinds all = word w.Map ⊕ mark m.LeftParen ⊕ separated (kind.Mark m.Comma) (map association_kinds all) ⊕ mark m.RightParen

abbrev pub simultaneous_branch_kinds : SimultaneousBranch → List TokenKind
simultaneous_branch_kinds x = spelling x.condition ⊕ word w.Use ⊕ equations_kinds x.equations

abbrev pub simultaneous_alternative_kinds : SimultaneousAlternative → List TokenKind
simultaneous_alternative_kinds x = choices_kinds x.choices ⊕ equations_kinds x.equations

abbrev pub sensitivity_kinds : List Expr → List TokenKind
sensitivity_kinds xs = mark m.LeftParen ⊕ name_list_kinds xs ⊕ mark m.RightParen

abbrev pub process_kinds : Process → List TokenKind
process_kinds x =
    word w.Process ⊕ optional sensitivity_kinds x.sensitivity ⊕ present (word w.Is) x.word_is ⊕ joined (map process_declaration_kinds x.declarations) ⊕ word w.Begin
    ⊕ joined (map statement_kinds x.body) ⊕ word w.End ⊕ word w.Process ⊕ optional name x.end ⊕ mark m.Semicolon

abbrev pub instance_kinds : Instance → List TokenKind
instance_kinds x =
    word w.Entity ⊕ optional (λ y. name y ⊕ mark m.Point) x.library ⊕ name x.entity ⊕ optional (λ y. mark m.LeftParen ⊕ name y ⊕ mark m.RightParen) x.architecture
    ⊕ optional (λ all. word w.Generic ⊕ map_kinds all) x.generics ⊕ optional (λ all. word w.Port ⊕ map_kinds all) x.ports ⊕ mark m.Semicolon

abbrev pub concurrent_statement_kinds : ConcurrentStatement → List TokenKind
concurrent_statement_kinds (conc.Process x) = process_kinds x
concurrent_statement_kinds (conc.Assign target how waves wave x) =
    name target ⊕ mark m.LessEqual ⊕ optional delay_kinds how ⊕ joined (map conditional_kinds waves) ⊕ waveform_kinds wave ⊕ optional when_kinds x ⊕ mark m.Semicolon
concurrent_statement_kinds (conc.Assert x) = assertion_kinds x
concurrent_statement_kinds (conc.Break place elements on x) = word w.Break ⊕ break_kinds elements ⊕ on_kinds on ⊕ optional when_kinds x ⊕ mark m.Semicolon
concurrent_statement_kinds (conc.Equation x) = equation_kinds x
concurrent_statement_kinds (conc.Instance x) = instance_kinds x
concurrent_statement_kinds (conc.If place all other) =
    word w.If ⊕ separated (kind.Word w.Elsif) (map simultaneous_branch_kinds all) ⊕ optional (λ xs. word w.Else ⊕ equations_kinds xs) other ⊕ word w.End ⊕ word w.Use ⊕ mark m.Semicolon
concurrent_statement_kinds (conc.Case place x all) =
    word w.Case ⊕ spelling x ⊕ word w.Use ⊕ joined (map simultaneous_alternative_kinds all) ⊕ word w.End ⊕ word w.Case ⊕ mark m.Semicolon

-- a label
abbrev pub label_kinds : Name → List TokenKind
label_kinds x = name x ⊕ mark m.Colon

abbrev pub concurrent_kinds : Concurrent → List TokenKind
concurrent_kinds x = optional label_kinds x.label ⊕ concurrent_statement_kinds x.statement
