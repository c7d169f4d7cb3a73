-- The kinds of the tokens that spell sequential statements.
use Rattle.std.specs.Prelude.{List, [], ◌∷◌, map}
use Rattle.ams_token.specs.declared.token.TokenKind.{TokenKind}
use Rattle.ams_token.specs.declared.token.TokenKind.TheVariants as kind
use Rattle.ams_token.specs.declared.word.Word.TheVariants as w
use Rattle.ams_token.specs.declared.mark.Mark.TheVariants as m
use Rattle.ams_tree.specs.declared.expression.Name.{Name}
use Rattle.ams_tree.specs.declared.expression.Expr.{Expr}
use Rattle.ams_tree.specs.declared.sequential.DelayMechanism.{DelayMechanism}
use Rattle.ams_tree.specs.declared.sequential.DelayMechanism.TheVariants as delay
use Rattle.ams_tree.specs.declared.sequential.WaveformElement.{WaveformElement}
use Rattle.ams_tree.specs.declared.sequential.Assertion.{Assertion}
use Rattle.ams_tree.specs.declared.sequential.Report.{Report}
use Rattle.ams_tree.specs.declared.sequential.BreakElement.{BreakElement}
use Rattle.ams_tree.specs.declared.sequential.Choice.{Choice}
use Rattle.ams_tree.specs.declared.sequential.Choice.TheVariants as choice
use Rattle.ams_tree.specs.declared.sequential.Iteration.{Iteration}
use Rattle.ams_tree.specs.declared.sequential.Iteration.TheVariants as iteration
use Rattle.ams_tree.specs.declared.sequential.Branch.{Branch}
use Rattle.ams_tree.specs.declared.sequential.Alternative.{Alternative}
use Rattle.ams_tree.specs.declared.sequential.Seq.{Seq}
use Rattle.ams_tree.specs.declared.sequential.Seq.TheOpen.{Branch-F, Alternative-F, Seq-F}
use Rattle.ams_tree.specs.declared.sequential.Seq.TheFolds.{fold-Branch, fold-Alternative, fold-Seq}
use Rattle.expr_spell.specs.Kinds.{optional, joined, separated, name}
use Rattle.expr_spell.specs.Spelling.{spelling}
use Rattle.ams_spell.specs.Parts.{◌⊕◌, mark, word, literal_kinds}
use Rattle.ams_spell.specs.Declarations.{range_kinds}

-- names with commas between them
abbrev pub name_list_kinds : List Expr → List TokenKind
name_list_kinds xs = separated (kind.Mark m.Comma) (map spelling xs)

-- the names behind "on", where there are any
abbrev pub on_kinds : List Expr → List TokenKind
on_kinds [] = []
on_kinds (x ∷ xs) = word w.On ⊕ name_list_kinds (x ∷ xs)

abbrev pub when_kinds : Expr → List TokenKind
when_kinds x = word w.When ⊕ spelling x

abbrev pub delay_kinds : DelayMechanism → List TokenKind
delay_kinds (delay.Transport place) = word w.Transport
delay_kinds (delay.Reject place x) = word w.Reject ⊕ spelling x ⊕ word w.Inertial
delay_kinds (delay.Inertial place) = word w.Inertial

abbrev pub element_kinds : WaveformElement → List TokenKind
element_kinds x = spelling x.value ⊕ optional (λ y. word w.After ⊕ spelling y) x.after

abbrev pub waveform_kinds : List WaveformElement → List TokenKind
waveform_kinds xs = separated (kind.Mark m.Comma) (map element_kinds xs)

abbrev pub severity_kinds : Name → List TokenKind
severity_kinds x = word w.Severity ⊕ name x

abbrev pub assertion_kinds : Assertion → List TokenKind
assertion_kinds x =
    word w.Assert ⊕ spelling x.condition ⊕ optional (λ y. word w.Report ⊕ literal_kinds y) x.text ⊕ optional severity_kinds x.severity ⊕ mark m.Semicolon

abbrev pub report_kinds : Report → List TokenKind
report_kinds x = word w.Report ⊕ literal_kinds x.text ⊕ optional severity_kinds x.severity ⊕ mark m.Semicolon

abbrev pub break_element_kinds : BreakElement → List TokenKind
break_element_kinds x = optional (λ y. word w.For ⊕ spelling y ⊕ word w.Use) x.selector ⊕ spelling x.quantity ⊕ mark m.Arrow ⊕ spelling x.value

abbrev pub break_kinds : List BreakElement → List TokenKind
break_kinds xs = separated (kind.Mark m.Comma) (map break_element_kinds xs)

abbrev pub choice_kinds : Choice → List TokenKind
choice_kinds (choice.Value x) = spelling x
choice_kinds (choice.Others place) = word w.Others

abbrev pub choices_kinds : List Choice → List TokenKind
choices_kinds xs = word w.When ⊕ separated (kind.Mark m.Bar) (map choice_kinds xs) ⊕ mark m.Arrow

abbrev pub iteration_kinds : Iteration → List TokenKind
iteration_kinds iteration.Endless = []
iteration_kinds (iteration.While x) = word w.While ⊕ spelling x
iteration_kinds (iteration.For id x) = word w.For ⊕ name id ⊕ word w.In ⊕ range_kinds x

-- ---- one level, with the kinds of each statement, branch and alternative in its place

abbrev pub branch_step : Branch-F (List TokenKind) (List TokenKind) (List TokenKind) → List TokenKind
branch_step x = spelling x.condition ⊕ word w.Then ⊕ joined x.body

abbrev pub alternative_step : Alternative-F (List TokenKind) (List TokenKind) (List TokenKind) → List TokenKind
alternative_step x = choices_kinds x.choices ⊕ joined x.body

abbrev pub statement_step : Seq-F (List TokenKind) (List TokenKind) (List TokenKind) → List TokenKind
statement_step (Seq-F.Signal target how wave) = name target ⊕ mark m.LessEqual ⊕ optional delay_kinds how ⊕ waveform_kinds wave ⊕ mark m.Semicolon
statement_step (Seq-F.Variable target x) = name target ⊕ mark m.Assign ⊕ spelling x ⊕ mark m.Semicolon
statement_step (Seq-F.If place all other) =
    word w.If ⊕ separated (kind.Word w.Elsif) all ⊕ optional (λ body. word w.Else ⊕ joined body) other ⊕ word w.End ⊕ word w.If ⊕ mark m.Semicolon
statement_step (Seq-F.Case place x all) = word w.Case ⊕ spelling x ⊕ word w.Is ⊕ joined all ⊕ word w.End ⊕ word w.Case ⊕ mark m.Semicolon
statement_step (Seq-F.Loop place how body) = iteration_kinds how ⊕ word w.Loop ⊕ joined body ⊕ word w.End ⊕ word w.Loop ⊕ mark m.Semicolon
statement_step (Seq-F.Exit place x) = word w.Exit ⊕ optional when_kinds x ⊕ mark m.Semicolon
statement_step (Seq-F.Next place x) = word w.Next ⊕ optional when_kinds x ⊕ mark m.Semicolon
statement_step (Seq-F.Wait place on until time) =
    word w.Wait ⊕ on_kinds on ⊕ optional (λ x. word w.Until ⊕ spelling x) until ⊕ optional (λ x. word w.For ⊕ spelling x) time ⊕ mark m.Semicolon
statement_step (Seq-F.Assert x) = assertion_kinds x
statement_step (Seq-F.Report place x) = report_kinds x
statement_step (Seq-F.Break place elements x) = word w.Break ⊕ break_kinds elements ⊕ optional when_kinds x ⊕ mark m.Semicolon
statement_step (Seq-F.Null place) = word w.Null ⊕ mark m.Semicolon

abbrev pub statement_kinds : Seq → List TokenKind
statement_kinds = fold-Seq (List TokenKind) (List TokenKind) (List TokenKind) statement_step alternative_step branch_step

abbrev pub branch_kinds : Branch → List TokenKind
branch_kinds = fold-Branch (List TokenKind) (List TokenKind) (List TokenKind) statement_step alternative_step branch_step

abbrev pub alternative_kinds : Alternative → List TokenKind
alternative_kinds = fold-Alternative (List TokenKind) (List TokenKind) (List TokenKind) statement_step alternative_step branch_step
