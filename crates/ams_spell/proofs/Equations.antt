-- The spelling of each kind of statement follows from those of its parts.
use Rattle.std.proofs.Common.{◌≡◌, List, map, Option, Some, None, sym, ◌∙◌, ap}
use Rattle.ams_token.specs.declared.token.Place.{Place}
use Rattle.ams_token.specs.declared.token.TokenKind.{TokenKind}
use Rattle.ams_token.specs.declared.token.TokenKind.TheVariants as kind
use Rattle.ams_token.specs.declared.word.Word.TheVariants as w
use Rattle.ams_token.specs.declared.mark.Mark.TheVariants as m
use Rattle.ams_tree.specs.declared.expression.Name.{Name}
use Rattle.ams_tree.specs.declared.expression.Expr.{Expr}
use Rattle.ams_tree.specs.declared.sequential.DelayMechanism.{DelayMechanism}
use Rattle.ams_tree.specs.declared.sequential.WaveformElement.{WaveformElement}
use Rattle.ams_tree.specs.declared.sequential.Assertion.{Assertion}
use Rattle.ams_tree.specs.declared.sequential.Report.{Report}
use Rattle.ams_tree.specs.declared.sequential.BreakElement.{BreakElement}
use Rattle.ams_tree.specs.declared.sequential.Choice.{Choice}
use Rattle.ams_tree.specs.declared.sequential.Iteration.{Iteration}
use Rattle.ams_tree.specs.declared.sequential.Branch.{Branch, roll-Branch}
use Rattle.ams_tree.specs.declared.sequential.Alternative.{Alternative, roll-Alternative}
use Rattle.ams_tree.specs.declared.sequential.Seq.{Seq}
use Rattle.ams_tree.specs.declared.sequential.Seq.TheVariants as seq
use Rattle.ams_tree.specs.declared.sequential.Seq.TheVariants.{rolls-Signal, rolls-Variable, rolls-If, rolls-Case, rolls-Loop, rolls-Exit, rolls-Next, rolls-Wait, rolls-Assert, rolls-Report, rolls-Break, rolls-Null}
use Rattle.ams_tree.specs.declared.sequential.Seq.TheOpen.{Seq-F}
use Rattle.ams_tree.specs.declared.sequential.Seq.TheFolds.{fold-roll-Branch, fold-roll-Alternative, fold-roll-Seq}
use Rattle.expr_spell.specs.Kinds.{optional, joined, separated, name}
use Rattle.expr_spell.specs.Spelling.{spelling}
use Rattle.ams_spell.specs.Parts.{◌⊕◌, mark, word}
use Rattle.ams_spell.specs.Statements.{on_kinds, when_kinds, delay_kinds, waveform_kinds, assertion_kinds, report_kinds, break_kinds, choices_kinds, iteration_kinds, branch_step, alternative_step, statement_step, statement_kinds, branch_kinds, alternative_kinds}

pub branch_spelling : (x : Expr) (body : List Seq) → branch_kinds (roll-Branch (record { condition = x; body = body })) ≡ spelling x ⊕ word w.Then ⊕ joined (map statement_kinds body)
branch_spelling x body = fold-roll-Branch (List TokenKind) (List TokenKind) (List TokenKind) statement_step alternative_step branch_step (record { condition = x; body = body })

pub alternative_spelling : (xs : List Choice) (body : List Seq) → alternative_kinds (roll-Alternative (record { choices = xs; body = body })) ≡ choices_kinds xs ⊕ joined (map statement_kinds body)
alternative_spelling xs body = fold-roll-Alternative (List TokenKind) (List TokenKind) (List TokenKind) statement_step alternative_step branch_step (record { choices = xs; body = body })

pub signal_spelling : (target : Name) (how : Option DelayMechanism) (wave : List WaveformElement) → statement_kinds (seq.Signal target how wave) ≡ name target ⊕ mark m.LessEqual ⊕ optional delay_kinds how ⊕ waveform_kinds wave ⊕ mark m.Semicolon
signal_spelling target how wave = ap statement_kinds (sym (rolls-Signal target how wave)) ∙ fold-roll-Seq (List TokenKind) (List TokenKind) (List TokenKind) statement_step alternative_step branch_step (Seq-F.Signal target how wave)

pub variable_spelling : (target : Name) (x : Expr) → statement_kinds (seq.Variable target x) ≡ name target ⊕ mark m.Assign ⊕ spelling x ⊕ mark m.Semicolon
variable_spelling target x = ap statement_kinds (sym (rolls-Variable target x)) ∙ fold-roll-Seq (List TokenKind) (List TokenKind) (List TokenKind) statement_step alternative_step branch_step (Seq-F.Variable target x)

pub case_spelling : (place : Place) (x : Expr) (all : List Alternative) → statement_kinds (seq.Case place x all) ≡ word w.Case ⊕ spelling x ⊕ word w.Is ⊕ joined (map alternative_kinds all) ⊕ word w.End ⊕ word w.Case ⊕ mark m.Semicolon
case_spelling place x all = ap statement_kinds (sym (rolls-Case place x all)) ∙ fold-roll-Seq (List TokenKind) (List TokenKind) (List TokenKind) statement_step alternative_step branch_step (Seq-F.Case place x all)

pub loop_spelling : (place : Place) (how : Iteration) (body : List Seq) → statement_kinds (seq.Loop place how body) ≡ iteration_kinds how ⊕ word w.Loop ⊕ joined (map statement_kinds body) ⊕ word w.End ⊕ word w.Loop ⊕ mark m.Semicolon
loop_spelling place how body = ap statement_kinds (sym (rolls-Loop place how body)) ∙ fold-roll-Seq (List TokenKind) (List TokenKind) (List TokenKind) statement_step alternative_step branch_step (Seq-F.Loop place how body)

pub exit_spelling : (place : Place) (x : Option Expr) → statement_kinds (seq.Exit place x) ≡ word w.Exit ⊕ optional when_kinds x ⊕ mark m.Semicolon
exit_spelling place x = ap statement_kinds (sym (rolls-Exit place x)) ∙ fold-roll-Seq (List TokenKind) (List TokenKind) (List TokenKind) statement_step alternative_step branch_step (Seq-F.Exit place x)

pub next_spelling : (place : Place) (x : Option Expr) → statement_kinds (seq.Next place x) ≡ word w.Next ⊕ optional when_kinds x ⊕ mark m.Semicolon
next_spelling place x = ap statement_kinds (sym (rolls-Next place x)) ∙ fold-roll-Seq (List TokenKind) (List TokenKind) (List TokenKind) statement_step alternative_step branch_step (Seq-F.Next place x)

pub wait_spelling : (place : Place) (on : List Expr) (until time : Option Expr) → statement_kinds (seq.Wait place on until time) ≡ word w.Wait ⊕ on_kinds on ⊕ optional (λ x. word w.Until ⊕ spelling x) until ⊕ optional (λ x. word w.For ⊕ spelling x) time ⊕ mark m.Semicolon
wait_spelling place on until time = ap statement_kinds (sym (rolls-Wait place on until time)) ∙ fold-roll-Seq (List TokenKind) (List TokenKind) (List TokenKind) statement_step alternative_step branch_step (Seq-F.Wait place on until time)

pub assert_spelling : (x : Assertion) → statement_kinds (seq.Assert x) ≡ assertion_kinds x
assert_spelling x = ap statement_kinds (sym (rolls-Assert x)) ∙ fold-roll-Seq (List TokenKind) (List TokenKind) (List TokenKind) statement_step alternative_step branch_step (Seq-F.Assert x)

pub report_spelling : (place : Place) (x : Report) → statement_kinds (seq.Report place x) ≡ report_kinds x
report_spelling place x = ap statement_kinds (sym (rolls-Report place x)) ∙ fold-roll-Seq (List TokenKind) (List TokenKind) (List TokenKind) statement_step alternative_step branch_step (Seq-F.Report place x)

pub break_spelling : (place : Place) (elements : List BreakElement) (x : Option Expr) → statement_kinds (seq.Break place elements x) ≡ word w.Break ⊕ break_kinds elements ⊕ optional when_kinds x ⊕ mark m.Semicolon
break_spelling place elements x = ap statement_kinds (sym (rolls-Break place elements x)) ∙ fold-roll-Seq (List TokenKind) (List TokenKind) (List TokenKind) statement_step alternative_step branch_step (Seq-F.Break place elements x)

pub null_spelling : (place : Place) → statement_kinds (seq.Null place) ≡ word w.Null ⊕ mark m.Semicolon
null_spelling place = ap statement_kinds (sym (rolls-Null place)) ∙ fold-roll-Seq (List TokenKind) (List TokenKind) (List TokenKind) statement_step alternative_step branch_step (Seq-F.Null place)

pub if_spelling : (place : Place) (all : List Branch) (other : Option (List Seq)) → statement_kinds (seq.If place all other)
    ≡ word w.If ⊕ separated (kind.Word w.Elsif) (map branch_kinds all) ⊕ optional (λ body. word w.Else ⊕ joined (map statement_kinds body)) other ⊕ word w.End ⊕ word w.If ⊕ mark m.Semicolon
if_spelling place all None = ap statement_kinds (sym (rolls-If place all None)) ∙ fold-roll-Seq (List TokenKind) (List TokenKind) (List TokenKind) statement_step alternative_step branch_step (Seq-F.If place all None)
if_spelling place all (Some body) = ap statement_kinds (sym (rolls-If place all (Some body))) ∙ fold-roll-Seq (List TokenKind) (List TokenKind) (List TokenKind) statement_step alternative_step branch_step (Seq-F.If place all (Some body))
