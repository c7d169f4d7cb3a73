-- How a case statement is read follows from how its alternatives are.
use Rattle.std.proofs.Common.{◌≡◌, ◌∙◌, ℕ, List, map, ap, sym}
use Rattle.ams_token.specs.declared.token.Place.{Place}
use Rattle.ams_tree.specs.declared.expression.Expr.{Expr}
use Rattle.ams_tree.specs.declared.sequential.Alternative.{Alternative}
use Rattle.ams_tree.specs.declared.sequential.Seq.TheVariants as seq
use Rattle.ams_tree.specs.declared.sequential.Seq.TheVariants.{rolls-Case}
use Rattle.ams_tree.specs.declared.sequential.Seq.TheOpen.{Seq-F}
use Rattle.ams_tree.specs.declared.sequential.Seq.TheFolds.{fold-roll-Seq}
use Rattle.flat_expr.specs.declared.statement.Statement.{Statement}
use Rattle.name_scope.specs.declared.scope.Scope.{Scope}
use Rattle.unit_meaning.specs.Settings.{Setting}
use Rattle.unit_meaning.specs.Sequential as spec
use Rattle.unit_meaning.specs.Sequential.{Reads, BranchReads, CaseReads, seq_step, branch_step, alternative_step}
use Rattle.unit_meaning.specs.declared.draft.Draft.{Draft}
use Rattle.unit_meaning.specs.declared.draft.Spot.{Spot}
use Rattle.seq_types.specs.Parts.{alternative_of}

pub case_read : (w : Setting) (place : Place) (x : Expr) (all : List Alternative) (scope : Scope) (spot : Spot) (i : ℕ) (d : Draft) → spec.statement_of w (seq.Case place x all) scope spot i d ≡ spec.whole place (spec.case_statement w x (map (alternative_of w) all) scope spot i d)
case_read w place x all scope spot i d = ap (λ (f : Reads Statement). f scope spot i d) (ap (spec.statement_of w) (sym (rolls-Case place x all)) ∙ fold-roll-Seq (Reads Statement) CaseReads BranchReads (seq_step w) (alternative_step w) (branch_step w) (Seq-F.Case place x all))
