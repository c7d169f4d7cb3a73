-- Statements that hold others.
use Rattle.std.specs.Prelude.{◌≡◌, ℕ, Bool, ◌&&◌, not, List, [], length, drop, Option}
use Rattle.ams_tree.specs.declared.declaration.Range.{Range}
use Rattle.ams_tree.specs.declared.sequential.Alternative.{Alternative}
use Rattle.ams_tree.specs.declared.sequential.Branch.{Branch}
use Rattle.ams_tree.specs.declared.sequential.Seq.TheFolds.{fold-Alternative, fold-Branch}
use Rattle.ams_value.specs.declared.value_type.ValueType.TheVariants as t
use Rattle.flat_expr.specs.declared.expr.FlatExpr.{FlatExpr}
use Rattle.flat_expr.specs.declared.statement.Alternative.{Alternative as Made}
use Rattle.flat_expr.specs.declared.statement.Branch.{Branch as MadeBranch}
use Rattle.flat_expr.specs.declared.statement.Statement.{Statement}
use Rattle.name_scope.specs.declared.thing.Kind.TheVariants.{Of}
use Rattle.elab_meaning.specs.declared.fault.Notes.{Notes}
use Rattle.unit_meaning.specs.declared.draft.Draft.{Draft}
use Rattle.unit_meaning.specs.Settings.{Setting, running, must_be, paired}
use Rattle.unit_meaning.specs.declared.draft.Seen.{Seen}
use Rattle.unit_meaning.specs.declared.draft.Spot.{Spot}
use Rattle.name_scope.specs.declared.scope.Scope.{Scope}
use Rattle.elab_meaning.specs.declared.part.Part.{Part}
use Rattle.elab_meaning.specs.declared.part.Part.TheVariants.{Kept}
use Rattle.elab_meaning.specs.Parts.{both}
use Rattle.unit_meaning.specs.Sequential.{Reads, BranchReads, CaseReads, seq_step, branch_step, alternative_step, body, branches, way_to, made_if}

-- how a branch of an if is read, and an alternative of a case
abbrev pub branch_of : Setting → Branch → BranchReads
branch_of w = fold-Branch (Reads Statement) CaseReads BranchReads (seq_step w) (alternative_step w) (branch_step w)

abbrev pub alternative_of : Setting → Alternative → CaseReads
alternative_of w = fold-Alternative (Reads Statement) CaseReads BranchReads (seq_step w) (alternative_step w) (branch_step w)

-- an if without an else, whose faults of its own aren't noted yet
abbrev pub if_alone : List BranchReads → Reads Statement
if_alone all scope spot i d =
    let first = branches all scope spot i 0 d in
    (first.0, both made_if first.1 (Kept []))

-- the else of an if, behind its branches
abbrev pub else_parts : List BranchReads → Part (List MadeBranch) → List (Reads Statement) → Reads Statement
else_parts all first last scope spot i d =
    let rest = body last scope (way_to spot i (length all)) 0 d in
    (rest.0, both made_if first rest.1)

-- the bounds of a loop's parameter
abbrev pub for_bounds : Setting → Scope → Range → Notes → Notes × Part (FlatExpr × FlatExpr)
for_bounds w scope range n =
    let left = must_be w scope running (Of t.Integer) range.left n in
    let right = must_be w scope running (Of t.Integer) range.right left.0 in
    (right.0, both paired left.1 right.1)

-- an alternative, with the choices behind the first ones
abbrev pub alternative_since : ℕ → Bool → Seen → Bool → List Statement → Part Made
alternative_since first had_others now fine all = Kept (record { choices = drop first now.values; others = now.others && not had_others; body = all })
