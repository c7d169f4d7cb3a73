-- Reading statements only adds to what is read of a process.
use Rattle.std.specs.Prelude.{◌≡◌, ℕ, pos, true, List}
use Rattle.std.specs.List.{All}
use Rattle.ams_tree.specs.declared.sequential.Alternative.{Alternative as WrittenAlternative}
use Rattle.ams_tree.specs.declared.sequential.Branch.{Branch as WrittenBranch}
use Rattle.ams_tree.specs.declared.sequential.Seq.{Seq}
use Rattle.ams_tree.specs.declared.sequential.Seq.TheFolds.{fold-Alternative, fold-Branch}
use Rattle.ams_value.specs.declared.val.Val.TheVariants as val
use Rattle.ams_value.specs.declared.value_type.ValueType.TheVariants.{Integer}
use Rattle.flat_expr.specs.declared.subtype.Constraint.TheVariants.{Whole}
use Rattle.flat_expr.specs.declared.statement.Statement.{Statement}
use Rattle.flat_design.specs.declared.objects.Variable.{Variable}
use Rattle.flat_design.specs.declared.objects.WaitPlace.{WaitPlace}
use Rattle.name_scope.specs.declared.scope.Scope.{Scope}
use Rattle.unit_meaning.specs.declared.draft.Draft.{Draft}
use Rattle.unit_meaning.specs.declared.draft.Spot.{Spot}
use Rattle.unit_meaning.specs.Settings.{Setting}
use Rattle.unit_meaning.specs.Sequential.{Reads, CaseReads, BranchReads, seq_step, alternative_step, branch_step, statement_of}
use Rattle.reading_laws.specs.Growing.{Extends, Grows}

-- the parameter of a loop, by its name
abbrev pub loop_parameter : List ℕ → Variable
loop_parameter name = record { name = name; kind = Integer; constraint = Whole; initial = val.Int (pos 0); is_parameter = true }

abbrev pub IsLoopParameter : Variable → Type 0
IsLoopParameter v = (name : List ℕ) × (v ≡ loop_parameter name)

-- a draft with more of each kind behind another; the variables that are new are parameters of loops
pub record DraftGrows (old new : Draft) : Type 0 where
  pub notes : Grows old.notes new.notes
  pub variables : Extends Variable old.variables new.variables
  pub parameters : All IsLoopParameter variables.more
  pub drivers : Extends ℕ old.drivers new.drivers
  pub waits : Extends WaitPlace old.waits new.waits

-- how an alternative of a case is read, and a branch of an if
abbrev pub alternative_of : Setting → WrittenAlternative → CaseReads
alternative_of w = fold-Alternative (Reads Statement) CaseReads BranchReads (seq_step w) (alternative_step w) (branch_step w)

abbrev pub branch_of : Setting → WrittenBranch → BranchReads
branch_of w = fold-Branch (Reads Statement) CaseReads BranchReads (seq_step w) (alternative_step w) (branch_step w)

-- the draft behind a statement is that before it, and more
abbrev pub StatementsAdd : Type 0
StatementsAdd = (w : Setting) (s : Seq) (scope : Scope) (spot : Spot) (i : ℕ) (d : Draft) → DraftGrows d (statement_of w s scope spot i d).0
