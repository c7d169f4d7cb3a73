-- A process has one driver of each signal that it assigns (IEEE 1076, 14.7.2).
use Rattle.std.specs.Prelude.{◌≢◌, ℕ, List, Option}
use Rattle.std.specs.List.{AllPairs}
use Rattle.ams_tree.specs.declared.concurrent.ConcurrentStatement.{ConcurrentStatement}
use Rattle.ams_tree.specs.declared.expression.Name.{Name}
use Rattle.name_scope.specs.declared.scope.Scope.{Scope}
use Rattle.elab_meaning.specs.declared.fault.Notes.{Notes}
use Rattle.unit_meaning.specs.declared.draft.Made.{Made}
use Rattle.unit_meaning.specs.declared.draft.Made.TheVariants as made
use Rattle.unit_meaning.specs.Settings.{Setting}
use Rattle.unit_meaning.specs.Concurrent.{concurrent}

-- no signal twice
abbrev pub Once : List ℕ → Type 0
Once = AllPairs (λ a b. a ≢ b)

-- a process that is made has each of its drivers once
abbrev pub DrivesOnce : Made → Type 0
DrivesOnce (made.Process p) = Once p.drivers
DrivesOnce m = Unit {0}

-- whatever the scope is, and whether rules are broken or not
abbrev pub StatementsDriveOnce : Type 0
StatementsDriveOnce = (w : Setting) (scope : Scope) (label : Option Name) (x : ConcurrentStatement) (n : Notes) → DrivesOnce (concurrent w scope label x n).1
