-- Dots and thresholds that are noted while any concurrent or simultaneous statement is read that is no instance.
use Rattle.std.specs.Prelude.{ℕ, Option}
use Rattle.ams_tree.specs.declared.concurrent.ConcurrentStatement.{ConcurrentStatement}
use Rattle.ams_tree.specs.declared.expression.Name.{Name}
use Rattle.flat_design.specs.declared.objects.Objects.{Objects}
use Rattle.name_scope.specs.declared.scope.Scope.{Scope}
use Rattle.elab_meaning.specs.declared.fault.Notes.{Notes}
use Rattle.unit_meaning.specs.Settings.{Setting}
use Rattle.unit_meaning.specs.Concurrent.{concurrent}
use Rattle.note_laws.specs.Noting.{NamesAreNotable, NotesAlike}

-- in a scope whose names are notable two readings of it note alike
abbrev pub ConcurrentStatementsNoteAlike : Type 0
ConcurrentStatementsNoteAlike =
    (objects : Objects) (w : Setting) (scope : Scope) (label : Option Name) (x : ConcurrentStatement) (n m : Notes)
    → NamesAreNotable objects scope → NotesAlike objects n m (concurrent w scope label x n).0 (concurrent w scope label x m).0
