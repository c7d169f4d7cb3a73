-- Dots and thresholds that are noted while the statements of an architecture are read, instances among them.
use Rattle.std.specs.Prelude.{List}
use Rattle.std.specs.List.{fold}
use Rattle.ams_tree.specs.declared.concurrent.Concurrent.{Concurrent}
use Rattle.ams_tree.specs.declared.design.DesignUnit.{DesignUnit}
use Rattle.flat_design.specs.declared.objects.Objects.{Objects}
use Rattle.name_scope.specs.declared.scope.Scope.{Scope}
use Rattle.elab_meaning.specs.declared.fault.Notes.{Notes}
use Rattle.unit_meaning.specs.Settings.{Setting}
use Rattle.unit_meaning.specs.Units.{judged_statement}
use Rattle.note_laws.specs.Noting.{NamesAreNotable, NotesAlike}

-- in a scope whose names are notable two readings of a list of statements note alike
abbrev pub ArchitecturesNoteAlike : Type 0
ArchitecturesNoteAlike =
    (objects : Objects) (w : Setting) (start : Scope) (units : List DesignUnit) (scope : Scope) (all : List Concurrent) (n m : Notes)
    → NamesAreNotable objects scope → NotesAlike objects n m (fold (judged_statement w start units scope) n all) (fold (judged_statement w start units scope) m all)
