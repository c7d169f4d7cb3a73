-- Dots and thresholds that are noted while the associations of an instance are read.
use Rattle.std.specs.Prelude.{ℕ, List}
use Rattle.ams_tree.specs.declared.concurrent.Instance.{Instance}
use Rattle.ams_tree.specs.declared.design.DesignUnit.{DesignUnit}
use Rattle.flat_design.specs.declared.objects.Objects.{Objects}
use Rattle.name_scope.specs.declared.scope.Scope.{Scope}
use Rattle.elab_meaning.specs.declared.fault.Notes.{Notes}
use Rattle.unit_meaning.specs.Associations.{instance_maps}
use Rattle.note_laws.specs.Noting.{NamesAreNotable, NotesAlike}

-- in a scope whose names are notable two readings of them note alike, whatever the units and the scope round them
abbrev pub AssociationsNoteAlike : Type 0
AssociationsNoteAlike =
    (objects : Objects) (texts : List (List ℕ)) (start : Scope) (units : List DesignUnit) (scope : Scope) (i : Instance) (n m : Notes)
    → NamesAreNotable objects scope → NotesAlike objects n m (instance_maps texts start units scope i n).0 (instance_maps texts start units scope i m).0
