-- Dots and thresholds that are noted while sequential statements are read.
use Rattle.std.specs.Prelude.{◌≡◌, ℕ, List, map}
use Rattle.ams_tree.specs.declared.sequential.Seq.{Seq}
use Rattle.flat_design.specs.declared.objects.Objects.{Objects}
use Rattle.name_scope.specs.declared.scope.Scope.{Scope}
use Rattle.unit_meaning.specs.declared.draft.Draft.{Draft}
use Rattle.unit_meaning.specs.declared.draft.Spot.{Spot}
use Rattle.unit_meaning.specs.Settings.{Setting}
use Rattle.unit_meaning.specs.Sequential.{body, statement_of}
use Rattle.note_laws.specs.Noting.{NamesAreNotable, NotesAlike}

-- of two readings from the drafts `d` and `e` to `on` and `to`: they note alike and have the same variables
pub record DraftsAlike (objects : Objects) (d e on to : Draft) : Type 0 where
  pub notes : NotesAlike objects d.notes e.notes on.notes to.notes
  pub variables : on.variables ≡ to.variables

-- the statements of a process, in a scope whose names are notable
abbrev pub BodiesNoteAlike : Type 0
BodiesNoteAlike =
    (objects : Objects) (w : Setting) (all : List Seq) (scope : Scope) (spot : Spot) (i : ℕ) (d e : Draft) → NamesAreNotable objects scope → d.variables ≡ e.variables
    → DraftsAlike objects d e (body (map (statement_of w) all) scope spot i d).0 (body (map (statement_of w) all) scope spot i e).0
