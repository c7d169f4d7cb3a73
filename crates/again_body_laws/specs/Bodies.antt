-- What the statements of a process break doesn't depend on what is noted before them.
use Rattle.std.specs.Prelude.{◌≡◌, ℕ, List, map}
use Rattle.ams_tree.specs.declared.sequential.Seq.{Seq}
use Rattle.name_scope.specs.declared.scope.Scope.{Scope}
use Rattle.unit_meaning.specs.declared.draft.Draft.{Draft}
use Rattle.unit_meaning.specs.declared.draft.Spot.{Spot}
use Rattle.unit_meaning.specs.Settings.{Setting}
use Rattle.unit_meaning.specs.Sequential.{body, statement_of}
use Rattle.again_laws.specs.Again.{BreaksAlike}

-- from two drafts with the same variables
abbrev pub BodiesBreakAlike : Type 0
BodiesBreakAlike =
    (w : Setting) (all : List Seq) (scope : Scope) (spot : Spot) (i : ℕ) (d e : Draft) → d.variables ≡ e.variables
    → BreaksAlike d.notes e.notes (body (map (statement_of w) all) scope spot i d).0.notes (body (map (statement_of w) all) scope spot i e).0.notes
