-- Sequential statements that are read twice.
use Rattle.std.specs.Prelude.{ℕ, Bool, IsTrue, List, map}
use Rattle.ams_tree.specs.declared.sequential.Seq.{Seq}
use Rattle.name_scope.specs.declared.scope.Scope.{Scope}
use Rattle.unit_meaning.specs.declared.draft.Draft.{Draft}
use Rattle.unit_meaning.specs.declared.draft.Spot.{Spot}
use Rattle.unit_meaning.specs.Settings.{Setting}
use Rattle.unit_meaning.specs.Sequential.{body, statement_of}
use Rattle.alike_parts.specs.Follows.{BothRead, FollowsIf}

-- the statements of a process, at any spots and behind any drafts
abbrev pub BodiesFollow : Type 0
BodiesFollow =
    (G : Bool) (natures : List ℕ) (v w : Setting) (c i : Scope) → BothRead (IsTrue G) natures v w c i
    → (all : List Seq) (s u : Spot) (k : ℕ) (d e : Draft)
    → FollowsIf (IsTrue G) d.notes e.notes (body (map (statement_of v) all) c s k d).0.notes (body (map (statement_of w) all) i u k e).0.notes
