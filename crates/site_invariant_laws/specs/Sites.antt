-- What holds of a flat design while the walk goes over the instances, for the flat design that it becomes.
use Rattle.std.specs.Prelude.{◌≡◌, ◌≤◌, ℕ, List, [], ◌∷◌, length}
use Rattle.std.specs.List.{All, Contains}
use Rattle.ams_tree.specs.declared.concurrent.Concurrent.{Concurrent}
use Rattle.flat_design.specs.Limits.{unknown_limit, threshold_limit}
use Rattle.flat_design.specs.declared.objects.Enumeration.{Enumeration}
use Rattle.flat_design.specs.declared.objects.Objects.{Objects}
use Rattle.flat_design.specs.declared.objects.Threshold.{Threshold}
use Rattle.name_scope.specs.declared.scope.Scope.{Scope}
use Rattle.elab_meaning.specs.declared.fault.Notes.{Notes}
use Rattle.unit_meaning.specs.declared.draft.Made.{Made}
use Rattle.unit_meaning.specs.declared.draft.Made.TheVariants as made
use Rattle.unit_meaning.specs.declared.site.Site.{Site}
use Rattle.unit_meaning.specs.Settings.{Setting}
use Rattle.unit_meaning.specs.Concurrent.{concurrent}
use Rattle.unit_meaning.specs.Walk.{numbering}
use Rattle.design_rules.specs.Equations.{IsEquation}
use Rattle.design_rules.specs.Design.{domain_type, IsProcess}
use Rattle.reading_laws.specs.Growing.{Extends}
use Rattle.note_laws.specs.Noting.{AreNoted}
use Rattle.scope_laws.specs.Holds.{HasNoFaults}
use Rattle.declaration_laws.specs.Books.{ObjectsHold}
use Rattle.walk_laws.specs.Steps.{IsNoInstance}
use Rattle.checked_laws.specs.Checked.{HasDrivers}

-- DOMAIN_TYPE is the first enumeration type
abbrev pub HasDomain : Objects → Type 0
HasDomain objects = Extends Enumeration (domain_type ∷ []) objects.enumerations

-- dots and thresholds that have numbers are those of a well-formed design, and among those that are counted, of which there are no
-- more than a design may have
pub record NotedHolds (final : Objects) (s : Site) : Type 0 where
  pub noted : AreNoted final (numbering s)
  pub dots : All (Contains s.dots) s.objects.dots
  pub thresholds : All (Contains s.thresholds) s.objects.thresholds
  pub dot_limit : length s.dots ≤ unknown_limit
  pub threshold_limit_kept : length s.thresholds ≤ threshold_limit

-- what the walk has made so far is well formed in the final design
pub record SiteHolds (final : Objects) (s : Site) : Type 0 where
  pub objects : ObjectsHold final s.objects
  pub equations : All (IsEquation final) s.objects.equations
  pub processes : All (IsProcess final) s.objects.processes
  pub drivers : All (HasDrivers final) s.objects.processes
  pub counted : NotedHolds final s

-- ---- what a statement has made

abbrev pub IsAmong : Objects → Made → Type 0
IsAmong objects (made.Process p) = Contains objects.processes p
IsAmong objects (made.Equation q) = Contains objects.equations q
IsAmong objects made.Nothing = Unit {0}

-- from some notes a statement was read without faults and with no more dots than a design may have; the design has what it made,
-- and the dots and thresholds that were noted stand at the front of those of the design
pub record MadeIn (objects : Objects) (w : Setting) (scope : Scope) (c : Concurrent) : Type 0 where
  pub before : Notes
  pub fine : HasNoFaults (concurrent w scope c.label c.statement before).0
  pub dot_limit : length (concurrent w scope c.label c.statement before).0.dots ≤ unknown_limit
  pub dots : Extends ℕ (concurrent w scope c.label c.statement before).0.dots objects.dots
  pub thresholds : Extends Threshold (concurrent w scope c.label c.statement before).0.thresholds objects.thresholds
  pub among : IsAmong objects (concurrent w scope c.label c.statement before).1

-- so each statement that is no instance
abbrev pub IsMadeIn : Objects → Setting → Scope → Concurrent → Type 0
IsMadeIn objects w scope c = IsNoInstance c.statement → MadeIn objects w scope c
