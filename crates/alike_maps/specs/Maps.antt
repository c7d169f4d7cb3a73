-- Associations of an instance, read twice.
use Rattle.std.specs.Prelude.{◌≡◌, ◌+◌, ℕ, nat_eq, Bool, IsTrue, true, ◌&&◌, List, [], ◌∷◌, length, Option, Some, None}
use Rattle.ams_tree.specs.declared.concurrent.Instance.{Instance}
use Rattle.ams_tree.specs.declared.declaration.Port.{Port}
use Rattle.ams_tree.specs.declared.declaration.Port.TheVariants as port
use Rattle.ams_tree.specs.declared.design.DesignUnit.{DesignUnit}
use Rattle.ams_tree.specs.declared.design.Entity.{Entity}
use Rattle.ams_tree.specs.declared.expression.Name.{Name}
use Rattle.name_scope.specs.declared.thing.Thing.TheVariants as thing
use Rattle.name_scope.specs.declared.scope.Scope.{Scope}
use Rattle.name_scope.specs.Scopes.{lookup}
use Rattle.elab_meaning.specs.declared.fault.Notes.{Notes}
use Rattle.unit_meaning.specs.declared.request.Actual.{Actual}
use Rattle.unit_meaning.specs.declared.request.Actual.TheVariants as actual
use Rattle.unit_meaning.specs.declared.request.Assigned.{Assigned}
use Rattle.unit_meaning.specs.declared.request.Request.{Request}
use Rattle.unit_meaning.specs.Settings.{Setting}
use Rattle.unit_meaning.specs.Associations.{entity_in, instance_maps}
use Rattle.unit_meaning.specs.Walk.{port_names, port_numbers, matched, actual_at}
use Rattle.alike_laws.specs.Alike.{HasNoFaults, ReadingsFollow}
use Rattle.alike_parts.specs.Follows.{BothRead, ReadsFollow}

-- outside of all units stands no nature but the first
abbrev pub IsOutside : Scope → Type 0
IsOutside start = (x m : ℕ) → lookup start x ≡ Some (thing.Nature m) → m ≡ 0

-- ---- terminals that are actuals

-- a terminal has the nature outside of all units
abbrev pub is_electrical : Actual → Bool
is_electrical (actual.Object x (thing.Terminal end m)) = nat_eq m 0
is_electrical a = true

abbrev pub some_electrical : Option Assigned → Bool
some_electrical (Some a) = is_electrical a.actual
some_electrical None = true

abbrev pub names_fit : List (ℕ × Assigned) → ℕ → List Name → Bool
names_fit given i [] = true
names_fit given i (x ∷ more) = some_electrical (actual_at given i) && names_fit given (i + 1) more

-- each actual of a terminal port is so
abbrev pub ports_fit : List (ℕ × Assigned) → ℕ → List Port → Bool
ports_fit given i [] = true
ports_fit given i (port.Terminal place names m ∷ more) = names_fit given i names && ports_fit given (i + length names) more
ports_fit given i (p ∷ more) = ports_fit given (i + length (port_names p)) more

abbrev pub given_fits : Option (List (ℕ × Assigned)) → List Port → Bool
given_fits (Some given) ports = ports_fit given 0 ports
given_fits None ports = true

abbrev pub entity_fits : Option Entity → Request → Bool
entity_fits (Some e) r = given_fits (matched (port_numbers e.ports) r.ports) e.ports
entity_fits None r = true

abbrev pub actuals_fit : List DesignUnit → Request → Bool
actuals_fit units r = entity_fits (entity_in units r.entity) r

-- the nature of each terminal port is that outside of all units
abbrev pub NaturesStand : Scope → List Port → Type 0
NaturesStand start [] = Unit {0}
NaturesStand start (port.Terminal place names m ∷ more) = (lookup start m.number ≡ Some (thing.Nature 0)) × NaturesStand start more
NaturesStand start (p ∷ more) = NaturesStand start more

pub record AssociationsFollow : Type 0 where
  -- in scopes that are alike where `G` holds
  pub maps : (G : Bool) (natures : List ℕ) (v w : Setting) (c i : Scope) → BothRead (IsTrue G) natures v w c i
      → (start : Scope) → IsOutside start → (units : List DesignUnit) (x : Instance)
      → ReadsFollow (IsTrue G) (λ n. (instance_maps v.texts start units c x n).0) (λ n. (instance_maps w.texts start units i x n).0)
  -- where they break no rule, terminals that are actuals have the natures of their formals
  pub actuals : ReadingsFollow → (texts : List (List ℕ)) (start scope : Scope) → IsOutside start → (units : List DesignUnit) (x : Instance) (e : Entity) (n m : Notes)
      → entity_in units x.entity.number ≡ Some e → NaturesStand start e.ports → HasNoFaults (instance_maps texts start units scope x n).0
      → given_fits (matched (port_numbers e.ports) (instance_maps texts start units scope x m).1.1) e.ports ≡ true
