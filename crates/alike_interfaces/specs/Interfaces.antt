-- Generics and ports: as the check of types sees them, and at an instance.
use Rattle.std.specs.Prelude.{◌≡◌, ◌<◌, ◌+◌, ℕ, List, [], ◌∷◌, length, Option, Some, None, replicate}
use Rattle.ams_tree.specs.declared.expression.Name.{Name}
use Rattle.ams_tree.specs.declared.declaration.Port.{Port}
use Rattle.ams_tree.specs.declared.declaration.Port.TheVariants as port
use Rattle.ams_tree.specs.declared.design.Entity.{Entity}
use Rattle.name_scope.specs.declared.thing.Thing.TheVariants as thing
use Rattle.elab_meaning.specs.declared.book.Book.{Book}
use Rattle.unit_meaning.specs.declared.request.Actual.{Actual}
use Rattle.unit_meaning.specs.declared.request.Actual.TheVariants as actual
use Rattle.unit_meaning.specs.declared.request.Assigned.{Assigned}
use Rattle.unit_meaning.specs.declared.request.Request.{Request}
use Rattle.unit_meaning.specs.declared.site.Site.{Site}
use Rattle.unit_meaning.specs.Interfaces.{interface}
use Rattle.unit_meaning.specs.Units.{start_of}
use Rattle.unit_meaning.specs.Walk.{Entry, matched, actual_at, port_names, port_numbers, entry_of_instance}
use Rattle.alike_laws.specs.Alike.{HasNoFaults}
use Rattle.alike_books.specs.Books.{AlikeBooks}

-- a terminal that is an actual has the nature outside of all units
abbrev pub IsElectrical : Actual → Type 0
IsElectrical (actual.Object y (thing.Terminal end m)) = m ≡ 0
IsElectrical a = Unit {0}

abbrev pub IsElectricalActual : Option Assigned → Type 0
IsElectricalActual (Some a) = IsElectrical a.actual
IsElectricalActual None = Unit {0}

-- the actuals of these names, the first of which stands at this place among all ports
abbrev pub NamesAreElectrical : List (ℕ × Assigned) → ℕ → List Name → Type 0
NamesAreElectrical given i [] = Unit {0}
NamesAreElectrical given i (x ∷ more) = IsElectricalActual (actual_at given i) × NamesAreElectrical given (i + 1) more

-- those of ports that are terminals
abbrev pub PortIsElectrical : List (ℕ × Assigned) → ℕ → Port → Type 0
PortIsElectrical given i (port.Terminal place names m) = NamesAreElectrical given i names
PortIsElectrical given i p = Unit {0}

abbrev pub PortsAreElectrical : List (ℕ × Assigned) → ℕ → List Port → Type 0
PortsAreElectrical given i [] = Unit {0}
PortsAreElectrical given i (p ∷ more) = PortIsElectrical given i p × PortsAreElectrical given (i + length (port_names p)) more

abbrev pub RequestIsElectrical : Entity → Request → Type 0
RequestIsElectrical e r = (given : List (ℕ × Assigned)) → matched (port_numbers e.ports) r.ports ≡ Some given → PortsAreElectrical given 0 e.ports

pub record InterfacesFollow : Type 0 where
  pub before : (texts : List (List ℕ)) (e : Entity) (b : Book) → HasNoFaults (interface texts e b).notes → HasNoFaults b.notes
  -- all natures that the check has so far are none of the interface but that outside
  pub entry : (texts : List (List ℕ)) (r : Request) (e : Entity) (s : Site) (entry : Entry) (c : Book) → entry_of_instance texts r e s ≡ Some entry → RequestIsElectrical e r
      → c.scope ≡ start_of texts → 0 < c.natures → HasNoFaults (interface texts e c).notes → AlikeBooks (replicate c.natures 0) (interface texts e c) entry.book
