-- The interface of an instance, for the flat design that it becomes a part of (IEEE 1076, 6.5.6 and 6.5.7).
use Rattle.std.specs.Prelude.{◌≡◌, ℕ, List, [], Some, IfSome}
use Rattle.std.specs.List.{slice_get, All}
use Rattle.ams_tree.specs.declared.expression.Name.{Name}
use Rattle.ams_tree.specs.declared.concurrent.Instance.{Instance}
use Rattle.ams_tree.specs.declared.design.DesignUnit.{DesignUnit}
use Rattle.ams_tree.specs.declared.design.Entity.{Entity}
use Rattle.flat_design.specs.declared.objects.Objects.{Objects}
use Rattle.name_scope.specs.declared.scope.Scope.{Scope}
use Rattle.elab_meaning.specs.declared.book.Book.{Book}
use Rattle.elab_meaning.specs.Notes.{no_notes}
use Rattle.unit_meaning.specs.declared.request.Actual.{Actual}
use Rattle.unit_meaning.specs.declared.request.Actual.TheVariants as actual
use Rattle.unit_meaning.specs.declared.request.Assigned.{Assigned}
use Rattle.unit_meaning.specs.declared.request.Request.{Request}
use Rattle.unit_meaning.specs.declared.site.Site.{Site}
use Rattle.unit_meaning.specs.Settings.{Setting}
use Rattle.unit_meaning.specs.Associations.{instance_maps}
use Rattle.unit_meaning.specs.Units.{start_of}
use Rattle.unit_meaning.specs.Walk.{Entry, entry_of_instance, numbering, request_of, top_request}
use Rattle.design_rules.specs.Types.{equation_scope}
use Rattle.design_rules.specs.Design.{domain_type}
use Rattle.typed_laws.specs.Fitting.{FitsValue}
use Rattle.scope_laws.specs.Holds.{HasNoFaults, ScopeHolds}
use Rattle.scope_laws.specs.Laws.{ThingHolds}
use Rattle.declaration_laws.specs.Books.{ObjectsHold, BookHolds, KeepsBook}

-- the actual of a generic is a value that is known, of its type
abbrev pub IsGenericActual : Objects → Actual → Type 0
IsGenericActual final (actual.Value k v) = FitsValue (equation_scope final) k v
IsGenericActual final a = Unit {0}

-- the actual of a port is something that the design has
abbrev pub IsPortActual : Objects → Actual → Type 0
IsPortActual final (actual.Object y t) = ThingHolds (equation_scope final) [] [] t
IsPortActual final a = Unit {0}

abbrev pub IsGenericAssigned : Objects → Assigned → Type 0
IsGenericAssigned final a = IsGenericActual final a.actual

abbrev pub IsPortAssigned : Objects → Assigned → Type 0
IsPortAssigned final a = IsPortActual final a.actual

-- what stands at an instance
pub record RequestHolds (final : Objects) (r : Request) : Type 0 where
  pub generics : All (IsGenericAssigned final) r.generics
  pub ports : All (IsPortAssigned final) r.ports

-- with which the interface of an instance begins
abbrev pub start_book : List (List ℕ) → Request → Site → Book
start_book texts r s = record { scope = start_of texts; notes = no_notes; objects = s.objects; path = r.path; natures = 1 }

pub record InterfacesHold : Type 0 where
  pub start : (final : Objects) (texts : List (List ℕ)) (r : Request) (s : Site)
      → slice_get final.enumerations 0 ≡ Some domain_type → ObjectsHold final s.objects → BookHolds final (start_book texts r s)
  -- generics with their values, ports with what they are bound to
  pub entry : (final : Objects) (texts : List (List ℕ)) (r : Request) (e : Entity) (s : Site)
      → RequestHolds final r → IfSome (entry_of_instance texts r e s) (λ (entry : Entry). KeepsBook final (start_book texts r s) entry.book)
  pub top : (final : Objects) (path : List ℕ) (x : ℕ) → RequestHolds final (top_request path x)
  -- in a scope whose names stand for things of the design, where no association breaks a rule
  pub inner : (final : Objects) (w : Setting) (units : List DesignUnit) (scope : Scope) (path : List ℕ) (number : ℕ) (x : Name) (i : Instance) (s : Site)
      → ScopeHolds (equation_scope final) [] [] scope → HasNoFaults (instance_maps w.texts (start_of w.texts) units scope i (numbering s)).0
      → RequestHolds final (request_of w units scope path number x i s)
