-- Generics with their values, and the interface of an instance.
use Rattle.std.proofs.Common.{ℕ, ◌+◌, Bool, true, false, if◌then◌else◌, List, [], ◌∷◌, length, Option, Some, None, IfSome}
use Rattle.ams_tree.specs.declared.expression.Name.{Name}
use Rattle.ams_tree.specs.declared.declaration.Generic.{Generic}
use Rattle.ams_tree.specs.declared.design.Entity.{Entity}
use Rattle.elab_meaning.specs.declared.book.Book.{Book}
use Rattle.elab_meaning.specs.declared.typed.Valued.{Valued}
use Rattle.elab_meaning.specs.Notes.{no_notes}
use Rattle.elab_meaning.specs.Parts.{kept, closed}
use Rattle.elab_meaning.specs.Declarations.{declared, with_notes}
use Rattle.unit_meaning.specs.declared.request.Assigned.{Assigned}
use Rattle.unit_meaning.specs.declared.request.Request.{Request}
use Rattle.unit_meaning.specs.declared.site.Site.{Site}
use Rattle.unit_meaning.specs.Interfaces.{first_place, generic_default}
use Rattle.unit_meaning.specs.Units.{start_of}
use Rattle.unit_meaning.specs.Walk.{Entry, if_some, actual_at, matched, range_notes, kind_suits, actual_value, generic_entered, generic_names, is_there, generics_entered, ports_entered, generic_numbers, port_numbers, entry_of_instance}
use Rattle.object_laws.specs.Adding.{AddsObjects, EnteringAddsObjects}
use Rattle.object_laws.proofs.Adding.{Adds, adds_none, adds_on}
use Rattle.object_laws.proofs.Declarations.{opened_adds}
use Rattle.object_laws.proofs.Ports.{then_some, ports_add}

-- ---- generics

one_adds : (d : Option Valued) (has : Bool) (o : Option Assigned) (x : Name) (b : Book) → IfSome (generic_entered d has o x b) (Adds b)
one_adds d true None x b = adds_none b.objects
one_adds d false None x b = tt
one_adds d has (Some a) x b = go (kind_suits d a.actual)
  where
    go : (c : Bool) → IfSome (if c then Some (declared (actual_value d a.actual) x (with_notes (range_notes d a b.notes) b)) else None) (Adds b)
    go true = adds_none b.objects
    go false = tt

later : (b mid : Book) (o : Option Book) → Adds b mid → IfSome o (Adds mid) → IfSome o (Adds b)
later b mid (Some behind) k l = adds_on b.objects mid.objects behind.objects k l
later b mid None k l = tt

names_add : (given : List (ℕ × Assigned)) (d : Option Valued) (has : Bool) (i : ℕ) (names : List Name) (b : Book) → IfSome (generic_names given d has i names b) (Adds b)
names_add given d has i [] b = adds_none b.objects
names_add given d has i (x ∷ more) b =
    then_some Book Book (Adds b) (Adds b) (generic_names given d has (i + 1) more) (generic_entered d has (actual_at given i) x b) (one_adds d has (actual_at given i) x b)
    (λ mid k. later b mid (generic_names given d has (i + 1) more mid) k (names_add given d has (i + 1) more mid))

generics_add : (texts : List (List ℕ)) (given : List (ℕ × Assigned)) (i : ℕ) (gs : List Generic) (b : Book) → IfSome (generics_entered texts given i gs b) (Adds b)
generics_add texts given i [] b = adds_none b.objects
generics_add texts given i (g ∷ more) b =
    let d = generic_default texts b.scope g.indication g.default b.notes in
    let start = with_notes (closed (first_place g.constant g.names) d.1 d.0) b in
    then_some Book Book (Adds b) (Adds b) (generics_entered texts given (i + length g.names) more) (generic_names given (kept d.1) (is_there g.default) i g.names start)
    (names_add given (kept d.1) (is_there g.default) i g.names start)
    (λ mid k. later b mid (generics_entered texts given (i + length g.names) more mid) k (generics_add texts given (i + length g.names) more mid))

-- ---- the whole

module _ (texts : List (List ℕ)) (r : Request) (e : Entity) (s : Site) where
  abbrev Behind : Entry → Type 0
  Behind entry = AddsObjects s.objects entry.book.objects

  abbrev start : Book
  start = record { scope = start_of texts; notes = no_notes; objects = s.objects; path = r.path; natures = 1 }

  abbrev Anything : List (ℕ × Assigned) → Type 0
  Anything all = Unit {0}

  any : (o : Option (List (ℕ × Assigned))) → IfSome o Anything
  any (Some all) = tt
  any None = tt

  behind : (b : Book) (o : Option Entry) → AddsObjects s.objects b.objects → IfSome o (λ (entry : Entry). AddsObjects b.objects entry.book.objects) → IfSome o Behind
  behind b (Some entry) k l = adds_on s.objects b.objects entry.book.objects k l
  behind b None k l = tt

  entry_adds : IfSome (entry_of_instance texts r e s) Behind
  entry_adds =
      then_some (List (ℕ × Assigned)) Entry Anything Behind
      (λ (generics : List (ℕ × Assigned)).
      if_some (λ (ports : List (ℕ × Assigned)).
      if_some (λ (b : Book). ports_entered texts r.outer ports 0 e.ports (record { book = b; used = s.used })) (generics_entered texts generics 0 e.generics start))
      (matched (port_numbers e.ports) r.ports))
      (matched (generic_numbers e.generics) r.generics) (any (matched (generic_numbers e.generics) r.generics))
      (λ generics g.
      then_some (List (ℕ × Assigned)) Entry Anything Behind
      (λ (ports : List (ℕ × Assigned)).
      if_some (λ (b : Book). ports_entered texts r.outer ports 0 e.ports (record { book = b; used = s.used })) (generics_entered texts generics 0 e.generics start))
      (matched (port_numbers e.ports) r.ports) (any (matched (port_numbers e.ports) r.ports))
      (λ ports p.
      then_some Book Entry (Adds start) Behind (λ (b : Book). ports_entered texts r.outer ports 0 e.ports (record { book = b; used = s.used }))
      (generics_entered texts generics 0 e.generics start) (generics_add texts generics 0 e.generics start)
      (λ b k. behind b (ports_entered texts r.outer ports 0 e.ports (record { book = b; used = s.used })) k (ports_add texts r.outer ports 0 e.ports (record { book = b; used = s.used })))))

pub entering_adds_objects : EnteringAddsObjects
entering_adds_objects = record {
  declarations = λ texts a b. opened_adds texts a b;
  interface = λ texts r e s. entry_adds texts r e s;
}
