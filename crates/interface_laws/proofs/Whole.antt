-- The interface of an instance.
use Rattle.std.proofs.Common.{ℕ, List, Option, Some, None, IfSome}
use Rattle.std.specs.List.{All}
use Rattle.std.proofs.lemmas.List.Elements.{All-nil}
use Rattle.ams_tree.specs.declared.design.Entity.{Entity}
use Rattle.flat_design.specs.declared.objects.Objects.{Objects}
use Rattle.elab_meaning.specs.declared.book.Book.{Book}
use Rattle.unit_meaning.specs.declared.request.Assigned.{Assigned}
use Rattle.unit_meaning.specs.declared.request.Request.{Request}
use Rattle.unit_meaning.specs.declared.site.Site.{Site}
use Rattle.unit_meaning.specs.Units.{start_of}
use Rattle.unit_meaning.specs.Walk.{Entry, matched, if_some, generics_entered, ports_entered, port_numbers, generic_numbers, entry_of_instance, numbering}
use Rattle.scope_laws.proofs.Scopes.{scopes_hold}
use Rattle.declaration_laws.specs.Books.{KeepsBook}
use Rattle.declaration_laws.proofs.Steps.{book_on}
use Rattle.interface_laws.specs.Requests.{IsGenericAssigned, IsPortAssigned, RequestHolds, start_book, InterfacesHold}
use Rattle.interface_laws.proofs.Matches.{then_some, Given, matched_each}
use Rattle.interface_laws.proofs.Generics.{generics_keep}
use Rattle.interface_laws.proofs.Ports.{ports_keep}
use Rattle.interface_laws.proofs.Actuals.{maps_hold}

module _ (final : Objects) (texts : List (List ℕ)) (r : Request) (e : Entity) (s : Site) where
  abbrev Behind : Entry → Type 0
  Behind entry = KeepsBook final (start_book texts r s) entry.book

  behind_ports : (b : Book) (o : Option Entry) → KeepsBook final (start_book texts r s) b → IfSome o (λ (entry : Entry). KeepsBook final b entry.book) → IfSome o Behind
  behind_ports b (Some entry) k l = book_on final (start_book texts r s) b entry.book k l
  behind_ports b None k l = tt

  with_ports : (ports : List (ℕ × Assigned)) → All (Given (IsPortAssigned final)) ports → (b : Book) → KeepsBook final (start_book texts r s) b
      → IfSome (ports_entered texts r.outer ports 0 e.ports (record { book = b; used = s.used })) Behind
  with_ports ports g b k =
      behind_ports b (ports_entered texts r.outer ports 0 e.ports (record { book = b; used = s.used })) k (ports_keep final texts r.outer ports g 0 e.ports (record { book = b; used = s.used }))

  entry_keeps : RequestHolds final r → IfSome (entry_of_instance texts r e s) Behind
  entry_keeps h =
      then_some (List (ℕ × Assigned)) Entry (All (Given (IsGenericAssigned final))) Behind
      (λ (generics : List (ℕ × Assigned)).
      if_some (λ (ports : List (ℕ × Assigned)).
      if_some (λ (b : Book). ports_entered texts r.outer ports 0 e.ports (record { book = b; used = s.used })) (generics_entered texts generics 0 e.generics (start_book texts r s)))
      (matched (port_numbers e.ports) r.ports))
      (matched (generic_numbers e.generics) r.generics) (matched_each (IsGenericAssigned final) (generic_numbers e.generics) r.generics h.generics)
      (λ generics g.
      then_some (List (ℕ × Assigned)) Entry (All (Given (IsPortAssigned final))) Behind
      (λ (ports : List (ℕ × Assigned)).
      if_some (λ (b : Book). ports_entered texts r.outer ports 0 e.ports (record { book = b; used = s.used })) (generics_entered texts generics 0 e.generics (start_book texts r s)))
      (matched (port_numbers e.ports) r.ports) (matched_each (IsPortAssigned final) (port_numbers e.ports) r.ports h.ports)
      (λ ports p.
      then_some Book Entry (KeepsBook final (start_book texts r s)) Behind (λ (b : Book). ports_entered texts r.outer ports 0 e.ports (record { book = b; used = s.used }))
      (generics_entered texts generics 0 e.generics (start_book texts r s)) (generics_keep final texts generics g 0 e.generics (start_book texts r s)) (with_ports ports p)))

pub interfaces_hold : InterfacesHold
interfaces_hold = record {
  start = λ final texts r s domain objects. record { scope = scopes_hold.start final texts domain; objects = objects };
  entry = λ final texts r e s h. entry_keeps final texts r e s h;
  top = λ final path x. record { generics = All-nil (IsGenericAssigned final); ports = All-nil (IsPortAssigned final) };
  inner = λ final w units scope path number x i s holding f.
      let maps = maps_hold final w.texts scope holding (start_of w.texts) units i (numbering s) f in
      record { generics = maps.generics; ports = maps.ports };
}
