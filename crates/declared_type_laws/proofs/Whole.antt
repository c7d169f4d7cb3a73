-- Enumeration types of the names of a unit.
use Rattle.std.proofs.Common.{◌<◌, ℕ, List, length, Option, Some, None, IfSome}
use Rattle.ams_tree.specs.declared.design.Entity.{Entity}
use Rattle.elab_meaning.specs.declared.book.Book.{Book}
use Rattle.elab_meaning.specs.Notes.{no_notes}
use Rattle.unit_meaning.specs.declared.request.Assigned.{Assigned}
use Rattle.unit_meaning.specs.declared.request.Request.{Request}
use Rattle.unit_meaning.specs.declared.site.Site.{Site}
use Rattle.unit_meaning.specs.Units.{start_of}
use Rattle.unit_meaning.specs.Walk.{Entry, matched, if_some, generics_entered, ports_entered, port_numbers, generic_numbers, entry_of_instance}
use Rattle.declared_type_laws.specs.Types.{BookHasDeclared, TypesAreDeclared}
use Rattle.declared_type_laws.proofs.Subtypes.{valued_fine}
use Rattle.declared_type_laws.proofs.Start.{start_declared}
use Rattle.declared_type_laws.proofs.Books.{all_declared, body_declared}
use Rattle.declared_type_laws.proofs.Interfaces.{then_some, generics_declared, ports_declared}

module _ (texts : List (List ℕ)) (r : Request) (e : Entity) (s : Site) (some : 0 < length s.objects.enumerations) where
  abbrev first : Book
  first = record { scope = start_of texts; notes = no_notes; objects = s.objects; path = r.path; natures = 1 }

  abbrev Right : Entry → Type 0
  Right entry = BookHasDeclared entry.book

  abbrev Anything : List (ℕ × Assigned) → Type 0
  Anything given = Unit {0}

  anything : (o : Option (List (ℕ × Assigned))) → IfSome o Anything
  anything (Some given) = tt
  anything None = tt

  entry_declared : IfSome (entry_of_instance texts r e s) Right
  entry_declared =
      then_some (List (ℕ × Assigned)) Entry Anything Right
      (λ (generics : List (ℕ × Assigned)).
      if_some (λ (ports : List (ℕ × Assigned)).
      if_some (λ (b : Book). ports_entered texts r.outer ports 0 e.ports (record { book = b; used = s.used })) (generics_entered texts generics 0 e.generics first))
      (matched (port_numbers e.ports) r.ports))
      (matched (generic_numbers e.generics) r.generics) (anything (matched (generic_numbers e.generics) r.generics))
      (λ generics g.
      then_some (List (ℕ × Assigned)) Entry Anything Right
      (λ (ports : List (ℕ × Assigned)).
      if_some (λ (b : Book). ports_entered texts r.outer ports 0 e.ports (record { book = b; used = s.used })) (generics_entered texts generics 0 e.generics first))
      (matched (port_numbers e.ports) r.ports) (anything (matched (port_numbers e.ports) r.ports))
      (λ ports p.
      then_some Book Entry BookHasDeclared Right (λ (b : Book). ports_entered texts r.outer ports 0 e.ports (record { book = b; used = s.used }))
      (generics_entered texts generics 0 e.generics first) (generics_declared texts generics e.generics first (start_declared (length s.objects.enumerations) some texts))
      (λ b h. ports_declared texts r.outer ports e.ports (record { book = b; used = s.used }) h)))

pub types_are_declared : TypesAreDeclared
types_are_declared = record {
  start = λ texts n some. start_declared n some texts;
  subtypes = λ P texts scope i x n bits open_vector h. valued_fine P bits open_vector texts scope h i x n;
  all = λ texts ds b h. all_declared texts ds b h;
  body = λ texts a b h. body_declared texts a b h;
  entry = λ texts r e s some. entry_declared texts r e s some;
}
