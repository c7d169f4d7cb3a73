-- Ports in their order, and the interface as a whole.
use Rattle.std.proofs.Common.{◌≡◌, ◌<◌, ◌+◌, ℕ, pos, zero, suc, List, [], ◌∷◌, length, replicate, Option, Some, refl, sym, subst}
use Rattle.std.specs.List.{fold}
use Rattle.std.proofs.lemmas.List.{length-replicate}
use Rattle.ams_tree.specs.declared.expression.Name.{Name}
use Rattle.ams_tree.specs.declared.declaration.Mode.{Mode}
use Rattle.ams_tree.specs.declared.declaration.Port.{Port}
use Rattle.ams_tree.specs.declared.declaration.Port.TheVariants as port
use Rattle.ams_tree.specs.declared.design.Entity.{Entity}
use Rattle.flat_design.specs.declared.objects.QuantityKind.TheVariants as flat
use Rattle.name_scope.specs.declared.thing.Subtype.{Subtype}
use Rattle.name_scope.specs.declared.scope.Scope.{Scope}
use Rattle.elab_meaning.specs.declared.book.Book.{Book}
use Rattle.elab_meaning.specs.declared.part.Part.{Part}
use Rattle.elab_meaning.specs.declared.part.Part.TheVariants.{Kept, Wrong, Hidden}
use Rattle.elab_meaning.specs.declared.typed.Valued.{Valued}
use Rattle.elab_meaning.specs.Notes.{no_notes}
use Rattle.elab_meaning.specs.Parts.{kept, closed}
use Rattle.elab_meaning.specs.Subtypes.{subtype, valued}
use Rattle.elab_meaning.specs.Declarations.{with_notes, each_of, signal_of, node, nature_named, free_of}
use Rattle.unit_meaning.specs.declared.request.Assigned.{Assigned}
use Rattle.unit_meaning.specs.declared.request.Request.{Request}
use Rattle.unit_meaning.specs.declared.site.Site.{Site}
use Rattle.unit_meaning.specs.Interfaces.{first_place, access_of, class_of, generic, quantity_subtype, quantity_port, port_declaration, interface}
use Rattle.unit_meaning.specs.Units.{start_of}
use Rattle.unit_meaning.specs.Walk.{Entry, matched, signal_entered, terminal_entered, quantity_entered, names_entered, judged_entry, port_entered, port_names, ports_entered, generics_entered, if_some, port_numbers, generic_numbers, entry_of_instance}
use Rattle.alike_laws.specs.Alike.{HasNoFaults, Reads, IsShown, at_instance, AlikeScopes}
use Rattle.alike_laws.proofs.Start.{start_alike}
use Rattle.alike_books.specs.Books.{AlikeBooks}
use Rattle.alike_books.proofs.Before.{closed_before, each_of_before}
use Rattle.alike_books.proofs.Parts.{shown_where, shown_judged, subtype_reads, valued_reads}
use Rattle.alike_books.proofs.Names.{IsKept, kept_closed, told_closed, noted_books}
use Rattle.alike_books.proofs.Objects.{signal_before, node_before, quantity_of_before, nature_reads, nature_known}
use Rattle.alike_interfaces.specs.Interfaces.{PortIsElectrical, PortsAreElectrical, RequestIsElectrical, InterfacesFollow}
use Rattle.alike_interfaces.proofs.Generics.{if_some_step, some_is, generics_before, generics_alike}
use Rattle.alike_interfaces.proofs.Ports.{ports_before, EachEnters, every_name, names_alike, signal_enters, every_terminal, quantity_enters}

-- ---- each port

module _ (natures : List ℕ) (zeros : (m : ℕ) → at_instance natures m ≡ 0) (texts : List (List ℕ)) (outer : ℕ) (given : List (ℕ × Assigned)) where
  module _ (c : Book) (i : Entry) (h : AlikeBooks natures c i.book) (j : Entry) (k : ℕ) (names : List Name) where
    signals : (mode : Option Mode) (p : Part Valued) (d : Option Valued) → IsKept p → names_entered (signal_entered texts mode d) given k names i ≡ Some j
        → HasNoFaults (each_of (signal_of texts (access_of mode)) p names c).notes → AlikeBooks natures (each_of (signal_of texts (access_of mode)) p names c) j.book
    signals mode (Kept v) d there e n =
        names_alike natures (signal_of texts (access_of mode) v) (signal_entered texts mode d) (signal_before texts (access_of mode) v) given k names
        (every_name natures (signal_of texts (access_of mode) v) (signal_entered texts mode d) given k names (signal_enters natures texts mode v d)) c i j e n h
    signals mode Wrong d there e n = absurd there
    signals mode Hidden d there e n = absurd there

    nodes : (p : Part ℕ) → ((a : ℕ) → p ≡ Kept a → EachEnters natures (node texts a) terminal_entered given k names) → IsKept p → names_entered terminal_entered given k names i ≡ Some j
        → HasNoFaults (each_of (node texts) p names c).notes → AlikeBooks natures (each_of (node texts) p names c) j.book
    nodes (Kept a) all there e n = names_alike natures (node texts a) terminal_entered (node_before texts a) given k names (all a refl) c i j e n h
    nodes Wrong all there e n = absurd there
    nodes Hidden all there e n = absurd there

    quantities : (mode : Option Mode) (p : Part Subtype) → IsKept p → names_entered (quantity_entered outer mode) given k names i ≡ Some j
        → HasNoFaults (each_of (quantity_port texts (class_of mode)) p names c).notes → AlikeBooks natures (each_of (quantity_port texts (class_of mode)) p names c) j.book
    quantities mode (Kept s) there e n =
        names_alike natures (quantity_port texts (class_of mode) s) (quantity_entered outer mode) (quantity_of_before texts flat.Free (class_of mode) (pos 0)) given k names
        (every_name natures (quantity_port texts (class_of mode) s) (quantity_entered outer mode) given k names (quantity_enters natures texts outer mode s)) c i j e n h
    quantities mode Wrong there e n = absurd there
    quantities mode Hidden there e n = absurd there

  shown_free : (s : Subtype) → IsShown (free_of s)
  shown_free s = shown_where Subtype _ s

  port_alike : (p : Port) (k : ℕ) (c : Book) (i j : Entry) → PortIsElectrical given k p → port_entered texts outer given k p i ≡ Some j
      → HasNoFaults (port_declaration texts c p).notes → AlikeBooks natures c i.book → AlikeBooks natures (port_declaration texts c p) j.book
  port_alike (port.Signal place names mode y x) k c i j all e n h =
      let at = first_place place names in
      let a = valued texts c.scope y x c.notes in
      let b = valued texts i.book.scope y x i.book.notes in
      let reads : Reads (Part Valued) (Part Valued) IsShown c.notes a i.book.notes b = valued_reads natures c.scope i.book.scope h.scopes texts y x c.notes i.book.notes in
      let closing : HasNoFaults (closed at a.1 a.0) =
      each_of_before Valued (signal_of texts (access_of mode)) (signal_before texts (access_of mode)) a.1 names (with_notes (closed at a.1 a.0) c) n in
      signals (with_notes (closed at a.1 a.0) c) (judged_entry at b i)
      (noted_books natures c i.book (closed at a.1 a.0) (closed at b.1 b.0) h (told_closed Valued at b.1 b.0 (reads.notes.told (closed_before Valued at a.1 a.0 closing) h.told))) j k names mode a.1 (kept b.1)
      (kept_closed Valued at a.1 a.0 reads.right closing) e n
  port_alike (port.Terminal place names m) k c i j all e n h =
      let a = nature_named m c in
      let b = nature_named m i.book in
      let reads : Reads (Part ℕ) (Part ℕ) IsShown c.notes a i.book.notes b = nature_reads natures c i.book h.scopes m in
      let closing : HasNoFaults (closed place a.1 a.0) = each_of_before ℕ (node texts) (node_before texts) a.1 names (with_notes (closed place a.1 a.0) c) n in
      nodes (with_notes (closed place a.1 a.0) c) (judged_entry place b i)
      (noted_books natures c i.book (closed place a.1 a.0) (closed place b.1 b.0) h (told_closed ℕ place b.1 b.0 (reads.notes.told (closed_before ℕ place a.1 a.0 closing) h.told))) j k names a.1
      (λ q is.
      let known = nature_known natures c i.book h.scopes m q is in
      every_terminal natures texts q known (zeros q) given k names all)
      (kept_closed ℕ place a.1 a.0 reads.right closing) e n
  port_alike (port.Quantity place names mode y) k c i j all e n h =
      let a = quantity_subtype texts y c in
      let b = quantity_subtype texts y i.book in
      let first = subtype_reads natures c.scope i.book.scope h.scopes texts y c.notes i.book.notes in
      let closing : HasNoFaults (closed place a.1 a.0) =
      each_of_before Subtype (quantity_port texts (class_of mode)) (λ s. quantity_of_before texts flat.Free (class_of mode) (pos 0)) a.1 names (with_notes (closed place a.1 a.0) c) n in
      quantities (with_notes (closed place a.1 a.0) c) (judged_entry place b i)
      (noted_books natures c i.book (closed place a.1 a.0) (closed place b.1 b.0) h (told_closed Subtype place b.1 b.0 (first.notes.told (closed_before Subtype place a.1 a.0 closing) h.told))) j k names mode a.1
      (kept_closed Subtype place a.1 a.0 (λ g. shown_judged Subtype Subtype free_of (subtype texts c.scope y c.notes).1 shown_free (first.right g)) closing) e n

  ports_alike : (ps : List Port) (k : ℕ) (c : Book) (i j : Entry) → PortsAreElectrical given k ps → ports_entered texts outer given k ps i ≡ Some j
      → HasNoFaults (fold (port_declaration texts) c ps).notes → AlikeBooks natures c i.book → AlikeBooks natures (fold (port_declaration texts) c ps) j.book
  ports_alike [] k c i j all e n h = some_is Entry (λ (s : Entry). AlikeBooks natures c s.book) i j h e
  ports_alike (p ∷ more) k c i j all e n h =
      let step = if_some_step Entry Entry (ports_entered texts outer given (k + length (port_names p)) more) (port_entered texts outer given k p i) j e in
      ports_alike more (k + length (port_names p)) (port_declaration texts c p) step.0 j all.1 step.1.1 n
      (port_alike p k c i step.0 all.0 step.1.0 (ports_before texts more (port_declaration texts c p) n) h)

-- ---- the whole

interface_before : (texts : List (List ℕ)) (e : Entity) (b : Book) → HasNoFaults (interface texts e b).notes → HasNoFaults b.notes
interface_before texts e b h = generics_before texts e.generics b (ports_before texts e.ports (fold (generic texts) b e.generics) h)

zero_at : (n m : ℕ) → at_instance (replicate n 0) m ≡ 0
zero_at zero m = refl
zero_at (suc n) zero = refl
zero_at (suc n) (suc m) = zero_at n m

module _ (texts : List (List ℕ)) (r : Request) (e : Entity) (s : Site) (c : Book) (electrical : RequestIsElectrical e r) (scope : c.scope ≡ start_of texts) (some : 0 < c.natures)
    (clean : HasNoFaults (interface texts e c).notes) where
  abbrev zeros : List ℕ
  zeros = replicate c.natures 0

  abbrev start : Book
  start = record { scope = start_of texts; notes = no_notes; objects = s.objects; path = r.path; natures = 1 }

  long : length zeros ≡ c.natures
  long = length-replicate c.natures 0

  starts_alike : AlikeBooks zeros c start
  starts_alike =
      let there : 0 < length zeros = subst (λ (n : ℕ). 0 < n) (sym long) some in
      record {
        scopes = subst (λ (x : Scope). AlikeScopes zeros x (start_of texts)) (sym scope) (start_alike zeros there (zero_at c.natures 0) texts);
        count = long;
        some = there;
        told = refl;
      }

  entered : (entry : Entry) (generics ports : List (ℕ × Assigned)) (b : Book) → matched (port_numbers e.ports) r.ports ≡ Some ports → generics_entered texts generics 0 e.generics start ≡ Some b
      → ports_entered texts r.outer ports 0 e.ports (record { book = b; used = s.used }) ≡ Some entry → AlikeBooks zeros (interface texts e c) entry.book
  entered entry generics ports b is g p =
      ports_alike zeros (zero_at c.natures) texts r.outer ports e.ports 0 (fold (generic texts) c e.generics) (record { book = b; used = s.used }) entry (electrical ports is) p clean
      (generics_alike zeros texts generics e.generics 0 c start b g (ports_before texts e.ports (fold (generic texts) c e.generics) clean) starts_alike)

  pub entry_alike : (entry : Entry) → entry_of_instance texts r e s ≡ Some entry → AlikeBooks zeros (interface texts e c) entry.book
  entry_alike entry is =
      let first =
      if_some_step (List (ℕ × Assigned)) Entry
      (λ (generics : List (ℕ × Assigned)).
      if_some (λ (ports : List (ℕ × Assigned)).
      if_some (λ (b : Book). ports_entered texts r.outer ports 0 e.ports (record { book = b; used = s.used })) (generics_entered texts generics 0 e.generics start)) (matched (port_numbers e.ports) r.ports))
      (matched (generic_numbers e.generics) r.generics) entry is in
      let second =
      if_some_step (List (ℕ × Assigned)) Entry
      (λ (ports : List (ℕ × Assigned)). if_some (λ (b : Book). ports_entered texts r.outer ports 0 e.ports (record { book = b; used = s.used })) (generics_entered texts first.0 0 e.generics start))
      (matched (port_numbers e.ports) r.ports) entry first.1.1 in
      let third =
      if_some_step Book Entry (λ (b : Book). ports_entered texts r.outer second.0 0 e.ports (record { book = b; used = s.used })) (generics_entered texts first.0 0 e.generics start) entry second.1.1 in
      entered entry first.0 second.0 third.0 second.1.0 third.1.0 third.1.1

pub interfaces_follow : InterfacesFollow
interfaces_follow =
    record {
      before = interface_before;
      entry = λ texts r e s entry c is electrical scope some clean. entry_alike texts r e s c electrical scope some clean entry is;
    }
