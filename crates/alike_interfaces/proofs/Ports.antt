-- Ports.
use Rattle.std.proofs.Common.{◌≡◌, ◌<◌, ◌+◌, ℕ, pos, Bool, true, false, if◌then◌else◌, List, [], ◌∷◌, ◌++◌, length, Option, Some, None, refl, sym, ◌∙◌}
use Rattle.std.specs.Prelude.{not, ◌&&◌}
use Rattle.std.specs.List.{fold}
use Rattle.ams_token.specs.declared.token.Place.{Place}
use Rattle.ams_tree.specs.declared.expression.Name.{Name}
use Rattle.ams_tree.specs.declared.declaration.Mode.{Mode}
use Rattle.ams_tree.specs.declared.declaration.Port.{Port}
use Rattle.ams_tree.specs.declared.declaration.Port.TheVariants as port
use Rattle.ams_value.specs.declared.value_type.ValueType.TheVariants as t
use Rattle.flat_design.specs.declared.objects.Terminal.TheVariants as terminal
use Rattle.flat_design.specs.declared.objects.QuantityKind.TheVariants as flat
use Rattle.name_scope.specs.declared.thing.Access.{Access}
use Rattle.name_scope.specs.declared.thing.Kind.TheVariants.{Of}
use Rattle.name_scope.specs.declared.thing.QuantityClass.{QuantityClass}
use Rattle.name_scope.specs.declared.thing.QuantityClass.TheVariants as class
use Rattle.name_scope.specs.declared.thing.Subtype.{Subtype}
use Rattle.name_scope.specs.declared.thing.Thing.{Thing}
use Rattle.name_scope.specs.declared.thing.Thing.TheVariants as thing
use Rattle.name_scope.specs.Scopes.{lookup}
use Rattle.elab_meaning.specs.declared.book.Book.{Book}
use Rattle.elab_meaning.specs.declared.typed.Valued.{Valued}
use Rattle.elab_meaning.specs.Kinds.{same_kind}
use Rattle.elab_meaning.specs.Subtypes.{valued}
use Rattle.elab_meaning.specs.Declarations.{declared, with_signal, with_quantity, each, signal_of, node, nature_named}
use Rattle.unit_meaning.specs.declared.request.Actual.{Actual}
use Rattle.unit_meaning.specs.declared.request.Actual.TheVariants as actual
use Rattle.unit_meaning.specs.declared.request.Assigned.{Assigned}
use Rattle.unit_meaning.specs.Interfaces.{first_place, is_out, access_of, class_of, quantity_subtype, quantity_port, port_declaration}
use Rattle.unit_meaning.specs.Walk.{Entry, bound, signal_bound, new_port_signal, signal_entered, terminal_entered, is_source, is_used, out_bound, quantity_bound, quantity_entered, names_entered, actual_at}
use Rattle.alike_laws.specs.Alike.{HasNoFaults, at_instance, AlikeThing}
use Rattle.alike_books.specs.Books.{AlikeBooks}
use Rattle.alike_books.proofs.Before.{RuleBefore, found_before, valued_before, subtype_before, each_before, declaring_before}
use Rattle.alike_books.proofs.Names.{declared_alike}
use Rattle.alike_books.proofs.Objects.{with_node, broken_alike, signal_alike, quantity_alike, terminal_alike, signal_before, node_before, quantity_of_before, signals_alike, signals_broken}
use Rattle.alike_interfaces.specs.Interfaces.{IsElectrical, IsElectricalActual, NamesAreElectrical}
use Rattle.alike_interfaces.proofs.Generics.{if_some_step, some_is}

-- ---- the check breaks no rule before

pub port_before : (texts : List (List ℕ)) (p : Port) (b : Book) → HasNoFaults (port_declaration texts b p).notes → HasNoFaults b.notes
port_before texts (port.Signal place names mode i x) b h =
    valued_before texts b.scope i x b.notes
    (declaring_before Valued (signal_of texts (access_of mode)) (signal_before texts (access_of mode)) (first_place place names) names (valued texts b.scope i x b.notes) b h)
port_before texts (port.Terminal place names m) b h =
    found_before m (lookup b.scope m.number) b.notes (declaring_before ℕ (node texts) (node_before texts) place names (nature_named m b) b h)
port_before texts (port.Quantity place names mode i) b h =
    subtype_before texts b.scope i b.notes
    (declaring_before Subtype (quantity_port texts (class_of mode)) (λ s. quantity_of_before texts flat.Free (class_of mode) (pos 0)) place names (quantity_subtype texts i b) b h)

pub ports_before : (texts : List (List ℕ)) (ps : List Port) (b : Book) → HasNoFaults (fold (port_declaration texts) b ps).notes → HasNoFaults b.notes
ports_before texts [] b h = h
ports_before texts (p ∷ more) b h = port_before texts p b (ports_before texts more (port_declaration texts b p) h)

-- ---- names of ports

module _ (natures : List ℕ) where
  -- the check declares a name by the rule, and an instance enters it with its actual
  abbrev pub EntersAlike : (Name → Book → Book) → (Option Assigned → Name → Entry → Option Entry) → Option Assigned → Type 0
  EntersAlike f g o = (x : Name) (c : Book) (i j : Entry) → g o x i ≡ Some j → HasNoFaults (f x c).notes → AlikeBooks natures c i.book → AlikeBooks natures (f x c) j.book

  -- the same of the names of a declaration, from this place among all ports
  abbrev pub EachEnters : (Name → Book → Book) → (Option Assigned → Name → Entry → Option Entry) → List (ℕ × Assigned) → ℕ → List Name → Type 0
  EachEnters f g given k [] = Unit {0}
  EachEnters f g given k (x ∷ more) = EntersAlike f g (actual_at given k) × EachEnters f g given (k + 1) more

  pub every_name : (f : Name → Book → Book) (g : Option Assigned → Name → Entry → Option Entry) (given : List (ℕ × Assigned)) (k : ℕ) (names : List Name)
      → ((o : Option Assigned) → EntersAlike f g o) → EachEnters f g given k names
  every_name f g given k [] h = tt
  every_name f g given k (x ∷ more) h = (h (actual_at given k), every_name f g given (k + 1) more h)

  pub names_alike : (f : Name → Book → Book) (g : Option Assigned → Name → Entry → Option Entry) → RuleBefore f → (given : List (ℕ × Assigned)) (k : ℕ) (names : List Name) → EachEnters f g given k names
      → (c : Book) (i j : Entry) → names_entered g given k names i ≡ Some j → HasNoFaults (each f names c).notes → AlikeBooks natures c i.book → AlikeBooks natures (each f names c) j.book
  names_alike f g r given k [] all c i j e n h = some_is Entry (λ (s : Entry). AlikeBooks natures c s.book) i j h e
  names_alike f g r given k (x ∷ more) all c i j e n h =
      let step = if_some_step Entry Entry (names_entered g given (k + 1) more) (g (actual_at given k) x i) j e in
      names_alike f g r given (k + 1) more all.1 (f x c) step.0 j step.1.1 n (all.0 x c i step.0 step.1.0 (each_before f r more (f x c) n) h)

  -- ---- signals

  beside_domain : (k : ℕ) (s : Subtype) (a : Access) → AlikeThing natures (thing.Signal k s a) thing.Domain
  beside_domain k s a = record { whole = refl; label = refl; changing = λ h. refl; terminal_known = tt; terminal = tt; nature_known = tt; nature = tt }

  module _ (texts : List (List ℕ)) (mode : Option Mode) (v : Valued) where
    abbrev port_signal : Book → Thing
    port_signal c = thing.Signal (length c.objects.signals) v.subtype (access_of mode)

    -- a thing that a port of the check's signal may be bound to
    bound_alike : (t : Thing) (x : Name) (c : Book) (i j : Entry) → AlikeThing natures (port_signal c) t → Some (bound t x i) ≡ Some j → HasNoFaults (signal_of texts (access_of mode) v x c).notes
        → AlikeBooks natures c i.book → AlikeBooks natures (signal_of texts (access_of mode) v x c) j.book
    bound_alike t x c i j a e n h =
        some_is Entry (λ (s : Entry). AlikeBooks natures (signal_of texts (access_of mode) v x c) s.book) (bound t x i) j
        (declared_alike natures (port_signal c) t x (with_signal texts v x c) i.book a n (record { scopes = h.scopes; count = h.count; some = h.some; told = h.told })) e

    broken_signal : (c : Book) → AlikeThing natures (port_signal c) thing.Faulty
    broken_signal c = broken_alike natures (port_signal c) refl refl tt tt

    actual_alike : (d : Option Valued) (a : Actual) (x : Name) (c : Book) (i j : Entry) → signal_bound mode d a x i ≡ Some j → HasNoFaults (signal_of texts (access_of mode) v x c).notes
        → AlikeBooks natures c i.book → AlikeBooks natures (signal_of texts (access_of mode) v x c) j.book
    actual_alike (Some d) (actual.Object y (thing.Signal k s b)) x c i j e n h = go (same_kind s.kind d.subtype.kind) e
      where
        go : (q : Bool) → (if q then Some (bound (thing.Signal k d.subtype (access_of mode)) x i) else None) ≡ Some j → AlikeBooks natures (signal_of texts (access_of mode) v x c) j.book
        go true e =
            bound_alike (thing.Signal k d.subtype (access_of mode)) x c i j (signal_alike natures (length c.objects.signals) k v.subtype d.subtype (access_of mode) (access_of mode)) e n h
        go false e = absurd (cc)
    actual_alike (Some d) (actual.Object y thing.Domain) x c i j e n h = go (not (is_out mode) && same_kind d.subtype.kind (Of (t.Enumeration 0))) e
      where
        go : (q : Bool) → (if q then Some (bound thing.Domain x i) else None) ≡ Some j → AlikeBooks natures (signal_of texts (access_of mode) v x c) j.book
        go true e = bound_alike thing.Domain x c i j (beside_domain (length c.objects.signals) v.subtype (access_of mode)) e n h
        go false e = absurd (cc)
    actual_alike None (actual.Object y (thing.Signal k s b)) x c i j e n h = bound_alike thing.Faulty x c i j (broken_signal c) e n h
    actual_alike None (actual.Object y thing.Domain) x c i j e n h = go (is_out mode) e
      where
        go : (q : Bool) → (if q then None else Some (bound thing.Faulty x i)) ≡ Some j → AlikeBooks natures (signal_of texts (access_of mode) v x c) j.book
        go true e = absurd (cc)
        go false e = bound_alike thing.Faulty x c i j (broken_signal c) e n h
    actual_alike d a x c i j e n h = absurd (cc)

    new_alike : (d : Option Valued) (x : Name) (c : Book) (i j : Entry) → signal_entered texts mode d None x i ≡ Some j → HasNoFaults (signal_of texts (access_of mode) v x c).notes
        → AlikeBooks natures c i.book → AlikeBooks natures (signal_of texts (access_of mode) v x c) j.book
    new_alike (Some d) x c i j e n h =
        some_is Entry (λ (s : Entry). AlikeBooks natures (signal_of texts (access_of mode) v x c) s.book) (record i { book = new_port_signal texts mode (Some d) x i.book }) j
        (signals_alike natures texts (access_of mode) (access_of mode) v d x c i.book n h) e
    new_alike None x c i j e n h =
        some_is Entry (λ (s : Entry). AlikeBooks natures (signal_of texts (access_of mode) v x c) s.book) (record i { book = new_port_signal texts mode None x i.book }) j
        (signals_broken natures texts (access_of mode) v x c i.book n h) e

    pub signal_enters : (d : Option Valued) (o : Option Assigned) → EntersAlike (signal_of texts (access_of mode) v) (signal_entered texts mode d) o
    signal_enters d None x c i j e n h = new_alike d x c i j e n h
    signal_enters d (Some a) x c i j e n h = actual_alike d a.actual x c i j e n h

  -- ---- terminals

  module _ (texts : List (List ℕ)) (m : ℕ) (known : m < length natures) (outside : at_instance natures m ≡ 0) where
    abbrev port_node : Book → Thing
    port_node c = thing.Terminal (terminal.Node (length c.objects.nodes)) m

    node_bound : (a : Actual) (x : Name) (c : Book) (i j : Entry) → IsElectrical a → (place : Place) (formal : Option ℕ) → terminal_entered (Some (record { place = place; formal = formal; actual = a })) x i ≡ Some j
        → HasNoFaults (node texts m x c).notes → AlikeBooks natures c i.book → AlikeBooks natures (node texts m x c) j.book
    node_bound (actual.Object y (thing.Terminal end k)) x c i j zero place formal e n h =
        some_is Entry (λ (s : Entry). AlikeBooks natures (node texts m x c) s.book) (bound (thing.Terminal end k) x i) j
        (declared_alike natures (port_node c) (thing.Terminal end k) x (with_node texts x c) i.book (terminal_alike natures (terminal.Node (length c.objects.nodes)) end m k known (zero ∙ sym outside)) n
        (record { scopes = h.scopes; count = h.count; some = h.some; told = h.told })) e
    node_bound actual.Open x c i j zero place formal e n h = absurd (cc)
    node_bound (actual.Value k v) x c i j zero place formal e n h = absurd (cc)
    node_bound (actual.Object y u) x c i j zero place formal e n h = absurd (cc)

    pub terminal_enters : (o : Option Assigned) → IsElectricalActual o → EntersAlike (node texts m) terminal_entered o
    terminal_enters None zero x c i j e n h = absurd (cc)
    terminal_enters (Some a) zero x c i j e n h = node_bound a.actual x c i j zero a.place a.formal e n h

    pub every_terminal : (given : List (ℕ × Assigned)) (k : ℕ) (names : List Name) → NamesAreElectrical given k names → EachEnters (node texts m) terminal_entered given k names
    every_terminal given k [] h = tt
    every_terminal given k (x ∷ more) h = (terminal_enters (actual_at given k) h.0, every_terminal given (k + 1) more h.1)

  -- ---- quantities

  module _ (texts : List (List ℕ)) (outer : ℕ) (mode : Option Mode) (s : Subtype) where
    abbrev port_quantity : Book → Thing
    port_quantity c = thing.Quantity (length c.objects.quantities) (class_of mode)

    quantity_alike_at : (q : ℕ) (k : QuantityClass) (x : Name) (c : Book) (i : Entry) → HasNoFaults (quantity_port texts (class_of mode) s x c).notes → AlikeBooks natures c i.book
        → AlikeBooks natures (quantity_port texts (class_of mode) s x c) (declared (thing.Quantity q k) x i.book)
    quantity_alike_at q k x c i n h =
        declared_alike natures (port_quantity c) (thing.Quantity q k) x (with_quantity texts flat.Free (pos 0) x c) i.book (quantity_alike natures (length c.objects.quantities) q (class_of mode) k) n
        (record { scopes = h.scopes; count = h.count; some = h.some; told = h.told })

    out_alike : (q : ℕ) (k : QuantityClass) (x : Name) (c : Book) (i j : Entry) → out_bound outer q k x i ≡ Some j → HasNoFaults (quantity_port texts (class_of mode) s x c).notes → AlikeBooks natures c i.book
        → AlikeBooks natures (quantity_port texts (class_of mode) s x c) j.book
    out_alike q k x c i j e n h = go (is_source k && not (is_used outer q i.used)) e
      where
        go : (b : Bool) → (if b then Some (record (bound (thing.Quantity q class.PortOut) x i) { used = i.used ++ (outer, q) ∷ [] }) else None) ≡ Some j → AlikeBooks natures (quantity_port texts (class_of mode) s x c) j.book
        go true e =
            some_is Entry (λ (y : Entry). AlikeBooks natures (quantity_port texts (class_of mode) s x c) y.book) (record (bound (thing.Quantity q class.PortOut) x i) { used = i.used ++ (outer, q) ∷ [] }) j
            (quantity_alike_at q class.PortOut x c i n h) e
        go false e = absurd (cc)

    thing_alike : (u : Thing) (x : Name) (c : Book) (i j : Entry) → quantity_bound outer mode u x i ≡ Some j → HasNoFaults (quantity_port texts (class_of mode) s x c).notes → AlikeBooks natures c i.book
        → AlikeBooks natures (quantity_port texts (class_of mode) s x c) j.book
    thing_alike (thing.Quantity q k) x c i j e n h = go (is_out mode) e
      where
        go : (b : Bool) → (if b then out_bound outer q k x i else Some (bound (thing.Quantity q class.PortIn) x i)) ≡ Some j → AlikeBooks natures (quantity_port texts (class_of mode) s x c) j.book
        go true e = out_alike q k x c i j e n h
        go false e =
            some_is Entry (λ (y : Entry). AlikeBooks natures (quantity_port texts (class_of mode) s x c) y.book) (bound (thing.Quantity q class.PortIn) x i) j (quantity_alike_at q class.PortIn x c i n h) e
    thing_alike u x c i j e n h = absurd (cc)

    actual_quantity : (a : Actual) (place : Place) (formal : Option ℕ) (x : Name) (c : Book) (i j : Entry) → quantity_entered outer mode (Some (record { place = place; formal = formal; actual = a })) x i ≡ Some j
        → HasNoFaults (quantity_port texts (class_of mode) s x c).notes → AlikeBooks natures c i.book → AlikeBooks natures (quantity_port texts (class_of mode) s x c) j.book
    actual_quantity (actual.Object y u) place formal x c i j e n h = thing_alike u x c i j e n h
    actual_quantity actual.Open place formal x c i j e n h = absurd (cc)
    actual_quantity (actual.Value k v) place formal x c i j e n h = absurd (cc)

    pub quantity_enters : (o : Option Assigned) → EntersAlike (quantity_port texts (class_of mode) s) (quantity_entered outer mode) o
    quantity_enters None x c i j e n h = absurd (cc)
    quantity_enters (Some a) x c i j e n h = actual_quantity a.actual a.place a.formal x c i j e n h
