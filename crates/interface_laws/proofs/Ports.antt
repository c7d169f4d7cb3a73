-- Ports, and what they are bound to.
use Rattle.std.proofs.Common.{◌≡◌, ◌+◌, ℕ, Bool, true, false, if◌then◌else◌, List, [], ◌∷◌, ◌++◌, Option, Some, None, IfSome, length, refl, sym, subst}
use Rattle.std.specs.Prelude.{◌&&◌, not}
use Rattle.std.specs.List.{slice_get, All}
use Rattle.ams_token.specs.declared.token.Place.{Place}
use Rattle.ams_tree.specs.declared.expression.Name.{Name}
use Rattle.ams_tree.specs.declared.declaration.Mode.{Mode}
use Rattle.ams_tree.specs.declared.declaration.Port.{Port}
use Rattle.ams_tree.specs.declared.declaration.Port.TheVariants as port
use Rattle.ams_value.specs.declared.value_type.ValueType.{ValueType}
use Rattle.ams_value.specs.declared.value_type.ValueType.TheVariants as t
use Rattle.flat_design.specs.declared.objects.Objects.{Objects}
use Rattle.name_scope.specs.declared.thing.Access.{Access}
use Rattle.name_scope.specs.declared.thing.Kind.{Kind}
use Rattle.name_scope.specs.declared.thing.Kind.TheVariants.{Of, Vector}
use Rattle.name_scope.specs.declared.thing.QuantityClass.{QuantityClass}
use Rattle.name_scope.specs.declared.thing.QuantityClass.TheVariants as class
use Rattle.name_scope.specs.declared.thing.Subtype.{Subtype}
use Rattle.name_scope.specs.declared.thing.Thing.{Thing}
use Rattle.name_scope.specs.declared.thing.Thing.TheVariants as thing
use Rattle.elab_meaning.specs.declared.book.Book.{Book}
use Rattle.elab_meaning.specs.declared.fault.Notes.{Notes}
use Rattle.elab_meaning.specs.declared.part.Part.{Part}
use Rattle.elab_meaning.specs.declared.part.Part.TheVariants.{Kept, Wrong, Hidden}
use Rattle.elab_meaning.specs.declared.typed.Valued.{Valued}
use Rattle.elab_meaning.specs.Kinds.{same_kind}
use Rattle.elab_meaning.specs.Parts.{kept, closed}
use Rattle.elab_meaning.specs.Subtypes.{valued}
use Rattle.elab_meaning.specs.Declarations.{nature_named, with_notes}
use Rattle.unit_meaning.specs.declared.request.Actual.{Actual}
use Rattle.unit_meaning.specs.declared.request.Actual.TheVariants as actual
use Rattle.unit_meaning.specs.declared.request.Assigned.{Assigned}
use Rattle.unit_meaning.specs.Interfaces.{first_place, is_out, access_of, quantity_subtype}
use Rattle.unit_meaning.specs.Walk.{Entry, bound, actual_at, signal_bound, new_port_signal, signal_entered, terminal_entered, is_source, is_used, out_bound, quantity_bound, quantity_entered, names_entered, judged_entry, port_entered, port_names, ports_entered}
use Rattle.design_rules.specs.Types.{sizes_of, equation_scope}
use Rattle.reading_laws.specs.Growing.{Grows}
use Rattle.typed_laws.specs.Fitting.{FitsKind}
use Rattle.part_laws.specs.Parts.{OnKept}
use Rattle.part_laws.proofs.Parts.{same_type_is}
use Rattle.subtype_laws.specs.Subtypes.{ValuedFits}
use Rattle.subtype_laws.proofs.Growth.{grows_subtype, grows_valued}
use Rattle.subtype_laws.proofs.Values.{valued_right}
use Rattle.declaration_laws.specs.Books.{KeepsBook}
use Rattle.declaration_laws.proofs.Steps.{Keeps, keeps_same, keeps_on, weaker, book_on, book_same, Holds, declared_keeps, PartRight, behind_part}
use Rattle.declaration_laws.proofs.Objects.{signal_keeps, Anything, nature_right, grows_nature}
use Rattle.interface_laws.specs.Requests.{IsPortActual, IsPortAssigned}
use Rattle.interface_laws.proofs.Matches.{then_some, Given, actual_is}

module _ (final : Objects) where
  -- an entry behind another, where C holds
  abbrev Enters : Type 0 → Entry → Entry → Type 0
  Enters C e behind = Keeps final C e.book behind.book

  abbrev OnValued : Option Valued → Type 0
  OnValued d = IfSome d (ValuedFits (sizes_of final))

  bound_keeps : (C : Type 0) (x : Thing) (name : Name) (e : Entry) → (C → Holds final x) → Enters C e (bound x name e)
  bound_keeps C x name e h = declared_keeps final C x name e.book (λ c s. h c)

  -- ---- signals

  kind_on : (o : Option ValueType) (s d : Kind) → same_kind s d ≡ true → FitsKind o s → (k : ValueType) → d ≡ Of k → FitsKind o d
  kind_on o (Of u) d is h k of =
      let same : same_kind (Of u) (Of k) ≡ true = subst (λ (z : Kind). same_kind (Of u) z ≡ true) of is in
      subst (λ (z : Kind). FitsKind o z) (sym of) (subst (λ (z : ValueType). o ≡ Some z) (same_type_is u k same) h)
  kind_on o Vector d is h k of = absurd h

  port_signal : (i : ℕ) (s : Subtype) (a : Access) (d : Valued) (access : Access) → same_kind s.kind d.subtype.kind ≡ true → Holds final (thing.Signal i s a) → ValuedFits (sizes_of final) d
      → Holds final (thing.Signal i d.subtype access)
  port_signal i s a d access is h c =
      record { fits = kind_on (slice_get (equation_scope final).signals i) s.kind d.subtype.kind is h.fits c.subtype.kind c.subtype.kind_is; also = c.subtype }

  same_signal : (mode : Option Mode) (d : Valued) (i : ℕ) (s : Subtype) (a : Access) (x : Name) (e : Entry) → Holds final (thing.Signal i s a)
      → IfSome (if same_kind s.kind d.subtype.kind then Some (bound (thing.Signal i d.subtype (access_of mode)) x e) else None) (Enters (ValuedFits (sizes_of final) d) e)
  same_signal mode d i s a x e h = go (same_kind s.kind d.subtype.kind) refl
    where
      go : (b : Bool) → same_kind s.kind d.subtype.kind ≡ b
          → IfSome (if b then Some (bound (thing.Signal i d.subtype (access_of mode)) x e) else None) (Enters (ValuedFits (sizes_of final) d) e)
      go true is = bound_keeps (ValuedFits (sizes_of final) d) (thing.Signal i d.subtype (access_of mode)) x e (λ c. port_signal i s a d (access_of mode) is h c)
      go false is = tt

  simple_bound : (C : Type 0) (b : Bool) (y : Thing) (x : Name) (e : Entry) → Holds final y → IfSome (if b then Some (bound y x e) else None) (Enters C e)
  simple_bound C true y x e h = bound_keeps C y x e (λ c. h)
  simple_bound C false y x e h = tt

  no_bound : (C : Type 0) (b : Bool) (y : Thing) (x : Name) (e : Entry) → Holds final y → IfSome (if b then None else Some (bound y x e)) (Enters C e)
  no_bound C true y x e h = tt
  no_bound C false y x e h = bound_keeps C y x e (λ c. h)

  bound_some : (mode : Option Mode) (d : Valued) (y : ℕ) (v : Thing) (x : Name) (e : Entry) → Holds final v
      → IfSome (signal_bound mode (Some d) (actual.Object y v) x e) (Enters (ValuedFits (sizes_of final) d) e)
  bound_some mode d y (thing.Signal i s a) x e h = same_signal mode d i s a x e h
  bound_some mode d y thing.Domain x e h =
      simple_bound (ValuedFits (sizes_of final) d) (not (is_out mode) && same_kind d.subtype.kind (Of (t.Enumeration 0))) thing.Domain x e (record { fits = tt; also = tt })
  bound_some mode d y _ x e h = tt

  bound_none : (mode : Option Mode) (y : ℕ) (v : Thing) (x : Name) (e : Entry) → IfSome (signal_bound mode None (actual.Object y v) x e) (Enters (Unit {0}) e)
  bound_none mode y (thing.Signal i s a) x e = bound_keeps (Unit {0}) thing.Faulty x e (λ c. record { fits = tt; also = tt })
  bound_none mode y thing.Domain x e = no_bound (Unit {0}) (is_out mode) thing.Faulty x e (record { fits = tt; also = tt })
  bound_none mode y _ x e = tt

  bound_right : (mode : Option Mode) (d : Option Valued) (a : Actual) (x : Name) (e : Entry) → IsPortActual final a → IfSome (signal_bound mode d a x e) (Enters (OnValued d) e)
  bound_right mode (Some d) (actual.Object y v) x e h = bound_some mode d y v x e h
  bound_right mode (Some d) actual.Open x e h = tt
  bound_right mode (Some d) (actual.Value k v) x e h = tt
  bound_right mode None (actual.Object y v) x e h = bound_none mode y v x e
  bound_right mode None actual.Open x e h = tt
  bound_right mode None (actual.Value k v) x e h = tt

  new_keeps : (texts : List (List ℕ)) (mode : Option Mode) (d : Option Valued) (x : Name) (b : Book) → Keeps final (OnValued d) b (new_port_signal texts mode d x b)
  new_keeps texts mode (Some d) x b = signal_keeps final texts (access_of mode) d x b
  new_keeps texts mode None x b = declared_keeps final (Unit {0}) thing.Faulty x b (λ c s. record { fits = tt; also = tt })

  signal_enters : (texts : List (List ℕ)) (mode : Option Mode) (d : Option Valued) (o : Option Assigned) (x : Name) (e : Entry) → IfSome o (IsPortAssigned final)
      → IfSome (signal_entered texts mode d o x e) (Enters (OnValued d) e)
  signal_enters texts mode d None x e h = new_keeps texts mode d x e.book
  signal_enters texts mode d (Some a) x e h = bound_right mode d a.actual x e h

  -- ---- terminals and quantities

  terminal_of : (place : Place) (formal : Option ℕ) (y : ℕ) (v : Thing) (x : Name) (e : Entry) → Holds final v
      → IfSome (terminal_entered (Some (record { place = place; formal = formal; actual = actual.Object y v })) x e) (Enters (Unit {0}) e)
  terminal_of place formal y (thing.Terminal end m) x e h = bound_keeps (Unit {0}) (thing.Terminal end m) x e (λ c. record { fits = h.fits; also = tt })
  terminal_of place formal y _ x e h = tt

  terminal_at : (place : Place) (formal : Option ℕ) (a : Actual) (x : Name) (e : Entry) → IsPortActual final a
      → IfSome (terminal_entered (Some (record { place = place; formal = formal; actual = a })) x e) (Enters (Unit {0}) e)
  terminal_at place formal (actual.Object y v) x e h = terminal_of place formal y v x e h
  terminal_at place formal actual.Open x e h = tt
  terminal_at place formal (actual.Value k v) x e h = tt

  terminal_enters : (o : Option Assigned) (x : Name) (e : Entry) → IfSome o (IsPortAssigned final) → IfSome (terminal_entered o x e) (Enters (Unit {0}) e)
  terminal_enters None x e h = tt
  terminal_enters (Some a) x e h = terminal_at a.place a.formal a.actual x e h

  out_right : (outer q : ℕ) (c : QuantityClass) (x : Name) (e : Entry) → Holds final (thing.Quantity q c) → IfSome (out_bound outer q c x e) (Enters (Unit {0}) e)
  out_right outer q c x e h = go (is_source c && not (is_used outer q e.used))
    where
      go : (b : Bool) → IfSome (if b then Some (record (bound (thing.Quantity q class.PortOut) x e) { used = e.used ++ (outer, q) ∷ [] }) else None) (Enters (Unit {0}) e)
      go true = bound_keeps (Unit {0}) (thing.Quantity q class.PortOut) x e (λ u. record { fits = h.fits; also = tt })
      go false = tt

  mode_right : (outer q : ℕ) (c : QuantityClass) (b : Bool) (x : Name) (e : Entry) → Holds final (thing.Quantity q c)
      → IfSome (if b then out_bound outer q c x e else Some (bound (thing.Quantity q class.PortIn) x e)) (Enters (Unit {0}) e)
  mode_right outer q c true x e h = out_right outer q c x e h
  mode_right outer q c false x e h = bound_keeps (Unit {0}) (thing.Quantity q class.PortIn) x e (λ u. record { fits = h.fits; also = tt })

  quantity_right : (outer : ℕ) (mode : Option Mode) (v : Thing) (x : Name) (e : Entry) → Holds final v → IfSome (quantity_bound outer mode v x e) (Enters (Unit {0}) e)
  quantity_right outer mode (thing.Quantity q c) x e h = mode_right outer q c (is_out mode) x e h
  quantity_right outer mode _ x e h = tt

  quantity_at : (outer : ℕ) (mode : Option Mode) (a : Actual) (x : Name) (e : Entry) → IsPortActual final a
      → IfSome (elim a as (λ y. Option Entry) [ actual.Object y v ↦ quantity_bound outer mode v x e | actual.Open ↦ None | actual.Value k v ↦ None ]) (Enters (Unit {0}) e)
  quantity_at outer mode (actual.Object y v) x e h = quantity_right outer mode v x e h
  quantity_at outer mode actual.Open x e h = tt
  quantity_at outer mode (actual.Value k v) x e h = tt

  quantity_enters : (outer : ℕ) (mode : Option Mode) (o : Option Assigned) (x : Name) (e : Entry) → IfSome o (IsPortAssigned final)
      → IfSome (quantity_entered outer mode o x e) (Enters (Unit {0}) e)
  quantity_enters outer mode None x e h = tt
  quantity_enters outer mode (Some a) x e h = quantity_at outer mode a.actual x e h

  -- ---- the names of one declaration

  later : (C : Type 0) (e mid : Entry) (o : Option Entry) → Enters C e mid → IfSome o (Enters C mid) → IfSome o (Enters C e)
  later C e mid (Some behind) k l = keeps_on final C e.book mid.book behind.book k l
  later C e mid None k l = tt

  names_keep : (C : Type 0) (rule : Option Assigned → Name → Entry → Option Entry)
      → ((o : Option Assigned) (x : Name) (e : Entry) → IfSome o (IsPortAssigned final) → IfSome (rule o x e) (Enters C e))
      → (given : List (ℕ × Assigned)) → All (Given (IsPortAssigned final)) given → (i : ℕ) (names : List Name) (e : Entry) → IfSome (names_entered rule given i names e) (Enters C e)
  names_keep C rule h given g i [] e = keeps_same final C e.book
  names_keep C rule h given g i (x ∷ more) e =
      then_some Entry Entry (Enters C e) (Enters C e) (names_entered rule given (i + 1) more) (rule (actual_at given i) x e)
      (h (actual_at given i) x e (actual_is (IsPortAssigned final) given i g))
      (λ mid k. later C e mid (names_entered rule given (i + 1) more mid) k (names_keep C rule h given g (i + 1) more mid))

  -- behind a part whose faults are noted at its place
  entered_behind : (A : Type 0) (R : A → Type 0) (C : Type 0) (place : Place) (found : Notes × Part A) (e : Entry) (o : Option Entry) → (OnKept R found.1 → C)
      → Grows e.book.notes found.0 → PartRight final A R found e.book → IfSome o (Enters C (judged_entry place found e)) → IfSome o (λ (behind : Entry). KeepsBook final e.book behind.book)
  entered_behind A R C place found e None h g part k = tt
  entered_behind A R C place found e (Some behind) h g part k =
      behind_part final A R place found e.book behind.book g part
      (weaker final (OnKept R found.1) C (with_notes (closed place found.1 found.0) e.book) behind.book h k)

  on_valued : (p : Part Valued) → OnKept (ValuedFits (sizes_of final)) p → OnValued (kept p)
  on_valued (Kept v) h = h
  on_valued Wrong h = tt
  on_valued Hidden h = tt

  abbrev AnySubtype : Subtype → Type 0
  AnySubtype s = Unit {0}

  any_subtype : (p : Part Subtype) → OnKept AnySubtype p
  any_subtype (Kept s) = tt
  any_subtype Wrong = tt
  any_subtype Hidden = tt

  -- ---- the whole

  port_keeps : (texts : List (List ℕ)) (outer : ℕ) (given : List (ℕ × Assigned)) → All (Given (IsPortAssigned final)) given → (i : ℕ) (p : Port) (e : Entry)
      → IfSome (port_entered texts outer given i p e) (λ (behind : Entry). KeepsBook final e.book behind.book)
  port_keeps texts outer given g i (port.Signal place names mode type x) e =
      let d = valued texts e.book.scope type x e.book.notes in
      let start = judged_entry (first_place place names) d e in
      entered_behind Valued (ValuedFits (sizes_of final)) (OnValued (kept d.1)) (first_place place names) d e (names_entered (signal_entered texts mode (kept d.1)) given i names start) (on_valued d.1)
      (grows_valued texts e.book.scope type x e.book.notes) (λ k. valued_right (equation_scope final) [] [] texts e.book.scope k.scope type x e.book.notes)
      (names_keep (OnValued (kept d.1)) (signal_entered texts mode (kept d.1)) (signal_enters texts mode (kept d.1)) given g i names start)
  port_keeps texts outer given g i (port.Terminal place names m) e =
      let found = nature_named m e.book in
      let start = judged_entry place found e in
      entered_behind ℕ (Anything final) (Unit {0}) place found e (names_entered terminal_entered given i names start) (λ c. tt) (grows_nature final m e.book) (nature_right final m e.book)
      (names_keep (Unit {0}) terminal_entered terminal_enters given g i names start)
  port_keeps texts outer given g i (port.Quantity place names mode type) e =
      let found = quantity_subtype texts type e.book in
      let start = judged_entry place found e in
      entered_behind Subtype AnySubtype (Unit {0}) place found e (names_entered (quantity_entered outer mode) given i names start) (λ c. tt)
      (grows_subtype texts e.book.scope type e.book.notes) (λ k f. any_subtype found.1)
      (names_keep (Unit {0}) (quantity_entered outer mode) (quantity_enters outer mode) given g i names start)

  behind_book : (b : Book) (mid : Entry) (o : Option Entry) → KeepsBook final b mid.book → IfSome o (λ (behind : Entry). KeepsBook final mid.book behind.book)
      → IfSome o (λ (behind : Entry). KeepsBook final b behind.book)
  behind_book b mid (Some behind) k l = book_on final b mid.book behind.book k l
  behind_book b mid None k l = tt

  pub ports_keep : (texts : List (List ℕ)) (outer : ℕ) (given : List (ℕ × Assigned)) → All (Given (IsPortAssigned final)) given → (i : ℕ) (ps : List Port) (e : Entry)
      → IfSome (ports_entered texts outer given i ps e) (λ (behind : Entry). KeepsBook final e.book behind.book)
  ports_keep texts outer given g i [] e = book_same final e.book
  ports_keep texts outer given g i (p ∷ more) e =
      then_some Entry Entry (λ (behind : Entry). KeepsBook final e.book behind.book) (λ (behind : Entry). KeepsBook final e.book behind.book)
      (ports_entered texts outer given (i + length (port_names p)) more) (port_entered texts outer given i p e) (port_keeps texts outer given g i p e)
      (λ mid k. behind_book e.book mid (ports_entered texts outer given (i + length (port_names p)) more mid) k (ports_keep texts outer given g (i + length (port_names p)) more mid))
