-- Generics and ports of an instance that are read without a fault.
use Rattle.std.proofs.Common.{◌≡◌, ℕ, ◌+◌, Bool, true, false, not, if◌then◌else◌, List, [], ◌∷◌, ◌++◌, length, position, Option, Some, None, IfSome, refl, sym, subst, arith}
use Rattle.std.specs.Prelude.{◌&&◌}
use Rattle.std.specs.List.{fold}
use Rattle.std.specs.Str.{bytes_eq}
use Rattle.ams_token.specs.declared.token.Place.{Place}
use Rattle.ams_tree.specs.declared.expression.Name.{Name}
use Rattle.ams_tree.specs.declared.declaration.Generic.{Generic}
use Rattle.ams_tree.specs.declared.declaration.Mode.{Mode}
use Rattle.ams_tree.specs.declared.declaration.Port.{Port}
use Rattle.ams_tree.specs.declared.declaration.Port.TheVariants as port
use Rattle.ams_tree.specs.declared.design.Entity.{Entity}
use Rattle.ams_value.specs.declared.value_type.ValueType.TheVariants as t
use Rattle.name_scope.specs.declared.thing.Kind.TheVariants.{Of}
use Rattle.name_scope.specs.declared.thing.QuantityClass.{QuantityClass}
use Rattle.name_scope.specs.declared.thing.QuantityClass.TheVariants as class
use Rattle.name_scope.specs.declared.thing.Subtype.{Subtype}
use Rattle.name_scope.specs.declared.thing.Thing.{Thing}
use Rattle.name_scope.specs.declared.thing.Thing.TheVariants as thing
use Rattle.name_scope.specs.Scopes.{Region, declared_in, visible, lookup}
use Rattle.elab_meaning.specs.declared.book.Book.{Book}
use Rattle.elab_meaning.specs.declared.fault.Cause.TheVariants.{WrongType}
use Rattle.elab_meaning.specs.declared.fault.Notes.{Notes}
use Rattle.elab_meaning.specs.declared.part.Part.{Part}
use Rattle.elab_meaning.specs.declared.typed.Valued.{Valued}
use Rattle.elab_meaning.specs.Notes.{no_notes, noted}
use Rattle.elab_meaning.specs.Kinds.{same_kind}
use Rattle.elab_meaning.specs.Parts.{kept, closed}
use Rattle.elab_meaning.specs.Subtypes.{valued, holds_known}
use Rattle.elab_meaning.specs.Declarations.{declared, nature_named, with_notes}
use Rattle.unit_meaning.specs.declared.request.Actual.{Actual}
use Rattle.unit_meaning.specs.declared.request.Actual.TheVariants as actual
use Rattle.unit_meaning.specs.declared.request.Assigned.{Assigned}
use Rattle.unit_meaning.specs.declared.request.Request.{Request}
use Rattle.unit_meaning.specs.declared.site.Site.{Site}
use Rattle.unit_meaning.specs.Interfaces.{first_place, generic_default, is_out, access_of, quantity_subtype}
use Rattle.unit_meaning.specs.Units.{predefined, with_numbered, with_predefined, start_of}
use Rattle.unit_meaning.specs.Walk.{Entry, bound, matched, actual_at, range_notes, kind_suits, actual_value, default_thing, generic_entered, if_some, generic_names, is_there, generics_entered, signal_bound, new_port_signal, signal_entered, terminal_entered, is_source, is_used, out_bound, quantity_bound, quantity_entered, names_entered, judged_entry, port_entered, port_names, ports_entered, generic_numbers, port_numbers, entry_of_instance}
use Rattle.scope_laws.proofs.Names.{with_one}
use Rattle.kept_laws.specs.Kept.{IsThere, IsFaultless, NamesAreFaultless}
use Rattle.made_count_laws.proofs.Parts.{NoFaults, before_noted, IsKept, kept_there, Reads}
use Rattle.made_count_laws.proofs.Subtypes.{valued_reads, default_reads, port_reads, nature_reads}
use Rattle.made_count_laws.proofs.Books.{Makes, makes_none, makes_on, makes_as, makes_if, makes_declared, makes_notes, behind_part}
use Rattle.made_count_laws.proofs.Declarations.{One, two_make, signal_makes}

then_some : (A B : Type 0) (P : A → Type 0) (Q : B → Type 0) (f : A → Option B) (o : Option A) → IfSome o P → ((a : A) → P a → IfSome (f a) Q) → IfSome (if_some f o) Q
then_some A B P Q f (Some a) h g = g a h
then_some A B P Q f None h g = tt

-- no quantity is made
abbrev MakesNone : Type 0 → Book → Book → Type 0
MakesNone C b new = Makes C 0 b new

later : (C : Type 0) (b mid : Book) (o : Option Book) → MakesNone C b mid → IfSome o (MakesNone C mid) → IfSome o (MakesNone C b)
later C b mid (Some new) k l = two_make C b mid new k l
later C b mid None k l = tt

-- ---- generics

suits_there : (d : Option Valued) (a : Actual) → kind_suits d a ≡ true → IsThere d → IsFaultless (actual_value d a)
suits_there (Some d) (actual.Value k v) h c = tt
suits_there (Some d) actual.Open h c = absurd (cc)
suits_there (Some d) (actual.Object y x) h c = absurd (cc)
suits_there None a h c = absurd c

default_there : (d : Option Valued) → IsThere d → IsFaultless (default_thing d)
default_there (Some d) c = tt
default_there None c = c

range_before : (d : Option Valued) (a : Assigned) (n : Notes) → NoFaults (range_notes d a n) → NoFaults n
range_before None a n f = f
range_before (Some d) a n f = go a.actual f
  where
    choice : (b : Bool) → NoFaults (if b then n else noted a.place WrongType n) → NoFaults n
    choice true g = g
    choice false g = before_noted a.place WrongType n g

    go : (x : Actual) → NoFaults (elim x as (λ y. Notes) [ actual.Value k v ↦ (if holds_known d.subtype.constraint v then n else noted a.place WrongType n) | actual.Open ↦ n | actual.Object z w ↦ n ]) → NoFaults n
    go (actual.Value k v) g = choice (holds_known d.subtype.constraint v) g
    go actual.Open g = g
    go (actual.Object z w) g = g

one_generic : (d : Option Valued) (has : Bool) (o : Option Assigned) (x : Name) (b : Book) → IfSome (generic_entered d has o x b) (MakesNone (IsThere d) b)
one_generic d true None x b = makes_declared (IsThere d) (default_thing d) x b (default_there d)
one_generic d false None x b = tt
one_generic d has (Some a) x b = go (kind_suits d a.actual) refl
  where
    go : (c : Bool) → kind_suits d a.actual ≡ c
        → IfSome (if c then Some (declared (actual_value d a.actual) x (with_notes (range_notes d a b.notes) b)) else None) (MakesNone (IsThere d) b)
    go true is =
        let mid = with_notes (range_notes d a b.notes) b in
        two_make (IsThere d) b mid (declared (actual_value d a.actual) x mid) (makes_notes (IsThere d) (range_notes d a b.notes) b (range_before d a b.notes))
        (makes_declared (IsThere d) (actual_value d a.actual) x mid (suits_there d a.actual is))
    go false is = tt

generic_list : (given : List (ℕ × Assigned)) (d : Option Valued) (has : Bool) (i : ℕ) (names : List Name) (b : Book) → IfSome (generic_names given d has i names b) (MakesNone (IsThere d) b)
generic_list given d has i [] b = makes_none (IsThere d) b
generic_list given d has i (x ∷ more) b =
    then_some Book Book (MakesNone (IsThere d) b) (MakesNone (IsThere d) b) (generic_names given d has (i + 1) more) (generic_entered d has (actual_at given i) x b) (one_generic d has (actual_at given i) x b)
    (λ mid k. later (IsThere d) b mid (generic_names given d has (i + 1) more mid) k (generic_list given d has (i + 1) more mid))

-- behind a part that is read without a fault
part_behind : (A C : Type 0) (place : Place) (found : Notes × Part A) (b : Book) (o : Option Book) → (IsKept found.1 → C) → Reads (NamesAreFaultless b.scope) A b.notes found
    → IfSome o (MakesNone C (with_notes (closed place found.1 found.0) b)) → IfSome o (MakesNone One b)
part_behind A C place found b None g r m = tt
part_behind A C place found b (Some new) g r m =
    behind_part One A 0 place found b new r (makes_if C (One × IsKept found.1) 0 (with_notes (closed place found.1 found.0) b) new (λ p. g p.1) m)

generics_make : (texts : List (List ℕ)) (given : List (ℕ × Assigned)) (i : ℕ) (gs : List Generic) (b : Book) → IfSome (generics_entered texts given i gs b) (MakesNone One b)
generics_make texts given i [] b = makes_none One b
generics_make texts given i (g ∷ more) b =
    let d = generic_default texts b.scope g.indication g.default b.notes in
    let place = first_place g.constant g.names in
    let start = with_notes (closed place d.1 d.0) b in
    then_some Book Book (MakesNone One b) (MakesNone One b) (generics_entered texts given (i + length g.names) more) (generic_names given (kept d.1) (is_there g.default) i g.names start)
    (part_behind Valued (IsThere (kept d.1)) place d b (generic_names given (kept d.1) (is_there g.default) i g.names start) (kept_there Valued d.1) (default_reads texts b.scope g.indication g.default b.notes)
    (generic_list given (kept d.1) (is_there g.default) i g.names start))
    (λ mid k. later One b mid (generics_entered texts given (i + length g.names) more mid) k (generics_make texts given (i + length g.names) more mid))

-- ---- ports

abbrev Enters : Type 0 → Entry → Entry → Type 0
Enters C e new = Makes C 0 e.book new.book

bound_enters : (C : Type 0) (y : Thing) (x : Name) (e : Entry) → (C → IsFaultless y) → Enters C e (bound y x e)
bound_enters C y x e h = makes_declared C y x e.book h

where_bound : (C : Type 0) (b : Bool) (y : Thing) (x : Name) (e : Entry) → (C → IsFaultless y) → IfSome (if b then Some (bound y x e) else None) (Enters C e)
where_bound C true y x e h = bound_enters C y x e h
where_bound C false y x e h = tt

unless_bound : (C : Type 0) (b : Bool) (y : Thing) (x : Name) (e : Entry) → (C → IsFaultless y) → IfSome (if b then None else Some (bound y x e)) (Enters C e)
unless_bound C true y x e h = tt
unless_bound C false y x e h = bound_enters C y x e h

bound_some : (mode : Option Mode) (d : Valued) (y : ℕ) (v : Thing) (x : Name) (e : Entry) → IfSome (signal_bound mode (Some d) (actual.Object y v) x e) (Enters One e)
bound_some mode d y (thing.Signal i s a) x e = where_bound One (same_kind s.kind d.subtype.kind) (thing.Signal i d.subtype (access_of mode)) x e (λ c. tt)
bound_some mode d y thing.Domain x e = where_bound One (not (is_out mode) && same_kind d.subtype.kind (Of (t.Enumeration 0))) thing.Domain x e (λ c. tt)
bound_some mode d y _ x e = tt

never : ⊥ → IsFaultless thing.Faulty
never c = c

bound_none : (mode : Option Mode) (y : ℕ) (v : Thing) (x : Name) (e : Entry) → IfSome (signal_bound mode None (actual.Object y v) x e) (Enters ⊥ e)
bound_none mode y (thing.Signal i s a) x e = bound_enters ⊥ thing.Faulty x e never
bound_none mode y thing.Domain x e = unless_bound ⊥ (is_out mode) thing.Faulty x e never
bound_none mode y _ x e = tt

signal_at : (mode : Option Mode) (d : Option Valued) (a : Actual) (x : Name) (e : Entry) → IfSome (signal_bound mode d a x e) (Enters (IsThere d) e)
signal_at mode (Some d) (actual.Object y v) x e = bound_some mode d y v x e
signal_at mode (Some d) actual.Open x e = tt
signal_at mode (Some d) (actual.Value k v) x e = tt
signal_at mode None (actual.Object y v) x e = bound_none mode y v x e
signal_at mode None actual.Open x e = tt
signal_at mode None (actual.Value k v) x e = tt

new_enters : (texts : List (List ℕ)) (mode : Option Mode) (d : Option Valued) (x : Name) (b : Book) → Makes (IsThere d) 0 b (new_port_signal texts mode d x b)
new_enters texts mode (Some d) x b = signal_makes texts (access_of mode) d x b
new_enters texts mode None x b = makes_declared ⊥ thing.Faulty x b never

signal_enters : (texts : List (List ℕ)) (mode : Option Mode) (d : Option Valued) (o : Option Assigned) (x : Name) (e : Entry) → IfSome (signal_entered texts mode d o x e) (Enters (IsThere d) e)
signal_enters texts mode d None x e = new_enters texts mode d x e.book
signal_enters texts mode d (Some a) x e = signal_at mode d a.actual x e

terminal_of : (place : Place) (formal : Option ℕ) (y : ℕ) (v : Thing) (x : Name) (e : Entry)
    → IfSome (terminal_entered (Some (record { place = place; formal = formal; actual = actual.Object y v })) x e) (Enters One e)
terminal_of place formal y (thing.Terminal end m) x e = bound_enters One (thing.Terminal end m) x e (λ c. tt)
terminal_of place formal y _ x e = tt

terminal_at : (place : Place) (formal : Option ℕ) (a : Actual) (x : Name) (e : Entry) → IfSome (terminal_entered (Some (record { place = place; formal = formal; actual = a })) x e) (Enters One e)
terminal_at place formal (actual.Object y v) x e = terminal_of place formal y v x e
terminal_at place formal actual.Open x e = tt
terminal_at place formal (actual.Value k v) x e = tt

terminal_enters : (o : Option Assigned) (x : Name) (e : Entry) → IfSome (terminal_entered o x e) (Enters One e)
terminal_enters None x e = tt
terminal_enters (Some a) x e = terminal_at a.place a.formal a.actual x e

out_enters : (outer q : ℕ) (c : QuantityClass) (x : Name) (e : Entry) → IfSome (out_bound outer q c x e) (Enters One e)
out_enters outer q c x e = go (is_source c && not (is_used outer q e.used))
  where
    go : (b : Bool) → IfSome (if b then Some (record (bound (thing.Quantity q class.PortOut) x e) { used = e.used ++ (outer, q) ∷ [] }) else None) (Enters One e)
    go true = makes_declared One (thing.Quantity q class.PortOut) x e.book (λ u. tt)
    go false = tt

mode_enters : (outer q : ℕ) (c : QuantityClass) (b : Bool) (x : Name) (e : Entry) → IfSome (if b then out_bound outer q c x e else Some (bound (thing.Quantity q class.PortIn) x e)) (Enters One e)
mode_enters outer q c true x e = out_enters outer q c x e
mode_enters outer q c false x e = bound_enters One (thing.Quantity q class.PortIn) x e (λ u. tt)

quantity_bound_enters : (outer : ℕ) (mode : Option Mode) (v : Thing) (x : Name) (e : Entry) → IfSome (quantity_bound outer mode v x e) (Enters One e)
quantity_bound_enters outer mode (thing.Quantity q c) x e = mode_enters outer q c (is_out mode) x e
quantity_bound_enters outer mode _ x e = tt

quantity_at : (outer : ℕ) (mode : Option Mode) (place : Place) (formal : Option ℕ) (a : Actual) (x : Name) (e : Entry)
    → IfSome (quantity_entered outer mode (Some (record { place = place; formal = formal; actual = a })) x e) (Enters One e)
quantity_at outer mode place formal (actual.Object y v) x e = quantity_bound_enters outer mode v x e
quantity_at outer mode place formal actual.Open x e = tt
quantity_at outer mode place formal (actual.Value k v) x e = tt

quantity_enters : (outer : ℕ) (mode : Option Mode) (o : Option Assigned) (x : Name) (e : Entry) → IfSome (quantity_entered outer mode o x e) (Enters One e)
quantity_enters outer mode None x e = tt
quantity_enters outer mode (Some a) x e = quantity_at outer mode a.place a.formal a.actual x e

entry_later : (C : Type 0) (e mid : Entry) (o : Option Entry) → Enters C e mid → IfSome o (Enters C mid) → IfSome o (Enters C e)
entry_later C e mid (Some new) k l = two_make C e.book mid.book new.book k l
entry_later C e mid None k l = tt

names_enter : (C : Type 0) (rule : Option Assigned → Name → Entry → Option Entry) → ((o : Option Assigned) (x : Name) (e : Entry) → IfSome (rule o x e) (Enters C e))
    → (given : List (ℕ × Assigned)) (i : ℕ) (names : List Name) (e : Entry) → IfSome (names_entered rule given i names e) (Enters C e)
names_enter C rule h given i [] e = makes_none C e.book
names_enter C rule h given i (x ∷ more) e =
    then_some Entry Entry (Enters C e) (Enters C e) (names_entered rule given (i + 1) more) (rule (actual_at given i) x e) (h (actual_at given i) x e)
    (λ mid k. entry_later C e mid (names_entered rule given (i + 1) more mid) k (names_enter C rule h given (i + 1) more mid))

entry_behind : (A C : Type 0) (place : Place) (found : Notes × Part A) (e : Entry) (o : Option Entry) → (IsKept found.1 → C) → Reads (NamesAreFaultless e.book.scope) A e.book.notes found
    → IfSome o (Enters C (judged_entry place found e)) → IfSome o (Enters One e)
entry_behind A C place found e None g r m = tt
entry_behind A C place found e (Some new) g r m =
    behind_part One A 0 place found e.book new.book r (makes_if C (One × IsKept found.1) 0 (with_notes (closed place found.1 found.0) e.book) new.book (λ p. g p.1) m)

port_enters : (texts : List (List ℕ)) (outer : ℕ) (given : List (ℕ × Assigned)) (i : ℕ) (p : Port) (e : Entry) → IfSome (port_entered texts outer given i p e) (Enters One e)
port_enters texts outer given i (port.Signal place names mode type x) e =
    let d = valued texts e.book.scope type x e.book.notes in
    let start = judged_entry (first_place place names) d e in
    entry_behind Valued (IsThere (kept d.1)) (first_place place names) d e (names_entered (signal_entered texts mode (kept d.1)) given i names start) (kept_there Valued d.1)
    (valued_reads texts e.book.scope type x e.book.notes) (names_enter (IsThere (kept d.1)) (signal_entered texts mode (kept d.1)) (signal_enters texts mode (kept d.1)) given i names start)
port_enters texts outer given i (port.Terminal place names m) e =
    let found = nature_named m e.book in
    let start = judged_entry place found e in
    entry_behind ℕ One place found e (names_entered terminal_entered given i names start) (λ c. tt) (nature_reads m e.book) (names_enter One terminal_entered terminal_enters given i names start)
port_enters texts outer given i (port.Quantity place names mode type) e =
    let found = quantity_subtype texts type e.book in
    let start = judged_entry place found e in
    entry_behind Subtype One place found e (names_entered (quantity_entered outer mode) given i names start) (λ c. tt) (port_reads texts type e.book)
    (names_enter One (quantity_entered outer mode) (quantity_enters outer mode) given i names start)

ports_enter : (texts : List (List ℕ)) (outer : ℕ) (given : List (ℕ × Assigned)) (i : ℕ) (ps : List Port) (e : Entry) → IfSome (ports_entered texts outer given i ps e) (Enters One e)
ports_enter texts outer given i [] e = makes_none One e.book
ports_enter texts outer given i (p ∷ more) e =
    then_some Entry Entry (Enters One e) (Enters One e) (ports_entered texts outer given (i + length (port_names p)) more) (port_entered texts outer given i p e) (port_enters texts outer given i p e)
    (λ mid k. entry_later One e mid (ports_entered texts outer given (i + length (port_names p)) more mid) k (ports_enter texts outer given (i + length (port_names p)) more mid))

-- ---- the predefined names

abbrev EachSound : Region → Type 0
EachSound region = (x : ℕ) → IfSome (declared_in region x) IsFaultless

with_number : (o : Option ℕ) (t : Thing) (region : Region) → EachSound region → IsFaultless t → EachSound (with_numbered o t region)
with_number (Some name) t region h g x = with_one (λ (found : Option Thing). IfSome found IsFaultless) region name t x (h x) (λ k. g)
with_number None t region h g x = h x

abbrev Every : List (List ℕ × Thing) → Type 0
Every [] = Unit {0}
Every (p ∷ more) = IsFaultless p.1 × Every more

with_all : (texts : List (List ℕ)) (all : List (List ℕ × Thing)) (region : Region) → EachSound region → Every all → EachSound (fold (with_predefined texts) region all)
with_all texts [] region h g = h
with_all texts (p ∷ more) region h g = with_all texts more (with_predefined texts region p) (with_number (position (bytes_eq p.0) texts) p.1 region h g.0) g.1

seen : (o : Option Thing) → IfSome o IsFaultless → IfSome (visible o) IsFaultless
seen None h = tt
seen (Some thing.Label) h = tt
seen (Some thing.Faulty) h = h
seen (Some _) h = tt

each : Every predefined
each =
    (tt, (tt, (tt, (tt, (tt, (tt, (tt, (tt, (tt, (tt, (tt, (tt, (tt, (tt, (tt, (tt, (tt, (tt, (tt, (tt, (tt, (tt, (tt, (tt, (tt, (tt, tt))))))))))))))))))))))))))

pub start_sound : (texts : List (List ℕ)) → NamesAreFaultless (start_of texts)
start_sound texts x = seen (declared_in (fold (with_predefined texts) [] predefined) x) (with_all texts predefined [] (λ y. tt) each x)

-- ---- the whole

module _ (texts : List (List ℕ)) (r : Request) (e : Entity) (s : Site) where
  abbrev pub begin : Book
  begin = record { scope = start_of texts; notes = no_notes; objects = s.objects; path = r.path; natures = 1 }

  abbrev Anything : List (ℕ × Assigned) → Type 0
  Anything all = Unit {0}

  any : (o : Option (List (ℕ × Assigned))) → IfSome o Anything
  any (Some all) = tt
  any None = tt

  behind : (b : Book) → MakesNone One begin b → (o : Option Entry) → IfSome o (λ (entry : Entry). MakesNone One b entry.book) → IfSome o (λ (entry : Entry). MakesNone One begin entry.book)
  behind b k (Some entry) l = two_make One begin b entry.book k l
  behind b k None l = tt

  pub interface_makes : IfSome (entry_of_instance texts r e s) (λ (entry : Entry). MakesNone One begin entry.book)
  interface_makes =
      then_some (List (ℕ × Assigned)) Entry Anything (λ (entry : Entry). MakesNone One begin entry.book)
      (λ (generics : List (ℕ × Assigned)).
      if_some (λ (ports : List (ℕ × Assigned)).
      if_some (λ (b : Book). ports_entered texts r.outer ports 0 e.ports (record { book = b; used = s.used })) (generics_entered texts generics 0 e.generics begin))
      (matched (port_numbers e.ports) r.ports))
      (matched (generic_numbers e.generics) r.generics) (any (matched (generic_numbers e.generics) r.generics))
      (λ generics g.
      then_some (List (ℕ × Assigned)) Entry Anything (λ (entry : Entry). MakesNone One begin entry.book)
      (λ (ports : List (ℕ × Assigned)).
      if_some (λ (b : Book). ports_entered texts r.outer ports 0 e.ports (record { book = b; used = s.used })) (generics_entered texts generics 0 e.generics begin))
      (matched (port_numbers e.ports) r.ports) (any (matched (port_numbers e.ports) r.ports))
      (λ ports p.
      then_some Book Entry (MakesNone One begin) (λ (entry : Entry). MakesNone One begin entry.book) (λ (b : Book). ports_entered texts r.outer ports 0 e.ports (record { book = b; used = s.used }))
      (generics_entered texts generics 0 e.generics begin) (generics_make texts generics 0 e.generics begin)
      (λ b k. behind b k (ports_entered texts r.outer ports 0 e.ports (record { book = b; used = s.used })) (ports_enter texts r.outer ports 0 e.ports (record { book = b; used = s.used })))))
