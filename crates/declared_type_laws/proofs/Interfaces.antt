-- Generics and ports of an instance.
use Rattle.std.proofs.Common.{◌≡◌, ◌+◌, ℕ, Bool, true, false, if◌then◌else◌, List, [], ◌∷◌, ◌++◌, length, Option, Some, None, IfSome, refl}
use Rattle.std.specs.Prelude.{◌&&◌, not}
use Rattle.ams_token.specs.declared.token.Place.{Place}
use Rattle.ams_tree.specs.declared.declaration.Generic.{Generic}
use Rattle.ams_tree.specs.declared.declaration.Mode.{Mode}
use Rattle.ams_tree.specs.declared.declaration.Port.{Port}
use Rattle.ams_tree.specs.declared.declaration.Port.TheVariants as port
use Rattle.ams_tree.specs.declared.declaration.SubtypeIndication.{SubtypeIndication}
use Rattle.ams_tree.specs.declared.expression.Expr.{Expr}
use Rattle.ams_tree.specs.declared.expression.Name.{Name}
use Rattle.ams_value.specs.declared.value_type.ValueType.TheVariants as t
use Rattle.name_scope.specs.declared.scope.Scope.{Scope}
use Rattle.name_scope.specs.declared.thing.Kind.TheVariants.{Of}
use Rattle.name_scope.specs.declared.thing.QuantityClass.{QuantityClass}
use Rattle.name_scope.specs.declared.thing.QuantityClass.TheVariants as class
use Rattle.name_scope.specs.declared.thing.Subtype.{Subtype}
use Rattle.name_scope.specs.declared.thing.Thing.{Thing}
use Rattle.name_scope.specs.declared.thing.Thing.TheVariants as thing
use Rattle.elab_meaning.specs.declared.book.Book.{Book}
use Rattle.elab_meaning.specs.declared.fault.Notes.{Notes}
use Rattle.elab_meaning.specs.declared.part.Part.{Part}
use Rattle.elab_meaning.specs.declared.typed.Valued.{Valued}
use Rattle.elab_meaning.specs.Kinds.{same_kind}
use Rattle.elab_meaning.specs.Parts.{kept, closed}
use Rattle.elab_meaning.specs.Subtypes.{subtype, valued}
use Rattle.elab_meaning.specs.Declarations.{declared, with_notes, nature_named}
use Rattle.unit_meaning.specs.declared.request.Actual.{Actual}
use Rattle.unit_meaning.specs.declared.request.Actual.TheVariants as actual
use Rattle.unit_meaning.specs.declared.request.Assigned.{Assigned}
use Rattle.unit_meaning.specs.Interfaces.{first_place, unvalued, generic_default, is_out, access_of, quantity_subtype}
use Rattle.unit_meaning.specs.Walk.{Entry, bound, actual_at, if_some, range_notes, kind_suits, actual_value, default_thing, generic_entered, generic_names, is_there, generics_entered, signal_bound, new_port_signal, signal_entered, terminal_entered, is_source, is_used, out_bound, quantity_bound, quantity_entered, names_entered, judged_entry, port_entered, port_names, ports_entered}
use Rattle.declared_type_laws.specs.Types.{has_declared, BookHasDeclared, NamesHaveDeclared}
use Rattle.declared_type_laws.proofs.Subtypes.{OnPart, judged_on}
use Rattle.declared_type_laws.proofs.Books.{count, subtype_declared, valued_declared, Goes, Stays, goes_same, goes_on, declared_goes, notes_go, FineAt, fine_stays, signal_goes}

pub then_some : (A B : Type 0) (P : A → Type 0) (Q : B → Type 0) (f : A → Option B) (o : Option A) → IfSome o P → ((a : A) → P a → IfSome (f a) Q) → IfSome (if_some f o) Q
then_some A B P Q f (Some a) h g = g a h
then_some A B P Q f None h g = tt

-- the subtype of a declaration, where it keeps the rules
abbrev MayAt : Option Valued → ℕ → Type 0
MayAt d n = IfSome d (FineAt n)

may_stays : (d : Option Valued) → Stays (MayAt d)
may_stays (Some v) m n h g = fine_stays v m n h g
may_stays None m n h g = tt

on_kept : (n : ℕ) (p : Part Valued) → OnPart Valued (FineAt n) p → MayAt (kept p) n
on_kept n p h = h

-- ---- generics

abbrev BookGoes : Book → Option Book → Type 0
BookGoes b o = IfSome o (Goes b)

book_later : (b mid : Book) (o : Option Book) → Goes b mid → BookGoes mid o → BookGoes b o
book_later b mid (Some behind) k l = goes_on b mid behind k l
book_later b mid None k l = tt

actual_fine : (n : ℕ) (d : Option Valued) (a : Actual) → MayAt d n → has_declared n (actual_value d a) ≡ true
actual_fine n (Some d) (actual.Value k v) h = h
actual_fine n (Some d) actual.Open h = refl
actual_fine n (Some d) (actual.Object y x) h = refl
actual_fine n None a h = refl

default_fine : (n : ℕ) (d : Option Valued) → MayAt d n → has_declared n (default_thing d) ≡ true
default_fine n (Some d) h = h
default_fine n None h = refl

generic_goes : (d : Option Valued) (has : Bool) (o : Option Assigned) (x : Name) (b : Book) → MayAt d (count b) → BookGoes b (generic_entered d has o x b)
generic_goes d true None x b h = declared_goes (default_thing d) x b (default_fine (count b) d h)
generic_goes d false None x b h = tt
generic_goes d has (Some a) x b h = go (kind_suits d a.actual)
  where
    go : (c : Bool) → BookGoes b (if c then Some (declared (actual_value d a.actual) x (with_notes (range_notes d a b.notes) b)) else None)
    go true =
        let mid = with_notes (range_notes d a b.notes) b in
        goes_on b mid (declared (actual_value d a.actual) x mid) (notes_go (range_notes d a b.notes) b) (declared_goes (actual_value d a.actual) x mid (actual_fine (count b) d a.actual h))
    go false = tt

generic_names_go : (given : List (ℕ × Assigned)) (d : Option Valued) (has : Bool) (i : ℕ) (names : List Name) (b : Book) → MayAt d (count b) → BookGoes b (generic_names given d has i names b)
generic_names_go given d has i [] b h = goes_same b
generic_names_go given d has i (x ∷ more) b h =
    then_some Book Book (Goes b) (Goes b) (generic_names given d has (i + 1) more) (generic_entered d has (actual_at given i) x b) (generic_goes d has (actual_at given i) x b h)
    (λ mid k. book_later b mid (generic_names given d has (i + 1) more mid) k (generic_names_go given d has (i + 1) more mid (may_stays d (count b) (count mid) k.grows h)))

default_of : (texts : List (List ℕ)) (n : ℕ) (scope : Scope) → NamesHaveDeclared n scope → (i : SubtypeIndication) (x : Option Expr) (m : Notes)
    → OnPart Valued (FineAt n) (generic_default texts scope i x m).1
default_of texts n scope h i None m =
    judged_on Subtype Valued (λ s. FineAt n (record { subtype = s; value = None })) (FineAt n) unvalued (λ s g. g) (subtype texts scope i m).1 (subtype_declared n texts scope h i m)
default_of texts n scope h i (Some x) m = valued_declared n texts scope h i (Some x) m

generics_go : (texts : List (List ℕ)) (given : List (ℕ × Assigned)) (i : ℕ) (gs : List Generic) (b : Book) → BookHasDeclared b → BookGoes b (generics_entered texts given i gs b)
generics_go texts given i [] b h = goes_same b
generics_go texts given i (g ∷ more) b h =
    let d = generic_default texts b.scope g.indication g.default b.notes in
    let start = with_notes (closed (first_place g.constant g.names) d.1 d.0) b in
    then_some Book Book (Goes b) (Goes b) (generics_entered texts given (i + length g.names) more) (generic_names given (kept d.1) (is_there g.default) i g.names start)
    (book_later b start (generic_names given (kept d.1) (is_there g.default) i g.names start) (notes_go start.notes b)
    (generic_names_go given (kept d.1) (is_there g.default) i g.names start (default_of texts (count b) b.scope h g.indication g.default b.notes)))
    (λ mid k. book_later b mid (generics_entered texts given (i + length g.names) more mid) k (generics_go texts given (i + length g.names) more mid (k.keeps h)))

-- ---- ports

abbrev Enters : Entry → Option Entry → Type 0
Enters e o = IfSome o (λ (behind : Entry). Goes e.book behind.book)

entry_later : (e mid : Entry) (o : Option Entry) → Goes e.book mid.book → Enters mid o → Enters e o
entry_later e mid (Some behind) k l = goes_on e.book mid.book behind.book k l
entry_later e mid None k l = tt

-- where it is bound
if_bound : (b : Bool) (y : Thing) (x : Name) (e : Entry) → has_declared (count e.book) y ≡ true → Enters e (if b then Some (bound y x e) else None)
if_bound true y x e h = declared_goes y x e.book h
if_bound false y x e h = tt

unless_bound : (b : Bool) (y : Thing) (x : Name) (e : Entry) → has_declared (count e.book) y ≡ true → Enters e (if b then None else Some (bound y x e))
unless_bound true y x e h = tt
unless_bound false y x e h = declared_goes y x e.book h

bound_to : (mode : Option Mode) (d : Valued) (y : ℕ) (v : Thing) (x : Name) (e : Entry) → FineAt (count e.book) d → Enters e (signal_bound mode (Some d) (actual.Object y v) x e)
bound_to mode d y (thing.Signal i s a) x e h = if_bound (same_kind s.kind d.subtype.kind) (thing.Signal i d.subtype (access_of mode)) x e h
bound_to mode d y thing.Domain x e h = if_bound (not (is_out mode) && same_kind d.subtype.kind (Of (t.Enumeration 0))) thing.Domain x e refl
bound_to mode d y _ x e h = tt

bound_anyhow : (mode : Option Mode) (y : ℕ) (v : Thing) (x : Name) (e : Entry) → Enters e (signal_bound mode None (actual.Object y v) x e)
bound_anyhow mode y (thing.Signal i s a) x e = declared_goes thing.Faulty x e.book refl
bound_anyhow mode y thing.Domain x e = unless_bound (is_out mode) thing.Faulty x e refl
bound_anyhow mode y _ x e = tt

signal_binds : (mode : Option Mode) (d : Option Valued) (a : Actual) (x : Name) (e : Entry) → MayAt d (count e.book) → Enters e (signal_bound mode d a x e)
signal_binds mode (Some d) (actual.Object y v) x e h = bound_to mode d y v x e h
signal_binds mode (Some d) actual.Open x e h = tt
signal_binds mode (Some d) (actual.Value k v) x e h = tt
signal_binds mode None (actual.Object y v) x e h = bound_anyhow mode y v x e
signal_binds mode None actual.Open x e h = tt
signal_binds mode None (actual.Value k v) x e h = tt

new_goes : (texts : List (List ℕ)) (mode : Option Mode) (d : Option Valued) (x : Name) (b : Book) → MayAt d (count b) → Goes b (new_port_signal texts mode d x b)
new_goes texts mode (Some d) x b h = signal_goes texts (access_of mode) d x b h
new_goes texts mode None x b h = declared_goes thing.Faulty x b refl

signal_enters : (texts : List (List ℕ)) (mode : Option Mode) (d : Option Valued) (o : Option Assigned) (x : Name) (e : Entry) → MayAt d (count e.book) → Enters e (signal_entered texts mode d o x e)
signal_enters texts mode d None x e h = new_goes texts mode d x e.book h
signal_enters texts mode d (Some a) x e h = signal_binds mode d a.actual x e h

terminal_of : (place : Place) (formal : Option ℕ) (y : ℕ) (v : Thing) (x : Name) (e : Entry)
    → Enters e (terminal_entered (Some (record { place = place; formal = formal; actual = actual.Object y v })) x e)
terminal_of place formal y (thing.Terminal end m) x e = declared_goes (thing.Terminal end m) x e.book refl
terminal_of place formal y _ x e = tt

terminal_at : (place : Place) (formal : Option ℕ) (a : Actual) (x : Name) (e : Entry) → Enters e (terminal_entered (Some (record { place = place; formal = formal; actual = a })) x e)
terminal_at place formal (actual.Object y v) x e = terminal_of place formal y v x e
terminal_at place formal actual.Open x e = tt
terminal_at place formal (actual.Value k v) x e = tt

terminal_enters : (o : Option Assigned) (x : Name) (e : Entry) → Enters e (terminal_entered o x e)
terminal_enters None x e = tt
terminal_enters (Some a) x e = terminal_at a.place a.formal a.actual x e

out_enters : (outer q : ℕ) (c : QuantityClass) (x : Name) (e : Entry) → Enters e (out_bound outer q c x e)
out_enters outer q c x e = go (is_source c && not (is_used outer q e.used))
  where
    go : (b : Bool) → Enters e (if b then Some (record (bound (thing.Quantity q class.PortOut) x e) { used = e.used ++ (outer, q) ∷ [] }) else None)
    go true = declared_goes (thing.Quantity q class.PortOut) x e.book refl
    go false = tt

mode_enters : (outer q : ℕ) (c : QuantityClass) (b : Bool) (x : Name) (e : Entry) → Enters e (if b then out_bound outer q c x e else Some (bound (thing.Quantity q class.PortIn) x e))
mode_enters outer q c true x e = out_enters outer q c x e
mode_enters outer q c false x e = declared_goes (thing.Quantity q class.PortIn) x e.book refl

quantity_of : (outer : ℕ) (mode : Option Mode) (v : Thing) (x : Name) (e : Entry) → Enters e (quantity_bound outer mode v x e)
quantity_of outer mode (thing.Quantity q c) x e = mode_enters outer q c (is_out mode) x e
quantity_of outer mode _ x e = tt

quantity_at : (outer : ℕ) (mode : Option Mode) (a : Actual) (x : Name) (e : Entry)
    → Enters e (elim a as (λ y. Option Entry) [ actual.Object y v ↦ quantity_bound outer mode v x e | actual.Open ↦ None | actual.Value k v ↦ None ])
quantity_at outer mode (actual.Object y v) x e = quantity_of outer mode v x e
quantity_at outer mode actual.Open x e = tt
quantity_at outer mode (actual.Value k v) x e = tt

quantity_enters : (outer : ℕ) (mode : Option Mode) (o : Option Assigned) (x : Name) (e : Entry) → Enters e (quantity_entered outer mode o x e)
quantity_enters outer mode None x e = tt
quantity_enters outer mode (Some a) x e = quantity_at outer mode a.actual x e

names_enter : (C : ℕ → Type 0) → Stays C → (rule : Option Assigned → Name → Entry → Option Entry)
    → ((o : Option Assigned) (x : Name) (e : Entry) → C (count e.book) → Enters e (rule o x e))
    → (given : List (ℕ × Assigned)) (i : ℕ) (names : List Name) (e : Entry) → C (count e.book) → Enters e (names_entered rule given i names e)
names_enter C stays rule h given i [] e c = goes_same e.book
names_enter C stays rule h given i (x ∷ more) e c =
    then_some Entry Entry (λ (behind : Entry). Goes e.book behind.book) (λ (behind : Entry). Goes e.book behind.book) (names_entered rule given (i + 1) more) (rule (actual_at given i) x e) (h (actual_at given i) x e c)
    (λ mid k. entry_later e mid (names_entered rule given (i + 1) more mid) k (names_enter C stays rule h given (i + 1) more mid (stays (count e.book) (count mid.book) k.grows c)))

simply_enter : (rule : Option Assigned → Name → Entry → Option Entry) → ((o : Option Assigned) (x : Name) (e : Entry) → Enters e (rule o x e))
    → (given : List (ℕ × Assigned)) (i : ℕ) (names : List Name) (e : Entry) → Enters e (names_entered rule given i names e)
simply_enter rule h given i names e = names_enter (λ n. Unit {0}) (λ m n g c. tt) rule (λ o x now c. h o x now) given i names e tt

judged_goes : (A : Type 0) (place : Place) (found : Notes × Part A) (e : Entry) → Goes e.book (judged_entry place found e).book
judged_goes A place found e = notes_go (closed place found.1 found.0) e.book

port_enters : (texts : List (List ℕ)) (outer : ℕ) (given : List (ℕ × Assigned)) (i : ℕ) (p : Port) (e : Entry) → BookHasDeclared e.book → Enters e (port_entered texts outer given i p e)
port_enters texts outer given i (port.Signal place names mode type x) e h =
    let d = valued texts e.book.scope type x e.book.notes in
    let start = judged_entry (first_place place names) d e in
    entry_later e start (names_entered (signal_entered texts mode (kept d.1)) given i names start) (judged_goes Valued (first_place place names) d e)
    (names_enter (MayAt (kept d.1)) (may_stays (kept d.1)) (signal_entered texts mode (kept d.1)) (signal_enters texts mode (kept d.1)) given i names start
    (valued_declared (count e.book) texts e.book.scope h type x e.book.notes))
port_enters texts outer given i (port.Terminal place names m) e h =
    let found = nature_named m e.book in
    let start = judged_entry place found e in
    entry_later e start (names_entered terminal_entered given i names start) (judged_goes ℕ place found e) (simply_enter terminal_entered terminal_enters given i names start)
port_enters texts outer given i (port.Quantity place names mode type) e h =
    let found = quantity_subtype texts type e.book in
    let start = judged_entry place found e in
    entry_later e start (names_entered (quantity_entered outer mode) given i names start) (judged_goes Subtype place found e)
    (simply_enter (quantity_entered outer mode) (quantity_enters outer mode) given i names start)

ports_enter : (texts : List (List ℕ)) (outer : ℕ) (given : List (ℕ × Assigned)) (i : ℕ) (ps : List Port) (e : Entry) → BookHasDeclared e.book → Enters e (ports_entered texts outer given i ps e)
ports_enter texts outer given i [] e h = goes_same e.book
ports_enter texts outer given i (p ∷ more) e h =
    then_some Entry Entry (λ (behind : Entry). Goes e.book behind.book) (λ (behind : Entry). Goes e.book behind.book) (ports_entered texts outer given (i + length (port_names p)) more)
    (port_entered texts outer given i p e) (port_enters texts outer given i p e h)
    (λ mid k. entry_later e mid (ports_entered texts outer given (i + length (port_names p)) more mid) k (ports_enter texts outer given (i + length (port_names p)) more mid (k.keeps h)))

-- ---- the names of an interface

pub generics_declared : (texts : List (List ℕ)) (given : List (ℕ × Assigned)) (gs : List Generic) (b : Book) → BookHasDeclared b → IfSome (generics_entered texts given 0 gs b) BookHasDeclared
generics_declared texts given gs b h = on (generics_entered texts given 0 gs b) (generics_go texts given 0 gs b h)
  where
    on : (o : Option Book) → BookGoes b o → IfSome o BookHasDeclared
    on (Some behind) k = k.keeps h
    on None k = tt

pub ports_declared : (texts : List (List ℕ)) (outer : ℕ) (given : List (ℕ × Assigned)) (ps : List Port) (e : Entry) → BookHasDeclared e.book
    → IfSome (ports_entered texts outer given 0 ps e) (λ (behind : Entry). BookHasDeclared behind.book)
ports_declared texts outer given ps e h = on (ports_entered texts outer given 0 ps e) (ports_enter texts outer given 0 ps e h)
  where
    on : (o : Option Entry) → Enters e o → IfSome o (λ (behind : Entry). BookHasDeclared behind.book)
    on (Some behind) k = k.keeps h
    on None k = tt
