-- Ports, and what they are bound to.
use Rattle.std.proofs.Common.{ℕ, ◌+◌, Bool, true, false, if◌then◌else◌, List, [], ◌∷◌, ◌++◌, length, Option, Some, None, IfSome}
use Rattle.std.specs.Prelude.{◌&&◌, not}
use Rattle.ams_token.specs.declared.token.Place.{Place}
use Rattle.ams_tree.specs.declared.expression.Name.{Name}
use Rattle.ams_tree.specs.declared.declaration.Mode.{Mode}
use Rattle.ams_tree.specs.declared.declaration.Port.{Port}
use Rattle.ams_tree.specs.declared.declaration.Port.TheVariants as port
use Rattle.ams_value.specs.declared.value_type.ValueType.TheVariants as t
use Rattle.name_scope.specs.declared.thing.Kind.TheVariants.{Of}
use Rattle.name_scope.specs.declared.thing.QuantityClass.{QuantityClass}
use Rattle.name_scope.specs.declared.thing.QuantityClass.TheVariants as class
use Rattle.name_scope.specs.declared.thing.Thing.{Thing}
use Rattle.name_scope.specs.declared.thing.Thing.TheVariants as thing
use Rattle.elab_meaning.specs.declared.book.Book.{Book}
use Rattle.elab_meaning.specs.declared.fault.Notes.{Notes}
use Rattle.elab_meaning.specs.declared.part.Part.{Part}
use Rattle.elab_meaning.specs.declared.typed.Valued.{Valued}
use Rattle.elab_meaning.specs.Kinds.{same_kind}
use Rattle.elab_meaning.specs.Parts.{kept}
use Rattle.elab_meaning.specs.Subtypes.{valued}
use Rattle.elab_meaning.specs.Declarations.{nature_named}
use Rattle.unit_meaning.specs.declared.request.Actual.{Actual}
use Rattle.unit_meaning.specs.declared.request.Actual.TheVariants as actual
use Rattle.unit_meaning.specs.declared.request.Assigned.{Assigned}
use Rattle.unit_meaning.specs.Interfaces.{first_place, is_out, access_of, quantity_subtype}
use Rattle.unit_meaning.specs.Walk.{Entry, if_some, bound, actual_at, signal_bound, new_port_signal, signal_entered, terminal_entered, is_source, is_used, out_bound, quantity_bound, quantity_entered, names_entered, judged_entry, port_entered, port_names, ports_entered}
use Rattle.object_laws.specs.Adding.{AddsObjects}
use Rattle.object_laws.proofs.Adding.{Adds, adds_none, adds_on, signal_adds}

pub then_some : (A B : Type 0) (P : A → Type 0) (Q : B → Type 0) (f : A → Option B) (o : Option A) → IfSome o P → ((a : A) → P a → IfSome (f a) Q) → IfSome (if_some f o) Q
then_some A B P Q f (Some a) h g = g a h
then_some A B P Q f None h g = tt

-- an entry behind another
abbrev pub Enters : Entry → Entry → Type 0
Enters e behind = AddsObjects e.book.objects behind.book.objects

-- ---- signals

where_bound : (b : Bool) (y : Thing) (x : Name) (e : Entry) → IfSome (if b then Some (bound y x e) else None) (Enters e)
where_bound true y x e = adds_none e.book.objects
where_bound false y x e = tt

unless_bound : (b : Bool) (y : Thing) (x : Name) (e : Entry) → IfSome (if b then None else Some (bound y x e)) (Enters e)
unless_bound true y x e = tt
unless_bound false y x e = adds_none e.book.objects

bound_some : (mode : Option Mode) (d : Valued) (y : ℕ) (v : Thing) (x : Name) (e : Entry) → IfSome (signal_bound mode (Some d) (actual.Object y v) x e) (Enters e)
bound_some mode d y (thing.Signal i s a) x e = where_bound (same_kind s.kind d.subtype.kind) (thing.Signal i d.subtype (access_of mode)) x e
bound_some mode d y thing.Domain x e = where_bound (not (is_out mode) && same_kind d.subtype.kind (Of (t.Enumeration 0))) thing.Domain x e
bound_some mode d y _ x e = tt

bound_none : (mode : Option Mode) (y : ℕ) (v : Thing) (x : Name) (e : Entry) → IfSome (signal_bound mode None (actual.Object y v) x e) (Enters e)
bound_none mode y (thing.Signal i s a) x e = adds_none e.book.objects
bound_none mode y thing.Domain x e = unless_bound (is_out mode) thing.Faulty x e
bound_none mode y _ x e = tt

bound_adds : (mode : Option Mode) (d : Option Valued) (a : Actual) (x : Name) (e : Entry) → IfSome (signal_bound mode d a x e) (Enters e)
bound_adds mode (Some d) (actual.Object y v) x e = bound_some mode d y v x e
bound_adds mode (Some d) actual.Open x e = tt
bound_adds mode (Some d) (actual.Value k v) x e = tt
bound_adds mode None (actual.Object y v) x e = bound_none mode y v x e
bound_adds mode None actual.Open x e = tt
bound_adds mode None (actual.Value k v) x e = tt

new_adds : (texts : List (List ℕ)) (mode : Option Mode) (d : Option Valued) (x : Name) (b : Book) → Adds b (new_port_signal texts mode d x b)
new_adds texts mode (Some d) x b = signal_adds texts (access_of mode) d x b
new_adds texts mode None x b = adds_none b.objects

signal_enters : (texts : List (List ℕ)) (mode : Option Mode) (d : Option Valued) (o : Option Assigned) (x : Name) (e : Entry) → IfSome (signal_entered texts mode d o x e) (Enters e)
signal_enters texts mode d None x e = new_adds texts mode d x e.book
signal_enters texts mode d (Some a) x e = bound_adds mode d a.actual x e

-- ---- terminals and quantities

terminal_of : (place : Place) (formal : Option ℕ) (y : ℕ) (v : Thing) (x : Name) (e : Entry)
    → IfSome (terminal_entered (Some (record { place = place; formal = formal; actual = actual.Object y v })) x e) (Enters e)
terminal_of place formal y (thing.Terminal end m) x e = adds_none e.book.objects
terminal_of place formal y _ x e = tt

terminal_at : (place : Place) (formal : Option ℕ) (a : Actual) (x : Name) (e : Entry)
    → IfSome (terminal_entered (Some (record { place = place; formal = formal; actual = a })) x e) (Enters e)
terminal_at place formal (actual.Object y v) x e = terminal_of place formal y v x e
terminal_at place formal actual.Open x e = tt
terminal_at place formal (actual.Value k v) x e = tt

terminal_enters : (o : Option Assigned) (x : Name) (e : Entry) → IfSome (terminal_entered o x e) (Enters e)
terminal_enters None x e = tt
terminal_enters (Some a) x e = terminal_at a.place a.formal a.actual x e

out_adds : (outer q : ℕ) (c : QuantityClass) (x : Name) (e : Entry) → IfSome (out_bound outer q c x e) (Enters e)
out_adds outer q c x e = go (is_source c && not (is_used outer q e.used))
  where
    go : (b : Bool) → IfSome (if b then Some (record (bound (thing.Quantity q class.PortOut) x e) { used = e.used ++ (outer, q) ∷ [] }) else None) (Enters e)
    go true = adds_none e.book.objects
    go false = tt

mode_adds : (outer q : ℕ) (c : QuantityClass) (b : Bool) (x : Name) (e : Entry)
    → IfSome (if b then out_bound outer q c x e else Some (bound (thing.Quantity q class.PortIn) x e)) (Enters e)
mode_adds outer q c true x e = out_adds outer q c x e
mode_adds outer q c false x e = adds_none e.book.objects

quantity_bound_adds : (outer : ℕ) (mode : Option Mode) (v : Thing) (x : Name) (e : Entry) → IfSome (quantity_bound outer mode v x e) (Enters e)
quantity_bound_adds outer mode (thing.Quantity q c) x e = mode_adds outer q c (is_out mode) x e
quantity_bound_adds outer mode _ x e = tt

quantity_at : (outer : ℕ) (mode : Option Mode) (a : Actual) (x : Name) (e : Entry)
    → IfSome (elim a as (λ y. Option Entry) [ actual.Object y v ↦ quantity_bound outer mode v x e | actual.Open ↦ None | actual.Value k v ↦ None ]) (Enters e)
quantity_at outer mode (actual.Object y v) x e = quantity_bound_adds outer mode v x e
quantity_at outer mode actual.Open x e = tt
quantity_at outer mode (actual.Value k v) x e = tt

quantity_enters : (outer : ℕ) (mode : Option Mode) (o : Option Assigned) (x : Name) (e : Entry) → IfSome (quantity_entered outer mode o x e) (Enters e)
quantity_enters outer mode None x e = tt
quantity_enters outer mode (Some a) x e = quantity_at outer mode a.actual x e

-- ---- declarations of ports

later : (e mid : Entry) (o : Option Entry) → Enters e mid → IfSome o (Enters mid) → IfSome o (Enters e)
later e mid (Some behind) k l = adds_on e.book.objects mid.book.objects behind.book.objects k l
later e mid None k l = tt

names_add : (rule : Option Assigned → Name → Entry → Option Entry) → ((o : Option Assigned) (x : Name) (e : Entry) → IfSome (rule o x e) (Enters e))
    → (given : List (ℕ × Assigned)) (i : ℕ) (names : List Name) (e : Entry) → IfSome (names_entered rule given i names e) (Enters e)
names_add rule h given i [] e = adds_none e.book.objects
names_add rule h given i (x ∷ more) e =
    then_some Entry Entry (Enters e) (Enters e) (names_entered rule given (i + 1) more) (rule (actual_at given i) x e) (h (actual_at given i) x e)
    (λ mid k. later e mid (names_entered rule given (i + 1) more mid) k (names_add rule h given (i + 1) more mid))

behind_part : (A : Type 0) (place : Place) (found : Notes × Part A) (e : Entry) (o : Option Entry) → IfSome o (Enters (judged_entry place found e)) → IfSome o (Enters e)
behind_part A place found e (Some behind) k = k
behind_part A place found e None k = tt

port_adds : (texts : List (List ℕ)) (outer : ℕ) (given : List (ℕ × Assigned)) (i : ℕ) (p : Port) (e : Entry) → IfSome (port_entered texts outer given i p e) (Enters e)
port_adds texts outer given i (port.Signal place names mode type x) e =
    let d = valued texts e.book.scope type x e.book.notes in
    let start = judged_entry (first_place place names) d e in
    behind_part Valued (first_place place names) d e (names_entered (signal_entered texts mode (kept d.1)) given i names start)
    (names_add (signal_entered texts mode (kept d.1)) (signal_enters texts mode (kept d.1)) given i names start)
port_adds texts outer given i (port.Terminal place names m) e =
    let found = nature_named m e.book in
    let start = judged_entry place found e in
    behind_part ℕ place found e (names_entered terminal_entered given i names start) (names_add terminal_entered terminal_enters given i names start)
port_adds texts outer given i (port.Quantity place names mode type) e =
    let found = quantity_subtype texts type e.book in
    let start = judged_entry place found e in
    behind_part _ place found e (names_entered (quantity_entered outer mode) given i names start)
    (names_add (quantity_entered outer mode) (quantity_enters outer mode) given i names start)

pub ports_add : (texts : List (List ℕ)) (outer : ℕ) (given : List (ℕ × Assigned)) (i : ℕ) (ps : List Port) (e : Entry) → IfSome (ports_entered texts outer given i ps e) (Enters e)
ports_add texts outer given i [] e = adds_none e.book.objects
ports_add texts outer given i (p ∷ more) e =
    then_some Entry Entry (Enters e) (Enters e) (ports_entered texts outer given (i + length (port_names p)) more) (port_entered texts outer given i p e)
    (port_adds texts outer given i p e)
    (λ mid k. later e mid (ports_entered texts outer given (i + length (port_names p)) more mid) k (ports_add texts outer given (i + length (port_names p)) more mid))
