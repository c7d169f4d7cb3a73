-- The interface of an instance, and the quantities that its ports of mode out stand for.
use Rattle.std.proofs.Common.{◌≡◌, ◌≤◌, ℕ, ◌+◌, nat_eq, Bool, true, false, cond, if◌then◌else◌, List, [], ◌∷◌, ◌++◌, length, position, Option, Some, None, IfSome, refl, sym, ap, ◌∙◌, subst, arith}
use Rattle.std.specs.List.{fold, list_any, All}
use Rattle.std.specs.Map.{lookup as entry_of}
use Rattle.std.specs.Str.{bytes_eq}
use Rattle.std.proofs.lemmas.List.Elements.{All-nil, All-head, All-tail, All-push}
use Rattle.ams_token.specs.declared.token.Place.{Place}
use Rattle.ams_tree.specs.declared.expression.Name.{Name}
use Rattle.ams_tree.specs.declared.declaration.Generic.{Generic}
use Rattle.ams_tree.specs.declared.declaration.Mode.{Mode}
use Rattle.ams_tree.specs.declared.declaration.Port.{Port}
use Rattle.ams_tree.specs.declared.declaration.Port.TheVariants as port
use Rattle.ams_tree.specs.declared.design.Entity.{Entity}
use Rattle.name_scope.specs.declared.thing.Thing.{Thing}
use Rattle.name_scope.specs.declared.thing.Thing.TheVariants as thing
use Rattle.name_scope.specs.Scopes.{Region, declared_in, visible, lookup}
use Rattle.elab_meaning.specs.declared.book.Book.{Book}
use Rattle.elab_meaning.specs.declared.fault.Notes.{Notes}
use Rattle.elab_meaning.specs.declared.part.Part.{Part}
use Rattle.elab_meaning.specs.declared.typed.Valued.{Valued}
use Rattle.elab_meaning.specs.Notes.{no_notes}
use Rattle.elab_meaning.specs.Parts.{kept, closed}
use Rattle.elab_meaning.specs.Subtypes.{valued}
use Rattle.elab_meaning.specs.Declarations.{declared, nature_named, with_notes}
use Rattle.unit_meaning.specs.declared.request.Actual.{Actual}
use Rattle.unit_meaning.specs.declared.request.Actual.TheVariants as actual
use Rattle.unit_meaning.specs.declared.request.Assigned.{Assigned}
use Rattle.unit_meaning.specs.declared.request.Request.{Request}
use Rattle.unit_meaning.specs.declared.site.Site.{Site}
use Rattle.unit_meaning.specs.Interfaces.{first_place, generic_default, is_out, quantity_subtype}
use Rattle.unit_meaning.specs.Units.{predefined, with_numbered, with_predefined, start_of}
use Rattle.unit_meaning.specs.Walk.{Entry, formal_place, is_taken, with_match, matched_from, matched, closed_actual, actual_at, range_notes, kind_suits, actual_value, default_thing, generic_entered, if_some, generic_names, is_there, generics_entered, signal_entered, terminal_entered, quantity_entered, names_entered, judged_entry, port_entered, port_names, ports_entered, generic_numbers, port_numbers, out_names, out_count, entry_of_instance}
use Rattle.scope_laws.proofs.Names.{with_one}
use Rattle.source_laws.specs.Sources.{IsAmong, SourcesAre, AssignedAmong, RequestAmong, uses, Once, BindsSources}
use Rattle.source_laws.proofs.Names.{sources_named, total, total_one, total_none}
use Rattle.source_laws.proofs.Ports.{Enters, enters_same, enters_on, enters_as, signal_enters, terminal_enters, one_if, quantity_enters}

then_some : (A B : Type 0) (P : A → Type 0) (Q : B → Type 0) (f : A → Option B) (o : Option A) → IfSome o P → ((a : A) → P a → IfSome (f a) Q) → IfSome (if_some f o) Q
then_some A B P Q f (Some a) h g = g a h
then_some A B P Q f None h g = tt

-- ---- associations by their formals

module _ (P : Assigned → Type 0) where
  abbrev pub Given : ℕ × Assigned → Type 0
  Given entry = P entry.1

  match_each : (rest : List (ℕ × Assigned) → Option (List (ℕ × Assigned))) → ((all : List (ℕ × Assigned)) → All Given all → IfSome (rest all) (All Given))
      → (so_far : List (ℕ × Assigned)) (a : Assigned) (o : Option ℕ) → All Given so_far → P a → IfSome (with_match rest so_far a o) (All Given)
  match_each rest h so_far a None g p = tt
  match_each rest h so_far a (Some i) g p = go (is_taken i so_far)
    where
      go : (b : Bool) → IfSome (if b then None else rest (so_far ++ (i, a) ∷ [])) (All Given)
      go true = tt
      go false = h (so_far ++ (i, a) ∷ []) (All-push Given so_far (i, a) g p)

  from_each : (names : List ℕ) (j : ℕ) (all : List Assigned) (so_far : List (ℕ × Assigned)) → All P all → All Given so_far → IfSome (matched_from names j all so_far) (All Given)
  from_each names j [] so_far h g = g
  from_each names j (a ∷ more) so_far h g =
      match_each (matched_from names (j + 1) more) (λ behind k. from_each names (j + 1) more behind (All-tail P a more h) k) so_far a (formal_place names j a.formal) g (All-head P a more h)

  closed_is : (o : Option Assigned) → IfSome o P → IfSome (closed_actual o) P
  closed_is None h = tt
  closed_is (Some a) h = go a.actual
    where
      go : (x : Actual) → IfSome (elim x as (λ y. Option Assigned) [ actual.Open ↦ None | actual.Object y t ↦ Some a | actual.Value k v ↦ Some a ]) P
      go actual.Open = tt
      go (actual.Object y t) = h
      go (actual.Value k v) = h

  found_is : (given : List (ℕ × Assigned)) (i : ℕ) → All Given given → IfSome (entry_of (nat_eq i) given) P
  found_is [] i h = tt
  found_is (entry ∷ more) i h = go (nat_eq i entry.0) (All-head Given entry more h) (found_is more i (All-tail Given entry more h))
    where
      go : (b : Bool) → P entry.1 → IfSome (entry_of (nat_eq i) more) P → IfSome (cond b (Some entry.1) (entry_of (nat_eq i) more)) P
      go true k rest = k
      go false k rest = rest

  actual_is : (given : List (ℕ × Assigned)) (i : ℕ) → All Given given → IfSome (actual_at given i) P
  actual_is given i h = closed_is (entry_of (nat_eq i) given) (found_is given i h)

abbrev AllGiven : List (ℕ × Assigned) → List ℕ → Type 0
AllGiven given all = All (Given (AssignedAmong all)) given

-- ---- generics

abbrev Keeps : Book → Book → Type 0
Keeps b new = (all : List ℕ) → SourcesAre all b.scope → SourcesAre all new.scope

value_among : (d : Option Valued) (a : Actual) (all : List ℕ) → IsAmong all (actual_value d a)
value_among (Some d) (actual.Value k v) all = tt
value_among (Some d) actual.Open all = tt
value_among (Some d) (actual.Object y t) all = tt
value_among None a all = tt

default_among : (d : Option Valued) (all : List ℕ) → IsAmong all (default_thing d)
default_among (Some d) all = tt
default_among None all = tt

one_generic : (d : Option Valued) (has : Bool) (o : Option Assigned) (x : Name) (b : Book) → IfSome (generic_entered d has o x b) (Keeps b)
one_generic d true None x b = λ all h. sources_named all b.scope x.number (default_thing d) h (default_among d all)
one_generic d false None x b = tt
one_generic d has (Some a) x b = go (kind_suits d a.actual)
  where
    go : (c : Bool) → IfSome (if c then Some (declared (actual_value d a.actual) x (with_notes (range_notes d a b.notes) b)) else None) (Keeps b)
    go true = λ all h. sources_named all b.scope x.number (actual_value d a.actual) h (value_among d a.actual all)
    go false = tt

keeps_later : (b mid : Book) (o : Option Book) → Keeps b mid → IfSome o (Keeps mid) → IfSome o (Keeps b)
keeps_later b mid (Some behind) k l = λ all h. l all (k all h)
keeps_later b mid None k l = tt

generic_list : (given : List (ℕ × Assigned)) (d : Option Valued) (has : Bool) (i : ℕ) (names : List Name) (b : Book) → IfSome (generic_names given d has i names b) (Keeps b)
generic_list given d has i [] b = λ all h. h
generic_list given d has i (x ∷ more) b =
    then_some Book Book (Keeps b) (Keeps b) (generic_names given d has (i + 1) more) (generic_entered d has (actual_at given i) x b) (one_generic d has (actual_at given i) x b)
    (λ mid k. keeps_later b mid (generic_names given d has (i + 1) more mid) k (generic_list given d has (i + 1) more mid))

generics_keep : (texts : List (List ℕ)) (given : List (ℕ × Assigned)) (i : ℕ) (gs : List Generic) (b : Book) → IfSome (generics_entered texts given i gs b) (Keeps b)
generics_keep texts given i [] b = λ all h. h
generics_keep texts given i (g ∷ more) b =
    let d = generic_default texts b.scope g.indication g.default b.notes in
    let start = with_notes (closed (first_place g.constant g.names) d.1 d.0) b in
    then_some Book Book (Keeps b) (Keeps b) (generics_entered texts given (i + length g.names) more) (generic_names given (kept d.1) (is_there g.default) i g.names start)
    (generic_list given (kept d.1) (is_there g.default) i g.names start)
    (λ mid k. keeps_later b mid (generics_entered texts given (i + length g.names) more mid) k (generics_keep texts given (i + length g.names) more mid))

-- ---- ports

module _ (outer : ℕ) (given : List (ℕ × Assigned)) where
  abbrev Behind : ℕ → Entry → Entry → Type 0
  Behind k e new = Enters outer k (AllGiven given) e new

  later : (j k : ℕ) (e mid : Entry) (o : Option Entry) → Behind j e mid → IfSome o (Behind k mid) → IfSome o (Behind (j + k) e)
  later j k e mid (Some behind) p q = enters_on outer (AllGiven given) j k e mid behind p q
  later j k e mid None p q = tt

  as_given : (k i : ℕ) (e : Entry) (o : Option Entry) → IfSome o (Enters outer k (λ all. IfSome (actual_at given i) (AssignedAmong all)) e) → IfSome o (Behind k e)
  as_given k i e (Some new) p =
      enters_as outer (λ all. IfSome (actual_at given i) (AssignedAmong all)) (AllGiven given) k k e new refl (λ all h. actual_is (AssignedAmong all) given i h) p
  as_given k i e None p = tt

  names_enter : (k : ℕ) (rule : Option Assigned → Name → Entry → Option Entry)
      → ((o : Option Assigned) (x : Name) (e : Entry) → IfSome (rule o x e) (Enters outer k (λ all. IfSome o (AssignedAmong all)) e))
      → (i : ℕ) (names : List Name) (e : Entry) → IfSome (names_entered rule given i names e) (Behind (total k names) e)
  names_enter k rule h i [] e = enters_same outer (AllGiven given) e e refl (λ all s. s)
  names_enter k rule h i (x ∷ more) e =
      then_some Entry Entry (Behind k e) (Behind (k + total k more) e) (names_entered rule given (i + 1) more) (rule (actual_at given i) x e)
      (as_given k i e (rule (actual_at given i) x e) (h (actual_at given i) x e))
      (λ mid p. later k (total k more) e mid (names_entered rule given (i + 1) more mid) p (names_enter k rule h (i + 1) more mid))

  counted : (j k : ℕ) (e : Entry) (o : Option Entry) → j ≡ k → IfSome o (Behind j e) → IfSome o (Behind k e)
  counted j k e (Some new) same p = enters_as outer (AllGiven given) (AllGiven given) j k e new same (λ all h. h) p
  counted j k e None same p = tt

  -- behind a part of which only faults are noted
  behind_part : (A : Type 0) (place : Place) (found : Notes × Part A) (k : ℕ) (e : Entry) (o : Option Entry) → IfSome o (Behind k (judged_entry place found e)) → IfSome o (Behind k e)
  behind_part A place found k e (Some new) p =
      record { found = p.found; count = p.count; own = p.own; others = p.others; once = p.once; among = p.among; sources = p.sources }
  behind_part A place found k e None p = tt

  total_if : (b : Bool) (names : List Name) → total (one_if outer b) names ≡ (if b then length names else 0)
  total_if true names = total_one names
  total_if false names = total_none names

  port_enters : (texts : List (List ℕ)) (i : ℕ) (p : Port) (e : Entry) → IfSome (port_entered texts outer given i p e) (Behind (out_names p) e)
  port_enters texts i (port.Signal place names mode type x) e =
      let d = valued texts e.book.scope type x e.book.notes in
      let start = judged_entry (first_place place names) d e in
      let behind = names_entered (signal_entered texts mode (kept d.1)) given i names start in
      behind_part Valued (first_place place names) d 0 e behind
      (counted (total 0 names) 0 start behind (total_none names)
      (names_enter 0 (signal_entered texts mode (kept d.1)) (λ o y en. signal_enters outer (λ all. IfSome o (AssignedAmong all)) texts mode (kept d.1) o y en) i names start))
  port_enters texts i (port.Terminal place names m) e =
      let found = nature_named m e.book in
      let start = judged_entry place found e in
      let behind = names_entered terminal_entered given i names start in
      behind_part ℕ place found 0 e behind
      (counted (total 0 names) 0 start behind (total_none names)
      (names_enter 0 terminal_entered (λ o y en. terminal_enters outer (λ all. IfSome o (AssignedAmong all)) o y en) i names start))
  port_enters texts i (port.Quantity place names mode type) e =
      let found = quantity_subtype texts type e.book in
      let start = judged_entry place found e in
      let behind = names_entered (quantity_entered outer mode) given i names start in
      behind_part _ place found (if is_out mode then length names else 0) e behind
      (counted (total (one_if outer (is_out mode)) names) (if is_out mode then length names else 0) start behind (total_if (is_out mode) names)
      (names_enter (one_if outer (is_out mode)) (quantity_entered outer mode) (λ o y en. quantity_enters outer mode o y en) i names start))

  ports_enter : (texts : List (List ℕ)) (i : ℕ) (ps : List Port) (e : Entry) → IfSome (ports_entered texts outer given i ps e) (Behind (out_count ps) e)
  ports_enter texts i [] e = enters_same outer (AllGiven given) e e refl (λ all s. s)
  ports_enter texts i (p ∷ more) e =
      then_some Entry Entry (Behind (out_names p) e) (Behind (out_names p + out_count more) e) (ports_entered texts outer given (i + length (port_names p)) more)
      (port_entered texts outer given i p e) (port_enters texts i p e)
      (λ mid k.
      later (out_names p) (out_count more) e mid (ports_entered texts outer given (i + length (port_names p)) more mid) k (ports_enter texts (i + length (port_names p)) more mid))

-- ---- the predefined names

with_number : (o : Option ℕ) (t : Thing) (region : Region) → ((x : ℕ) → IfSome (declared_in region x) (IsAmong [])) → IsAmong [] t → (x : ℕ) → IfSome (declared_in (with_numbered o t region) x) (IsAmong [])
with_number (Some name) t region h g x = with_one (λ (found : Option Thing). IfSome found (IsAmong [])) region name t x (h x) (λ k. g)
with_number None t region h g x = h x

abbrev Every : List (List ℕ × Thing) → Type 0
Every [] = Unit {0}
Every (p ∷ more) = IsAmong [] p.1 × Every more

with_all : (texts : List (List ℕ)) (all : List (List ℕ × Thing)) (region : Region) → ((x : ℕ) → IfSome (declared_in region x) (IsAmong [])) → Every all
    → (x : ℕ) → IfSome (declared_in (fold (with_predefined texts) region all) x) (IsAmong [])
with_all texts [] region h g = h
with_all texts (p ∷ more) region h g = with_all texts more (with_predefined texts region p) (with_number (position (bytes_eq p.0) texts) p.1 region h g.0) g.1

seen : (o : Option Thing) → IfSome o (IsAmong []) → IfSome (visible o) (IsAmong [])
seen None h = tt
seen (Some thing.Label) h = tt
seen (Some (thing.Quantity q c)) h = h
seen (Some _) h = tt

each : Every predefined
each =
    (tt, (tt, (tt, (tt, (tt, (tt, (tt, (tt, (tt, (tt, (tt, (tt, (tt, (tt, (tt, (tt, (tt, (tt, (tt, (tt, (tt, (tt, (tt, (tt, (tt, (tt, tt))))))))))))))))))))))))))

start_sources : (texts : List (List ℕ)) → SourcesAre [] (start_of texts)
start_sources texts x = seen (declared_in (fold (with_predefined texts) [] predefined) x) (with_all texts predefined [] (λ y. tt) each x)

-- ---- the whole

module _ (texts : List (List ℕ)) (r : Request) (e : Entity) (s : Site) where
  abbrev start : Book
  start = record { scope = start_of texts; notes = no_notes; objects = s.objects; path = r.path; natures = 1 }

  abbrev Matched : List (ℕ × Assigned) → Type 0
  Matched ports = (all : List ℕ) → RequestAmong all r → AllGiven ports all

  abbrev Anything : List (ℕ × Assigned) → Type 0
  Anything all = Unit {0}

  any : (o : Option (List (ℕ × Assigned))) → IfSome o Anything
  any (Some all) = tt
  any None = tt

  ports_match : (o : Option (List (ℕ × Assigned))) → ((all : List ℕ) → RequestAmong all r → IfSome o (All (Given (AssignedAmong all)))) → IfSome o Matched
  ports_match (Some ports) h = λ all g. h all g
  ports_match None h = tt

  binds : (ports : List (ℕ × Assigned)) → Matched ports → (b : Book) → Keeps start b → (o : Option Entry)
      → IfSome o (Enters r.outer (out_count e.ports) (AllGiven ports) (record { book = b; used = s.used })) → IfSome o (BindsSources r e s)
  binds ports h b k None p = tt
  binds ports h b k (Some entry) p =
      record {
        found = p.found;
        count = p.count;
        own = p.own;
        others = p.others;
        once = p.once;
        among = λ all g. p.among all (h all g);
        sources = p.sources [] (k [] (start_sources texts));
      }

  pub interface_binds : IfSome (entry_of_instance texts r e s) (BindsSources r e s)
  interface_binds =
      then_some (List (ℕ × Assigned)) Entry Anything (BindsSources r e s)
      (λ (generics : List (ℕ × Assigned)).
      if_some (λ (ports : List (ℕ × Assigned)).
      if_some (λ (b : Book). ports_entered texts r.outer ports 0 e.ports (record { book = b; used = s.used })) (generics_entered texts generics 0 e.generics start))
      (matched (port_numbers e.ports) r.ports))
      (matched (generic_numbers e.generics) r.generics) (any (matched (generic_numbers e.generics) r.generics))
      (λ generics g.
      then_some (List (ℕ × Assigned)) Entry Matched (BindsSources r e s)
      (λ (ports : List (ℕ × Assigned)).
      if_some (λ (b : Book). ports_entered texts r.outer ports 0 e.ports (record { book = b; used = s.used })) (generics_entered texts generics 0 e.generics start))
      (matched (port_numbers e.ports) r.ports)
      (ports_match (matched (port_numbers e.ports) r.ports) (λ all h. from_each (AssignedAmong all) (port_numbers e.ports) 0 r.ports [] h (All-nil (Given (AssignedAmong all)))))
      (λ ports p.
      then_some Book Entry (Keeps start) (BindsSources r e s) (λ (b : Book). ports_entered texts r.outer ports 0 e.ports (record { book = b; used = s.used }))
      (generics_entered texts generics 0 e.generics start) (generics_keep texts generics 0 e.generics start)
      (λ b k. binds ports p b k (ports_entered texts r.outer ports 0 e.ports (record { book = b; used = s.used })) (ports_enter r.outer ports texts 0 e.ports (record { book = b; used = s.used })))))
