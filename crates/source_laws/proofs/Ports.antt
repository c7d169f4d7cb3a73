-- Ports, and the quantities that those of mode out stand for.
use Rattle.std.proofs.Common.{◌≡◌, ◌≤◌, ◌<◌, ℕ, ◌+◌, nat_eq, Bool, true, false, not, if◌then◌else◌, List, [], ◌∷◌, ◌++◌, length, get_or, Option, Some, None, IfSome, refl, sym, ap, ◌∙◌, subst, arith, length-append, append_assoc, append-nil}
use Rattle.std.specs.Prelude.{◌≢◌, ◌&&◌, ◌||◌}
use Rattle.std.specs.List.{list_any, All}
use Rattle.std.proofs.lemmas.Bool.Decides.{nat_tests}
use Rattle.std.proofs.lemmas.List.Elements.{All-nil, All-cons, All-append}
use Rattle.std.proofs.lemmas.List.Quantifiers.{all_pairs_push}
use Rattle.ams_token.specs.declared.token.Place.{Place}
use Rattle.ams_tree.specs.declared.expression.Name.{Name}
use Rattle.ams_tree.specs.declared.declaration.Mode.{Mode}
use Rattle.ams_value.specs.declared.value_type.ValueType.TheVariants as t
use Rattle.name_scope.specs.declared.thing.Kind.TheVariants.{Of}
use Rattle.name_scope.specs.declared.thing.QuantityClass.{QuantityClass}
use Rattle.name_scope.specs.declared.thing.QuantityClass.TheVariants as class
use Rattle.name_scope.specs.declared.thing.Thing.{Thing}
use Rattle.name_scope.specs.declared.thing.Thing.TheVariants as thing
use Rattle.name_scope.specs.Scopes.{with_name}
use Rattle.elab_meaning.specs.declared.book.Book.{Book}
use Rattle.elab_meaning.specs.declared.typed.Valued.{Valued}
use Rattle.elab_meaning.specs.Kinds.{same_kind}
use Rattle.elab_meaning.specs.Declarations.{with_signal}
use Rattle.unit_meaning.specs.declared.request.Actual.{Actual}
use Rattle.unit_meaning.specs.declared.request.Actual.TheVariants as actual
use Rattle.unit_meaning.specs.declared.request.Assigned.{Assigned}
use Rattle.unit_meaning.specs.Interfaces.{is_out, access_of}
use Rattle.unit_meaning.specs.Walk.{Entry, bound, signal_bound, new_port_signal, signal_entered, terminal_entered, is_source, is_used, out_bound, quantity_bound, quantity_entered}
use Rattle.source_laws.specs.Sources.{IsAmong, SourcesAre, AssignedAmong, uses, Once}
use Rattle.source_laws.proofs.Names.{in_last, sources_more, sources_named}

-- ---- uses

module _ (n : ℕ) where
  uses_last : (all : List (ℕ × ℕ)) (m q : ℕ) → uses n (all ++ (m, q) ∷ []) ≡ uses n all ++ (if nat_eq m n then q ∷ [] else [])
  uses_last [] m q = go (nat_eq m n)
    where
      go : (b : Bool) → (if b then q ∷ [] else []) ≡ (if b then q ∷ [] else [])
      go b = refl
  uses_last (u ∷ more) m q = go (nat_eq u.0 n) (uses_last more m q)
    where
      go : (b : Bool) → uses n (more ++ (m, q) ∷ []) ≡ uses n more ++ (if nat_eq m n then q ∷ [] else [])
          → (if b then u.1 ∷ uses n (more ++ (m, q) ∷ []) else uses n (more ++ (m, q) ∷ [])) ≡ (if b then u.1 ∷ uses n more else uses n more) ++ (if nat_eq m n then q ∷ [] else [])
      go true h = ap (λ (l : List ℕ). u.1 ∷ l) h
      go false h = h

  -- what is used is among the uses
  used_is : (q : ℕ) (all : List (ℕ × ℕ)) → is_used n q all ≡ list_any (λ (x : ℕ). nat_eq x q) (uses n all)
  used_is q [] = refl
  used_is q (u ∷ more) = go (nat_eq u.0 n) (used_is q more)
    where
      go : (b : Bool) → is_used n q more ≡ list_any (λ (x : ℕ). nat_eq x q) (uses n more)
          → ((b && nat_eq u.1 q) || is_used n q more) ≡ list_any (λ (x : ℕ). nat_eq x q) (if b then u.1 ∷ uses n more else uses n more)
      go true h = ap (λ (c : Bool). nat_eq u.1 q || c) h
      go false h = h

same_number : (n : ℕ) → nat_eq n n ≡ true
same_number n = grind (arith, nat_tests)

other_number : (m n : ℕ) → n ≢ m → nat_eq m n ≡ false
other_number m n h = go (nat_eq m n) refl
  where
    go : (c : Bool) → nat_eq m n ≡ c → c ≡ false
    go true is = let e : n ≡ m = grind (arith, nat_tests) in absurd (h e)
    go false is = refl

own_use : (n q : ℕ) (all : List (ℕ × ℕ)) → uses n (all ++ (n, q) ∷ []) ≡ uses n all ++ q ∷ []
own_use n q all = subst (λ (b : Bool). uses n (all ++ (n, q) ∷ []) ≡ uses n all ++ (if b then q ∷ [] else [])) (same_number n) (uses_last n all n q)

other_use : (n m q : ℕ) (all : List (ℕ × ℕ)) → n ≢ m → uses n (all ++ (m, q) ∷ []) ≡ uses n all
other_use n m q all h =
    subst (λ (b : Bool). uses n (all ++ (m, q) ∷ []) ≡ uses n all ++ (if b then q ∷ [] else [])) (other_number m n h) (uses_last n all m q) ∙ append-nil (uses n all)

differs : (x q : ℕ) → nat_eq x q ≡ false → x ≢ q
differs x q h e = absurd (grind (arith, nat_tests))

both_false : (a b : Bool) → (a || b) ≡ false → (a ≡ false) × (b ≡ false)
both_false true b h = absurd (cc)
both_false false b h = (refl, h)

absent : (q : ℕ) (all : List ℕ) → list_any (λ (x : ℕ). nat_eq x q) all ≡ false → All (λ x. x ≢ q) all
absent q [] h = All-nil (λ x. x ≢ q)
absent q (x ∷ all) h =
    let p = both_false (nat_eq x q) (list_any (λ (y : ℕ). nat_eq y q) all) h in
    All-cons (λ y. y ≢ q) x all (differs x q p.0) (absent q all p.1)

once_more : (q : ℕ) (all : List ℕ) → Once all → All (λ x. x ≢ q) all → Once (all ++ q ∷ [])
once_more q all h k = all_pairs_push (λ a b. a ≢ b) all q h (λ i d lt. k i d lt)

-- ---- entries

-- an entry behind another, with so many ports of mode out between them
pub record Enters (outer k : ℕ) (G : List ℕ → Type 0) (e new : Entry) : Type 0 where
  pub found : List ℕ
  pub count : length found ≡ k
  pub own : uses outer new.used ≡ uses outer e.used ++ found
  pub others : (n : ℕ) → n ≢ outer → uses n new.used ≡ uses n e.used
  pub once : Once (uses outer e.used) → Once (uses outer new.used)
  pub among : (all : List ℕ) → G all → All (λ q. list_any (nat_eq q) all ≡ true) found
  pub sources : (all : List ℕ) → SourcesAre all e.book.scope → SourcesAre (all ++ found) new.book.scope

module _ (outer : ℕ) where
  pub enters_same : (G : List ℕ → Type 0) (e new : Entry) → new.used ≡ e.used → ((all : List ℕ) → SourcesAre all e.book.scope → SourcesAre all new.book.scope) → Enters outer 0 G e new
  enters_same G e new same g =
      record {
        found = [];
        count = refl;
        own = ap (uses outer) same ∙ sym (append-nil (uses outer e.used));
        others = λ n d. ap (uses n) same;
        once = λ h. subst (λ (l : List (ℕ × ℕ)). Once (uses outer l)) (sym same) h;
        among = λ all g. All-nil (λ q. list_any (nat_eq q) all ≡ true);
        sources = λ all h. sources_more all [] new.book.scope (g all h);
      }

  pub enters_on : (G : List ℕ → Type 0) (j k : ℕ) (a b c : Entry) → Enters outer j G a b → Enters outer k G b c → Enters outer (j + k) G a c
  enters_on G j k a b c p q =
      record {
        found = p.found ++ q.found;
        count = omega (arith, p.count, q.count, length-append p.found q.found);
        own = q.own ∙ (ap (λ (l : List ℕ). l ++ q.found) p.own ∙ append_assoc (uses outer a.used) p.found q.found);
        others = λ n d. q.others n d ∙ p.others n d;
        once = λ h. q.once (p.once h);
        among = λ all g. All-append (λ x. list_any (nat_eq x) all ≡ true) p.found q.found (p.among all g) (q.among all g);
        sources = λ all h. subst (λ (l : List ℕ). SourcesAre l c.book.scope) (append_assoc all p.found q.found) (q.sources (all ++ p.found) (p.sources all h));
      }

  pub enters_as : (G H : List ℕ → Type 0) (j k : ℕ) (a b : Entry) → j ≡ k → ((all : List ℕ) → H all → G all) → Enters outer j G a b → Enters outer k H a b
  enters_as G H j k a b same g p =
      record { found = p.found; count = p.count ∙ same; own = p.own; others = p.others; once = p.once; among = λ all h. p.among all (g all h); sources = p.sources }

  -- a port that stands for no such quantity
  bound_enters : (G : List ℕ → Type 0) (y : Thing) (x : Name) (e : Entry) → ((all : List ℕ) → IsAmong all y) → Enters outer 0 G e (bound y x e)
  bound_enters G y x e g = enters_same G e (bound y x e) refl (λ all h. sources_named all e.book.scope x.number y h (g all))

  where_bound : (G : List ℕ → Type 0) (b : Bool) (y : Thing) (x : Name) (e : Entry) → ((all : List ℕ) → IsAmong all y) → IfSome (if b then Some (bound y x e) else None) (Enters outer 0 G e)
  where_bound G true y x e g = bound_enters G y x e g
  where_bound G false y x e g = tt

  unless_bound : (G : List ℕ → Type 0) (b : Bool) (y : Thing) (x : Name) (e : Entry) → ((all : List ℕ) → IsAmong all y) → IfSome (if b then None else Some (bound y x e)) (Enters outer 0 G e)
  unless_bound G true y x e g = tt
  unless_bound G false y x e g = bound_enters G y x e g

  -- ---- signals

  bound_some : (G : List ℕ → Type 0) (mode : Option Mode) (d : Valued) (y : ℕ) (v : Thing) (x : Name) (e : Entry) → IfSome (signal_bound mode (Some d) (actual.Object y v) x e) (Enters outer 0 G e)
  bound_some G mode d y (thing.Signal i s a) x e = where_bound G (same_kind s.kind d.subtype.kind) (thing.Signal i d.subtype (access_of mode)) x e (λ all. tt)
  bound_some G mode d y thing.Domain x e = where_bound G (not (is_out mode) && same_kind d.subtype.kind (Of (t.Enumeration 0))) thing.Domain x e (λ all. tt)
  bound_some G mode d y _ x e = tt

  bound_none : (G : List ℕ → Type 0) (mode : Option Mode) (y : ℕ) (v : Thing) (x : Name) (e : Entry) → IfSome (signal_bound mode None (actual.Object y v) x e) (Enters outer 0 G e)
  bound_none G mode y (thing.Signal i s a) x e = bound_enters G thing.Faulty x e (λ all. tt)
  bound_none G mode y thing.Domain x e = unless_bound G (is_out mode) thing.Faulty x e (λ all. tt)
  bound_none G mode y _ x e = tt

  signal_at : (G : List ℕ → Type 0) (mode : Option Mode) (d : Option Valued) (a : Actual) (x : Name) (e : Entry) → IfSome (signal_bound mode d a x e) (Enters outer 0 G e)
  signal_at G mode (Some d) (actual.Object y v) x e = bound_some G mode d y v x e
  signal_at G mode (Some d) actual.Open x e = tt
  signal_at G mode (Some d) (actual.Value k v) x e = tt
  signal_at G mode None (actual.Object y v) x e = bound_none G mode y v x e
  signal_at G mode None actual.Open x e = tt
  signal_at G mode None (actual.Value k v) x e = tt

  new_enters : (G : List ℕ → Type 0) (texts : List (List ℕ)) (mode : Option Mode) (d : Option Valued) (x : Name) (e : Entry) → Enters outer 0 G e (record e { book = new_port_signal texts mode d x e.book })
  new_enters G texts mode (Some d) x e =
      enters_same G e (record e { book = new_port_signal texts mode (Some d) x e.book }) refl
      (λ all h. sources_named all e.book.scope x.number (thing.Signal (length e.book.objects.signals) d.subtype (access_of mode)) h tt)
  new_enters G texts mode None x e =
      enters_same G e (record e { book = new_port_signal texts mode None x e.book }) refl (λ all h. sources_named all e.book.scope x.number thing.Faulty h tt)

  pub signal_enters : (G : List ℕ → Type 0) (texts : List (List ℕ)) (mode : Option Mode) (d : Option Valued) (o : Option Assigned) (x : Name) (e : Entry)
      → IfSome (signal_entered texts mode d o x e) (Enters outer 0 G e)
  signal_enters G texts mode d None x e = new_enters G texts mode d x e
  signal_enters G texts mode d (Some a) x e = signal_at G mode d a.actual x e

  -- ---- terminals

  terminal_of : (G : List ℕ → Type 0) (place : Place) (formal : Option ℕ) (y : ℕ) (v : Thing) (x : Name) (e : Entry)
      → IfSome (terminal_entered (Some (record { place = place; formal = formal; actual = actual.Object y v })) x e) (Enters outer 0 G e)
  terminal_of G place formal y (thing.Terminal end m) x e = bound_enters G (thing.Terminal end m) x e (λ all. tt)
  terminal_of G place formal y _ x e = tt

  terminal_at : (G : List ℕ → Type 0) (place : Place) (formal : Option ℕ) (a : Actual) (x : Name) (e : Entry)
      → IfSome (terminal_entered (Some (record { place = place; formal = formal; actual = a })) x e) (Enters outer 0 G e)
  terminal_at G place formal (actual.Object y v) x e = terminal_of G place formal y v x e
  terminal_at G place formal actual.Open x e = tt
  terminal_at G place formal (actual.Value k v) x e = tt

  pub terminal_enters : (G : List ℕ → Type 0) (o : Option Assigned) (x : Name) (e : Entry) → IfSome (terminal_entered o x e) (Enters outer 0 G e)
  terminal_enters G None x e = tt
  terminal_enters G (Some a) x e = terminal_at G a.place a.formal a.actual x e

  -- ---- quantities

  abbrev pub one_if : Bool → ℕ
  one_if b = if b then 1 else 0

  both_true : (a b : Bool) → (a && b) ≡ true → (a ≡ true) × (b ≡ true)
  both_true true b h = (refl, h)
  both_true false b h = absurd (cc)

  not_true : (a : Bool) → not a ≡ true → a ≡ false
  not_true true h = absurd (cc)
  not_true false h = refl

  -- a port of mode out
  new_use : (q : ℕ) (c : QuantityClass) (x : Name) (e : Entry) → is_source c ≡ true → is_used outer q e.used ≡ false
      → Enters outer 1 (λ all. IsAmong all (thing.Quantity q c)) e (record (bound (thing.Quantity q class.PortOut) x e) { used = e.used ++ (outer, q) ∷ [] })
  new_use q c x e source free =
      let mine : uses outer (e.used ++ (outer, q) ∷ []) ≡ uses outer e.used ++ q ∷ [] = own_use outer q e.used in
      record {
        found = q ∷ [];
        count = refl;
        own = mine;
        others = λ n d. other_use n outer q e.used d;
        once = λ h. subst Once (sym mine) (once_more q (uses outer e.used) h (absent q (uses outer e.used) (sym (used_is outer q e.used) ∙ free)));
        among = λ all g. All-cons (λ z. list_any (nat_eq z) all ≡ true) q [] (g source) (All-nil (λ z. list_any (nat_eq z) all ≡ true));
        sources = λ all h.
            sources_named (all ++ q ∷ []) e.book.scope x.number (thing.Quantity q class.PortOut) (sources_more all (q ∷ []) e.book.scope h) (λ is. in_last q all);
      }

  out_enters : (q : ℕ) (c : QuantityClass) (x : Name) (e : Entry) → IfSome (out_bound outer q c x e) (Enters outer 1 (λ all. IsAmong all (thing.Quantity q c)) e)
  out_enters q c x e = go (is_source c && not (is_used outer q e.used)) refl
    where
      go : (b : Bool) → (is_source c && not (is_used outer q e.used)) ≡ b
          → IfSome (if b then Some (record (bound (thing.Quantity q class.PortOut) x e) { used = e.used ++ (outer, q) ∷ [] }) else None) (Enters outer 1 (λ all. IsAmong all (thing.Quantity q c)) e)
      go true is = let p = both_true (is_source c) (not (is_used outer q e.used)) is in new_use q c x e p.0 (not_true (is_used outer q e.used) p.1)
      go false is = tt

  no_source : (q : ℕ) (all : List ℕ) → is_source class.PortIn ≡ true → list_any (nat_eq q) all ≡ true
  no_source q all is = absurd (cc)

  mode_enters : (q : ℕ) (c : QuantityClass) (b : Bool) (x : Name) (e : Entry)
      → IfSome (if b then out_bound outer q c x e else Some (bound (thing.Quantity q class.PortIn) x e)) (Enters outer (one_if b) (λ all. IsAmong all (thing.Quantity q c)) e)
  mode_enters q c true x e = out_enters q c x e
  mode_enters q c false x e = bound_enters (λ all. IsAmong all (thing.Quantity q c)) (thing.Quantity q class.PortIn) x e (λ all. no_source q all)

  quantity_bound_enters : (mode : Option Mode) (v : Thing) (x : Name) (e : Entry) → IfSome (quantity_bound outer mode v x e) (Enters outer (one_if (is_out mode)) (λ all. IsAmong all v) e)
  quantity_bound_enters mode (thing.Quantity q c) x e = mode_enters q c (is_out mode) x e
  quantity_bound_enters mode _ x e = tt

  quantity_of : (mode : Option Mode) (place : Place) (formal : Option ℕ) (a : Actual) (x : Name) (e : Entry)
      → IfSome (quantity_entered outer mode (Some (record { place = place; formal = formal; actual = a })) x e)
      (Enters outer (one_if (is_out mode)) (λ all. AssignedAmong all (record { place = place; formal = formal; actual = a })) e)
  quantity_of mode place formal (actual.Object y v) x e = quantity_bound_enters mode v x e
  quantity_of mode place formal actual.Open x e = tt
  quantity_of mode place formal (actual.Value k v) x e = tt

  pub quantity_enters : (mode : Option Mode) (o : Option Assigned) (x : Name) (e : Entry)
      → IfSome (quantity_entered outer mode o x e) (Enters outer (one_if (is_out mode)) (λ all. IfSome o (AssignedAmong all)) e)
  quantity_enters mode None x e = tt
  quantity_enters mode (Some a) x e = quantity_of mode a.place a.formal a.actual x e
