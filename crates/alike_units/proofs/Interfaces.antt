-- The interface of an entity that breaks no rule: no name is a broken one, and its terminals have the nature outside of all units.
use Rattle.std.proofs.Common.{◌≡◌, ◌<◌, ℕ, zero, suc, Bool, true, false, List, [], ◌∷◌, length, Option, Some, None, refl, sym, ap, subst, ◌∙◌}
use Rattle.std.specs.List.{fold}
use Rattle.ams_token.specs.declared.token.Place.{Place}
use Rattle.ams_tree.specs.declared.expression.Name.{Name}
use Rattle.ams_tree.specs.declared.expression.Expr.{Expr}
use Rattle.ams_tree.specs.declared.declaration.Generic.{Generic}
use Rattle.ams_tree.specs.declared.declaration.Port.{Port}
use Rattle.ams_tree.specs.declared.declaration.Port.TheVariants as port
use Rattle.ams_tree.specs.declared.declaration.SubtypeIndication.{SubtypeIndication}
use Rattle.ams_tree.specs.declared.design.Entity.{Entity}
use Rattle.ams_value.specs.declared.val.Val.{Val}
use Rattle.flat_design.specs.declared.objects.Terminal.{Terminal}
use Rattle.flat_design.specs.declared.objects.Terminal.TheVariants as terminal
use Rattle.name_scope.specs.declared.scope.Scope.{Scope}
use Rattle.name_scope.specs.declared.thing.Access.{Access}
use Rattle.name_scope.specs.declared.thing.QuantityClass.{QuantityClass}
use Rattle.name_scope.specs.declared.thing.Subtype.{Subtype}
use Rattle.name_scope.specs.declared.thing.Thing.{Thing}
use Rattle.name_scope.specs.declared.thing.Thing.TheVariants as thing
use Rattle.name_scope.specs.Scopes.{Region, declared_in, visible, or_in, among, lookup, with_name}
use Rattle.elab_meaning.specs.declared.book.Book.{Book}
use Rattle.elab_meaning.specs.declared.fault.Cause.TheVariants.{Unknown, WrongType}
use Rattle.elab_meaning.specs.declared.fault.Notes.{Notes}
use Rattle.elab_meaning.specs.declared.part.Part.{Part}
use Rattle.elab_meaning.specs.declared.part.Part.TheVariants.{Kept, Wrong, Hidden}
use Rattle.elab_meaning.specs.declared.typed.Valued.{Valued}
use Rattle.elab_meaning.specs.Parts.{where_true, judged, closed, found_thing}
use Rattle.elab_meaning.specs.Subtypes.{subtype, valued}
use Rattle.elab_meaning.specs.Declarations.{with_notes, each, each_of, declaring_each, signal_of, node, nature_of, nature_named, free_of}
use Rattle.unit_meaning.specs.Interfaces.{first_place, unvalued, generic_default, generic_name, generic, access_of, class_of, quantity_subtype, quantity_port, port_declaration, interface}
use Rattle.unit_meaning.specs.Units.{start_of}
use Rattle.alike_laws.specs.Alike.{HasNoFaults, IsShown, own_nature, is_faulty, at_instance, AlikeThing, AlikeFound, AlikeScopes}
use Rattle.alike_laws.proofs.Scopes.{with_each, named_alike}
use Rattle.alike_laws.proofs.Start.{start_alike}
use Rattle.alike_books.specs.Books.{PartsFollow}
use Rattle.alike_books.proofs.Before.{declared_before, each_of_before}
use Rattle.alike_parts.proofs.Follows.{none_noted}
use Rattle.alike_maps.specs.Maps.{NaturesStand}
use Rattle.alike_units.proofs.Before.{signal_before, node_before, quantity_before, generics_before, ports_before}

-- ---- parts that are kept

abbrev IsKept : {A : Type 0} → Part A → Type 0
IsKept (Kept a) = Unit {0}
IsKept _ = ⊥

kept_closed : {A : Type 0} (place : Place) (p : Part A) (n : Notes) → (HasNoFaults n → IsShown p) → HasNoFaults (closed place p n) → IsKept p
kept_closed place (Kept a) n shown h = tt
kept_closed place Wrong n shown h = none_noted ⊥ place WrongType n h
kept_closed place Hidden n shown h = shown h

shown_judged : {A B : Type 0} (rule : A → Part B) (p : Part A) → ((a : A) → IsShown (rule a)) → IsShown p → IsShown (judged rule p)
shown_judged rule (Kept a) each h = each a
shown_judged rule Wrong each h = tt
shown_judged rule Hidden each h = h

shown_where : (A : Type 0) (b : Bool) (a : A) → IsShown (where_true b a)
shown_where A true a = tt
shown_where A false a = tt

-- ---- scopes

abbrev nature_in : Option Thing → Option ℕ
nature_in (Some t) = own_nature t
nature_in None = None

abbrev pub zeros : ℕ → List ℕ
zeros zero = []
zeros (suc n) = 0 ∷ zeros n

pub zeros_length : (n : ℕ) → length (zeros n) ≡ n
zeros_length zero = refl
zeros_length (suc n) = ap suc (zeros_length n)

pub zeros_at : (n m : ℕ) → at_instance (zeros n) m ≡ 0
zeros_at zero m = refl
zeros_at (suc n) zero = refl
zeros_at (suc n) (suc m) = zeros_at n m

module _ (texts : List (List ℕ)) (size : ℕ) (some : 0 < size) where
  abbrev all : List ℕ
  all = zeros size

  -- a scope of an interface: names are alike themselves, and none that it declares is a nature
  record IsSound (s : Scope) : Type 0 where
    alike : AlikeScopes all s s
    outer : s.outer ≡ (start_of texts).outer
    plain : (x : ℕ) → nature_in (declared_in s.inner x) ≡ None

  long : 0 < length all
  long = subst (λ (k : ℕ). 0 < k) (sym (zeros_length size)) some

  start_sound : IsSound (start_of texts)
  start_sound = record { alike = start_alike all long (zeros_at size 0) texts; outer = refl; plain = λ x. refl }

  record IsGood (t : Thing) : Type 0 where
    alike : AlikeThing all t t
    plain : own_nature t ≡ None

  named_sound : (s : Scope) (x : ℕ) (t : Thing) → IsGood t → IsSound s → IsSound (with_name s x t)
  named_sound s x t good h =
      record {
        alike = named_alike all s s x t t h.alike good.alike;
        outer = h.outer;
        plain = λ y. with_each (λ (o : Option Thing). nature_in o ≡ None) s.inner x t y (h.plain y) good.plain;
      }

  constant_good : (s : Subtype) (v : Option Val) → IsGood (thing.Constant s v)
  constant_good s v = record { alike = record { whole = refl; label = refl; changing = λ h. h; terminal_known = tt; terminal = tt; nature_known = tt; nature = tt }; plain = refl }

  signal_good : (i : ℕ) (s : Subtype) (a : Access) → IsGood (thing.Signal i s a)
  signal_good i s a = record { alike = record { whole = refl; label = refl; changing = λ h. h; terminal_known = tt; terminal = tt; nature_known = tt; nature = tt }; plain = refl }

  quantity_good : (i : ℕ) (c : QuantityClass) → IsGood (thing.Quantity i c)
  quantity_good i c = record { alike = record { whole = refl; label = refl; changing = λ h. h; terminal_known = tt; terminal = tt; nature_known = tt; nature = tt }; plain = refl }

  terminal_good : (end : Terminal) (m : ℕ) → m ≡ 0 → IsGood (thing.Terminal end m)
  terminal_good end m none =
      record {
        alike =
            record {
              whole = refl;
              label = refl;
              changing = λ h. h;
              terminal_known = subst (λ (k : ℕ). k < length all) (sym none) long;
              terminal = none ∙ sym (zeros_at size m);
              nature_known = tt;
              nature = tt;
            };
        plain = refl;
      }

  -- ---- names of a declaration

  abbrev Keeps : (Name → Book → Book) → Type 0
  Keeps rule = (x : Name) (b : Book) → IsSound b.scope → IsSound (rule x b).scope

  each_sound : (rule : Name → Book → Book) → Keeps rule → (names : List Name) (b : Book) → IsSound b.scope → IsSound (each rule names b).scope
  each_sound rule keeps [] b h = h
  each_sound rule keeps (x ∷ more) b h = each_sound rule keeps more (rule x b) (keeps x b h)

  each_of_sound : (A : Type 0) (rule : A → Name → Book → Book) (p : Part A) → IsKept p → ((a : A) → p ≡ Kept a → Keeps (rule a)) → (names : List Name) (b : Book) → IsSound b.scope
      → IsSound (each_of rule p names b).scope
  each_of_sound A rule (Kept a) there keeps names b h = each_sound (rule a) (keeps a refl) names b h
  each_of_sound A rule Wrong there keeps names b h = absurd there
  each_of_sound A rule Hidden there keeps names b h = absurd there

  -- a declaration that breaks no rule
  declaring_sound : (A : Type 0) (rule : A → Name → Book → Book) → ((a : A) (x : Name) (b : Book) → HasNoFaults (rule a x b).notes → HasNoFaults b.notes) → (place : Place) (names : List Name) (found : Notes × Part A) (b : Book)
      → (HasNoFaults found.0 → IsShown found.1) → ((a : A) → found.1 ≡ Kept a → Keeps (rule a)) → HasNoFaults (declaring_each rule place names found b).notes → IsSound b.scope
      → IsSound (declaring_each rule place names found b).scope
  declaring_sound A rule before place names found b shown keeps clean h =
      let behind = with_notes (closed place found.1 found.0) b in
      each_of_sound A rule found.1 (kept_closed place found.1 found.0 shown (each_of_before A rule before found.1 names behind clean)) keeps names behind h

  -- ---- generics and ports

  module _ (parts : PartsFollow) where
    shown_subtype : (s : Scope) (i : SubtypeIndication) (n : Notes) → IsSound s → HasNoFaults (subtype texts s i n).0 → IsShown (subtype texts s i n).1
    shown_subtype s i n h clean = (parts.subtypes all s s h.alike texts i n n).right clean

    shown_valued : (s : Scope) (i : SubtypeIndication) (x : Option Expr) (n : Notes) → IsSound s → HasNoFaults (valued texts s i x n).0 → IsShown (valued texts s i x n).1
    shown_valued s i x n h clean = (parts.values all s s h.alike texts i x n n).right clean

    shown_default : (s : Scope) (i : SubtypeIndication) (x : Option Expr) (n : Notes) → IsSound s → HasNoFaults (generic_default texts s i x n).0 → IsShown (generic_default texts s i x n).1
    shown_default s i None n h clean = shown_judged unvalued (subtype texts s i n).1 (λ a. tt) (shown_subtype s i n h clean)
    shown_default s i (Some x) n h clean = shown_valued s i (Some x) n h clean

    generic_sound : (g : Generic) (b : Book) → HasNoFaults (generic texts b g).notes → IsSound b.scope → IsSound (generic texts b g).scope
    generic_sound g b clean h =
        declaring_sound Valued generic_name (λ v. declared_before (thing.Constant v.subtype None)) (first_place g.constant g.names) g.names (generic_default texts b.scope g.indication g.default b.notes) b
        (shown_default b.scope g.indication g.default b.notes h) (λ v is x c k. named_sound c.scope x.number (thing.Constant v.subtype None) (constant_good v.subtype None) k) clean h

    generics_sound : (gs : List Generic) (b : Book) → HasNoFaults (fold (generic texts) b gs).notes → IsSound b.scope → IsSound (fold (generic texts) b gs).scope
    generics_sound [] b clean h = h
    generics_sound (g ∷ more) b clean h = generics_sound more (generic texts b g) clean (generic_sound g b (generics_before texts more (generic texts b g) clean) h)

    -- ---- natures

    -- a name that stands for a nature does so outside
    outside_is : (s : Scope) (x k : ℕ) → IsSound s → lookup s x ≡ Some (thing.Nature k) → lookup (start_of texts) x ≡ Some (thing.Nature k)
    outside_is s x k h is = subst (λ (regions : List Region). among regions x ≡ Some (thing.Nature k)) h.outer (go (declared_in s.inner x) (h.plain x) is)
      where
        impossible : (X : Type 0) (t : Thing) → own_nature t ≡ None → Some t ≡ Some (thing.Nature k) → X
        impossible X (thing.Nature m) plain same = cc
        impossible X _ plain same = cc

        seen : (t : Thing) → own_nature t ≡ None → or_in (visible (Some t)) (among s.outer x) ≡ Some (thing.Nature k) → among s.outer x ≡ Some (thing.Nature k)
        seen thing.Label plain is = is
        seen t plain is = impossible _ t plain is

        go : (o : Option Thing) → nature_in o ≡ None → or_in (visible o) (among s.outer x) ≡ Some (thing.Nature k) → among s.outer x ≡ Some (thing.Nature k)
        go None plain is = is
        go (Some t) plain is = seen t plain is

    nature_none : (s : Scope) (x k : ℕ) → IsSound s → lookup s x ≡ Some (thing.Nature k) → k ≡ 0
    nature_none s x k h is =
        let like : AlikeThing all (thing.Nature k) (thing.Nature k) = subst (λ (o : Option Thing). AlikeFound all o o) is (h.alike.seen x) in
        like.nature ∙ zeros_at size k

    shown_thing : (x : Name) (t : Thing) (n : Notes) → is_faulty t ≡ false → IsShown (judged nature_of (found_thing x (Some t) n).1)
    shown_thing x thing.Faulty n h = absurd (broken h)
      where
        broken : true ≡ false → ⊥
        broken h = cc
    shown_thing x (thing.Nature k) n h = tt
    shown_thing x _ n h = tt

    shown_found : (x : Name) (o : Option Thing) (n : Notes) → AlikeFound all o o → HasNoFaults (found_thing x o n).0 → IsShown (judged nature_of (found_thing x o n).1)
    shown_found x None n like clean = none_noted _ x.place (Unknown x.number) n clean
    shown_found x (Some t) n like clean = shown_thing x t n like.whole

    same_kept : {A : Type 0} (a b : A) → Kept a ≡ Kept b → a ≡ b
    same_kept a b h = cc

    never_kept : (X : Type 0) {A : Type 0} {a : A} → Hidden ≡ Kept a → X
    never_kept X h = cc

    never_right : (X : Type 0) {A : Type 0} {a : A} → Wrong ≡ Kept a → X
    never_right X h = cc

    found_nature : (x : Name) (o : Option Thing) (n : Notes) (k : ℕ) → judged nature_of (found_thing x o n).1 ≡ Kept k → o ≡ Some (thing.Nature k)
    found_nature x None n k h = never_kept _ h
    found_nature x (Some thing.Faulty) n k h = never_kept _ h
    found_nature x (Some (thing.Nature m)) n k h = ap (λ (z : ℕ). Some (thing.Nature z)) (same_kept m k h)
    found_nature x (Some _) n k h = never_right _ h

    -- ---- ports

    is_kept : {A : Type 0} (p : Part A) → IsKept p → (a : A) × (p ≡ Kept a)
    is_kept (Kept a) there = (a, refl)
    is_kept Wrong there = absurd there
    is_kept Hidden there = absurd there

    shown_named : (m : Name) (b : Book) → IsSound b.scope → HasNoFaults (nature_named m b).0 → IsShown (nature_named m b).1
    shown_named m b h clean = shown_found m (lookup b.scope m.number) b.notes (h.alike.seen m.number) clean

    port_sound : (p : Port) (b : Book) → HasNoFaults (port_declaration texts b p).notes → IsSound b.scope → IsSound (port_declaration texts b p).scope
    port_sound (port.Signal place names mode i x) b clean h =
        declaring_sound Valued (signal_of texts (access_of mode)) (signal_before texts (access_of mode)) (first_place place names) names (valued texts b.scope i x b.notes) b
        (shown_valued b.scope i x b.notes h) (λ v is y c k. named_sound c.scope y.number (thing.Signal (length c.objects.signals) v.subtype (access_of mode)) (signal_good _ v.subtype (access_of mode)) k) clean h
    port_sound (port.Terminal place names m) b clean h =
        declaring_sound ℕ (node texts) (node_before texts) place names (nature_named m b) b (shown_named m b h)
        (λ a is y c k.
        named_sound c.scope y.number (thing.Terminal (terminal.Node (length c.objects.nodes)) a)
        (terminal_good (terminal.Node (length c.objects.nodes)) a (nature_none b.scope m.number a h (found_nature m (lookup b.scope m.number) b.notes a is))) k) clean h
    port_sound (port.Quantity place names mode i) b clean h =
        declaring_sound Subtype (quantity_port texts (class_of mode)) (quantity_before texts (class_of mode)) place names (quantity_subtype texts i b) b
        (λ k. shown_judged free_of (subtype texts b.scope i b.notes).1 (λ s. shown_where Subtype _ s) (shown_subtype b.scope i b.notes h k))
        (λ v is y c k. named_sound c.scope y.number (thing.Quantity (length c.objects.quantities) (class_of mode)) (quantity_good _ (class_of mode)) k) clean h

    port_stands : (place : Place) (names : List Name) (m : Name) (b : Book) → HasNoFaults (port_declaration texts b (port.Terminal place names m)).notes → IsSound b.scope
        → lookup (start_of texts) m.number ≡ Some (thing.Nature 0)
    port_stands place names m b clean h =
        let found = nature_named m b in
        let behind = with_notes (closed place found.1 found.0) b in
        let p = is_kept found.1 (kept_closed place found.1 found.0 (shown_named m b h) (each_of_before ℕ (node texts) (node_before texts) found.1 names behind clean)) in
        let here : lookup b.scope m.number ≡ Some (thing.Nature p.0) = found_nature m (lookup b.scope m.number) b.notes p.0 p.1 in
        subst (λ (k : ℕ). lookup (start_of texts) m.number ≡ Some (thing.Nature k)) (nature_none b.scope m.number p.0 h here) (outside_is b.scope m.number p.0 h here)

    natures_stand : (ports : List Port) (b : Book) → HasNoFaults (fold (port_declaration texts) b ports).notes → IsSound b.scope → NaturesStand (start_of texts) ports
    natures_stand [] b clean h = tt
    natures_stand (port.Terminal place names m ∷ more) b clean h =
        let next = port_declaration texts b (port.Terminal place names m) in
        let before : HasNoFaults next.notes = ports_before texts more next clean in
        (port_stands place names m b before h, natures_stand more next clean (port_sound (port.Terminal place names m) b before h))
    natures_stand (port.Signal place names mode i x ∷ more) b clean h =
        let next = port_declaration texts b (port.Signal place names mode i x) in
        natures_stand more next clean (port_sound (port.Signal place names mode i x) b (ports_before texts more next clean) h)
    natures_stand (port.Quantity place names mode i ∷ more) b clean h =
        let next = port_declaration texts b (port.Quantity place names mode i) in
        natures_stand more next clean (port_sound (port.Quantity place names mode i) b (ports_before texts more next clean) h)

    ports_sound : (ports : List Port) (b : Book) → HasNoFaults (fold (port_declaration texts) b ports).notes → IsSound b.scope → IsSound (fold (port_declaration texts) b ports).scope
    ports_sound [] b clean h = h
    ports_sound (p ∷ more) b clean h =
        let next = port_declaration texts b p in
        ports_sound more next clean (port_sound p b (ports_before texts more next clean) h)

    sound_at : (b : Book) → b.scope ≡ start_of texts → IsSound b.scope
    sound_at b is = subst IsSound (sym is) start_sound

    pub entity_natures : (e : Entity) (b : Book) → b.scope ≡ start_of texts → HasNoFaults (interface texts e b).notes → NaturesStand (start_of texts) e.ports
    entity_natures e b is clean =
        let generics = fold (generic texts) b e.generics in
        natures_stand e.ports generics clean (generics_sound e.generics b (ports_before texts e.ports generics clean) (sound_at b is))

    -- the names of an interface, beside themselves
    pub entity_alike : (e : Entity) (b : Book) → b.scope ≡ start_of texts → HasNoFaults (interface texts e b).notes → AlikeScopes all (interface texts e b).scope (interface texts e b).scope
    entity_alike e b is clean =
        let generics = fold (generic texts) b e.generics in
        let sound : IsSound (interface texts e b).scope = ports_sound e.ports generics clean (generics_sound e.generics b (ports_before texts e.ports generics clean) (sound_at b is)) in
        sound.alike
