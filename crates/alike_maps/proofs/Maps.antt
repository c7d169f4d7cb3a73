-- Associations of an instance, read twice.
use Rattle.std.proofs.Common.{◌≡◌, ◌+◌, ℕ, arith, Bool, true, false, if◌then◌else◌, List, [], ◌∷◌, Option, Some, None, refl, sym, ap, subst, ◌∙◌}
use Rattle.std.specs.Prelude.{nat_eq}
use Rattle.std.proofs.lemmas.Bool.Decides.{nat_tests}
use Rattle.ams_token.specs.declared.token.Place.{Place}
use Rattle.ams_tree.specs.declared.expression.Name.{Name}
use Rattle.ams_tree.specs.declared.expression.Attribute.{Attribute}
use Rattle.ams_tree.specs.declared.expression.Attribute.TheOpen.{Expr-F}
use Rattle.ams_tree.specs.declared.expression.Attribute.TheViews.{roll-Expr, out-roll-Expr}
use Rattle.ams_tree.specs.declared.expression.Attribute.TheFolds.{fold-roll-Expr, ind-Expr}
use Rattle.ams_tree.specs.declared.expression.Expr.{Expr, out-Expr}
use Rattle.ams_tree.specs.declared.concurrent.Association.{Association}
use Rattle.ams_tree.specs.declared.concurrent.Association.TheVariants as association
use Rattle.ams_tree.specs.declared.concurrent.Instance.{Instance}
use Rattle.ams_tree.specs.declared.design.DesignUnit.{DesignUnit}
use Rattle.ams_value.specs.declared.val.Val.{Val}
use Rattle.name_scope.specs.declared.thing.Kind.{Kind}
use Rattle.name_scope.specs.declared.thing.Subtype.{Subtype}
use Rattle.name_scope.specs.declared.thing.Thing.{Thing}
use Rattle.name_scope.specs.declared.thing.Thing.TheVariants as thing
use Rattle.name_scope.specs.declared.scope.Scope.{Scope}
use Rattle.name_scope.specs.Scopes.{lookup}
use Rattle.elab_meaning.specs.declared.fault.Cause.TheVariants.{Unknown, NatureMismatch}
use Rattle.elab_meaning.specs.declared.fault.Notes.{Notes}
use Rattle.elab_meaning.specs.declared.typed.Asked.{Asked}
use Rattle.elab_meaning.specs.declared.typed.Context.{Context}
use Rattle.elab_meaning.specs.declared.typed.StaticValue.{StaticValue}
use Rattle.elab_meaning.specs.declared.typed.StaticValue.TheVariants as known
use Rattle.elab_meaning.specs.declared.typed.Typed.{Typed}
use Rattle.elab_meaning.specs.Notes.{noted}
use Rattle.elab_meaning.specs.Names.{constant, named}
use Rattle.elab_meaning.specs.Parts.{part_of, judged, found_thing}
use Rattle.elab_meaning.specs.Expressions.{Reading, static_in, asked_value, asked, attribute_step, expr_step, expression, static}
use Rattle.elab_meaning.specs.Subtypes.{declaring}
use Rattle.unit_meaning.specs.declared.request.Actual.{Actual}
use Rattle.unit_meaning.specs.Settings.{Setting, running}
use Rattle.unit_meaning.specs.Cases.{place_of}
use Rattle.unit_meaning.specs.Associations.{entity_in, formal_at, generic_formals, port_formals, has_no_value, formal_suits, generic_value, object_or, generic_actual, nature_outside, compared, object_actual, port_actual, association_place, associations, list_or, instance_maps}
use Rattle.alike_laws.specs.Alike.{HasNoFaults, OnlyTold, changes, at_instance, terminal_nature, SameNature, AlikeThing, AlikeFound}
use Rattle.alike_parts.specs.Follows.{BothRead}
use Rattle.alike_parts.proofs.Follows.{Follows, none_noted, told_wrong, told_closed, same_follows, on_follows, noted_follows, finished_follows}
use Rattle.alike_parts.proofs.Parts.{asked_follows, typed_follows}
use Rattle.alike_maps.specs.Maps.{IsOutside}

-- ---- a name that stands alone

rolled : (e : Expr) (y : Name) → out-Expr e ≡ Expr-F.Name y → e ≡ roll-Expr (Expr-F.Name y)
rolled =
    ind-Expr (λ (a : Attribute). Unit {0}) (λ (e : Expr). (y : Name) → out-Expr e ≡ Expr-F.Name y → e ≡ roll-Expr (Expr-F.Name y))
    (λ x y is. tt)
    (λ x y is z h. ap roll-Expr (sym (out-roll-Expr x) ∙ h))

name_is : (texts : List (List ℕ)) (scope : Scope) (e : Expr) (y : Name) (k : Context) (n : Notes) → out-Expr e ≡ Expr-F.Name y → expression texts scope e k n ≡ named k y (lookup scope y.number) n
name_is texts scope e y k n h =
    ap (λ (z : Expr). expression texts scope z k n) (rolled e y h)
    ∙ ap (λ (f : Reading). f k n) (fold-roll-Expr (Name → Reading) Reading (attribute_step scope) (expr_step texts scope) (Expr-F.Name y))

never : (X : Type 0) → true ≡ false → X
never X h = cc

constant_notes : (place : Place) (k : Kind) (v : Option Val) (n : Notes) → (constant place k v n).0 ≡ n
constant_notes place k (Some v) n = refl
constant_notes place k None n = refl

no_such : (X : Type 0) {A : Type 0} {a : A} → None ≡ Some a → X
no_such X h = cc

pub equal : (a b : ℕ) → nat_eq a b ≡ true → a ≡ b
equal a b h = grind (arith, nat_tests)

-- the name of what doesn't change notes nothing but a wrong type
named_told : (k : Context) (y : Name) (t : Thing) (m : Notes) → changes t ≡ false → OnlyTold m → OnlyTold (named k y (Some t) m).0
named_told k y (thing.Constant s v) m still h = subst OnlyTold (sym (constant_notes y.place s.kind v m)) h
named_told k y (thing.Literal v) m still h = h
named_told k y (thing.Signal i s a) m still h = never _ still
named_told k y thing.Domain m still h = never _ still
named_told k y (thing.Quantity i q) m still h = never _ still
named_told k y (thing.Variable i s) m still h = never _ still
named_told k y (thing.Parameter i) m still h = never _ still
named_told k y thing.Now m still h = never _ still
named_told k y thing.Faulty m still h = h
named_told k y (thing.Type s f) m still h = told_wrong y.place m h
named_told k y thing.BitVector m still h = told_wrong y.place m h
named_told k y (thing.Terminal end a) m still h = told_wrong y.place m h
named_told k y (thing.Nature a) m still h = told_wrong y.place m h
named_told k y (thing.Function f) m still h = told_wrong y.place m h
named_told k y thing.Label m still h = told_wrong y.place m h

value_told : (place : Place) (k : Kind) (v : StaticValue) (m : Notes) → OnlyTold m → OnlyTold (asked_value place k v m).0
value_told place k (known.Known v) m h = h
value_told place k known.Faulty m h = told_wrong place m h
value_told place k known.Later m h = h
value_told place k known.Changing m h = h

asked_told : (o : Option Typed) (m : Notes) → OnlyTold m → OnlyTold (asked o m).0
asked_told None m h = h
asked_told (Some t) m h = value_told t.place t.kind t.value m h

no_value_still : (t : Thing) → has_no_value (Some t) ≡ true → changes t ≡ false
no_value_still (thing.Terminal end m) h = refl
no_value_still (thing.Type s f) h = refl
no_value_still thing.BitVector h = refl
no_value_still (thing.Nature m) h = refl
no_value_still (thing.Function f) h = refl
no_value_still (thing.Constant s v) h = refl
no_value_still (thing.Literal v) h = refl
no_value_still thing.Label h = refl
no_value_still thing.Faulty h = refl
no_value_still (thing.Signal i s a) h = never _ (sym h)
no_value_still thing.Domain h = never _ (sym h)
no_value_still (thing.Quantity i q) h = never _ (sym h)
no_value_still (thing.Variable i s) h = never _ (sym h)
no_value_still (thing.Parameter i) h = never _ (sym h)
no_value_still thing.Now h = never _ (sym h)

still : (natures : List ℕ) (a b : Thing) → AlikeThing natures a b → changes a ≡ false → changes b ≡ false
still natures a b like h = go (changes b) refl
  where
    go : (c : Bool) → changes b ≡ c → changes b ≡ false
    go false is = is
    go true is = never _ (sym (like.changing is) ∙ h)

abbrev pub Rule : Type 0 → Type 0
Rule A = Option A → Place → Expr → Notes → Notes × Actual

abbrev pub for_generic : List (List ℕ) → Scope → Rule (Option Subtype)
for_generic texts scope formal place x = generic_actual texts scope formal place x (out-Expr x)

associations_follow : (G : Type 0) (A : Type 0) (f g : Rule A) → ((o p : Option A) (place : Place) (x : Expr) (n m : Notes) → Follows G n m (f o place x n).0 (g p place x m).0)
    → (first second : List (ℕ × A)) (j : ℕ) (all : List Association) (n m : Notes) → Follows G n m (associations f first j all n).0 (associations g second j all m).0
associations_follow G A f g each first second j [] n m = same_follows G n m
associations_follow G A f g each first second j (association.Open formal place ∷ more) n m = associations_follow G A f g each first second (j + 1) more n m
associations_follow G A f g each first second j (association.Actual formal x ∷ more) n m =
    let place = association_place formal (place_of x) in
    let a = f (formal_at first j formal) place x n in
    let b = g (formal_at second j formal) place x m in
    on_follows G n m a.0 b.0 (associations f first (j + 1) more a.0).0 (associations g second (j + 1) more b.0).0
    (each (formal_at first j formal) (formal_at second j formal) place x n m) (associations_follow G A f g each first second (j + 1) more a.0 b.0)

-- the same formals
ports_follow : (G : Type 0) (A : Type 0) (f g : Rule A) → ((o : Option A) (place : Place) (x : Expr) (n m : Notes) → Follows G n m (f o place x n).0 (g o place x m).0)
    → (formals : List (ℕ × A)) (j : ℕ) (all : List Association) (n m : Notes) → Follows G n m (associations f formals j all n).0 (associations g formals j all m).0
ports_follow G A f g each formals j [] n m = same_follows G n m
ports_follow G A f g each formals j (association.Open formal place ∷ more) n m = ports_follow G A f g each formals (j + 1) more n m
ports_follow G A f g each formals j (association.Actual formal x ∷ more) n m =
    let place = association_place formal (place_of x) in
    let a = f (formal_at formals j formal) place x n in
    let b = g (formal_at formals j formal) place x m in
    on_follows G n m a.0 b.0 (associations f formals (j + 1) more a.0).0 (associations g formals (j + 1) more b.0).0
    (each (formal_at formals j formal) place x n m) (ports_follow G A f g each formals (j + 1) more a.0 b.0)

module _ (G : Type 0) (natures : List ℕ) (v w : Setting) (c i : Scope) (premise : BothRead G natures v w c i) where
  -- ---- generics

  value_follows : (o p : Option (Option Subtype)) (place : Place) (x : Expr) (n m : Notes) → Follows G n m (generic_value v.texts c o place x n).0 (generic_value w.texts i p place x m).0
  value_follows o p place x n m =
      let a = static v.texts c x declaring n in
      let b = static w.texts i x declaring m in
      finished_follows G Asked place (judged (formal_suits o) (part_of a.1)) (judged (formal_suits p) (part_of b.1)) n m a.0 b.0 (asked_follows G natures v w c i premise declaring x n m)

  -- what has no value in the check, and isn't so at the instance
  late_told : (p : Option (Option Subtype)) (place : Place) (x : Expr) (y : Name) (t u : Option Thing) (m : Notes) → out-Expr x ≡ Expr-F.Name y → lookup i y.number ≡ u
      → AlikeFound natures t u → has_no_value t ≡ true → OnlyTold m → OnlyTold (generic_value w.texts i p place x m).0
  late_told p place x y None u m is found like none h = never _ (sym none)
  late_told p place x y (Some t) None m is found like valueless h = absurd like
  late_told p place x y (Some t) (Some u) m is found like valueless h =
      let e = expression w.texts i x (static_in declaring) m in
      let b = static w.texts i x declaring m in
      let read : e ≡ named (static_in declaring) y (Some u) m =
      name_is w.texts i x y (static_in declaring) m is ∙ ap (λ (o : Option Thing). named (static_in declaring) y o m) found in
      let behind : OnlyTold e.0 = subst (λ (z : Notes × Option Typed). OnlyTold z.0) (sym read) (named_told (static_in declaring) y u m (still natures t u like (no_value_still t valueless)) h) in
      told_closed place (judged (formal_suits p) (part_of b.1)) b.0 (asked_told e.1 e.0 behind)

  object_follows : (p q : Option (Option Subtype)) (place : Place) (x : Expr) (y : Name) (t u : Option Thing) (n m : Notes) → out-Expr x ≡ Expr-F.Name y → lookup i y.number ≡ u
      → (G → AlikeFound natures t u) → (d e : Bool) → has_no_value t ≡ d
      → Follows G n m (object_or d y.number t (generic_value v.texts c p place x n) n).0 (object_or e y.number u (generic_value w.texts i q place x m) m).0
  object_follows p q place x y (Some t) (Some u) n m is found like true true valueless = same_follows G n m
  object_follows p q place x y (Some t) (Some u) n m is found like true false valueless =
      record { back = λ h. h; told = λ there h k. late_told q place x y (Some t) (Some u) m is found (like there) valueless k }
  object_follows p q place x y (Some t) (Some u) n m is found like false true valueless = record { back = (value_follows p q place x n m).back; told = λ there h k. k }
  object_follows p q place x y (Some t) (Some u) n m is found like false false valueless = value_follows p q place x n m
  object_follows p q place x y None u n m is found like true e valueless = never _ (sym valueless)
  object_follows p q place x y None None n m is found like false true valueless = value_follows p q place x n m
  object_follows p q place x y None None n m is found like false false valueless = value_follows p q place x n m
  object_follows p q place x y None (Some u) n m is found like false true valueless =
      record { back = (value_follows p q place x n m).back; told = λ there h k. absurd (like there) }
  object_follows p q place x y None (Some u) n m is found like false false valueless = value_follows p q place x n m
  object_follows p q place x y (Some t) None n m is found like false true valueless = value_follows p q place x n m
  object_follows p q place x y (Some t) None n m is found like false false valueless = value_follows p q place x n m
  object_follows p q place x y (Some t) None n m is found like true true valueless = record { back = λ h. h; told = λ there h k. absurd (like there) }
  object_follows p q place x y (Some t) None n m is found like true false valueless = record { back = λ h. h; told = λ there h k. absurd (like there) }

  generic_follows : (o p : Option (Option Subtype)) (place : Place) (x : Expr) (e : Expr-F Attribute Expr) → out-Expr x ≡ e → (n m : Notes)
      → Follows G n m (generic_actual v.texts c o place x e n).0 (generic_actual w.texts i p place x e m).0
  generic_follows o p place x (Expr-F.Name y) is n m =
      object_follows o p place x y (lookup c y.number) (lookup i y.number) n m is refl (λ there. (premise.alike there).seen y.number)
      (has_no_value (lookup c y.number)) (has_no_value (lookup i y.number)) refl
  generic_follows o p place x _ is n m = value_follows o p place x n m

  -- ---- ports

  module _ (start : Scope) (outside : IsOutside start) where
    nature_zero : (formal : Option (Option Name)) (k : ℕ) → nature_outside start formal ≡ Some (thing.Nature k) → k ≡ 0
    nature_zero (Some (Some m)) k h = outside m.number k h
    nature_zero (Some None) k h = no_such _ h
    nature_zero None k h = no_such _ h

    compared_back : (place : Place) (o : Option Thing) (t : Thing) (n : Notes) → HasNoFaults (compared place o t n) → HasNoFaults n
    compared_back place (Some (thing.Nature k)) (thing.Terminal end l) n h = go (nat_eq k l) h
      where
        go : (b : Bool) → HasNoFaults (if b then n else noted place NatureMismatch n) → HasNoFaults n
        go true h = h
        go false h = none_noted (HasNoFaults n) place NatureMismatch n h
    compared_back place _ t n h = h

    ended : (place : Place) (k l : ℕ) (a : Thing) (n : Notes) → k ≡ 0 → at_instance natures 0 ≡ 0 → SameNature natures (terminal_nature a) (Some l)
        → HasNoFaults (compared place (Some (thing.Nature k)) a n) → nat_eq k l ≡ true
    ended place k l (thing.Terminal end m) n none first like h = go (nat_eq k m) refl h
      where
        go : (b : Bool) → nat_eq k m ≡ b → HasNoFaults (if b then n else noted place NatureMismatch n) → nat_eq k l ≡ true
        go true is h =
            let m_none : m ≡ 0 = sym (equal k m is) ∙ none in
            let l_none : l ≡ 0 = like ∙ (ap (at_instance natures) m_none ∙ first) in
            subst (λ (z : ℕ). nat_eq z l ≡ true) (sym none) (subst (λ (z : ℕ). nat_eq 0 z ≡ true) (sym l_none) refl)
        go false is h = none_noted (nat_eq k l ≡ true) place NatureMismatch n h
    ended place k l _ n none first like h = absurd like

    compared_told : (place : Place) (o : Option Thing) (b a : Thing) (n m : Notes) → ((k : ℕ) → o ≡ Some (thing.Nature k) → k ≡ 0) → at_instance natures 0 ≡ 0 → AlikeThing natures a b
        → HasNoFaults (compared place o a n) → OnlyTold m → OnlyTold (compared place o b m)
    compared_told place (Some (thing.Nature k)) (thing.Terminal end l) a n m none first like h g =
        subst (λ (b : Bool). OnlyTold (if b then m else noted place NatureMismatch m)) (sym (ended place k l a n (none k refl) first like.terminal h)) g
    compared_told place _ b a n m none first like h g = g

    compared_faulty : (place : Place) (o : Option Thing) (n : Notes) → compared place o thing.Faulty n ≡ n
    compared_faulty place None n = refl
    compared_faulty place (Some (thing.Nature k)) n = refl
    compared_faulty place (Some _) n = refl

    object_is : (formal : Option (Option Name)) (y : Name) (t : Thing) (n : Notes)
        → (object_actual start formal y (found_thing y (Some t) n).1 (found_thing y (Some t) n).0).0 ≡ compared y.place (nature_outside start formal) t n
    object_is formal y thing.Faulty n = sym (compared_faulty y.place (nature_outside start formal) n)
    object_is formal y _ n = refl

    named_follows : (formal : Option (Option Name)) (y : Name) (o p : Option Thing) (n m : Notes) → (G → AlikeFound natures o p)
        → Follows G n m (object_actual start formal y (found_thing y o n).1 (found_thing y o n).0).0 (object_actual start formal y (found_thing y p m).1 (found_thing y p m).0).0
    named_follows formal y None p n m like = noted_follows G y.place (Unknown y.number) n m (object_actual start formal y (found_thing y p m).1 (found_thing y p m).0).0
    named_follows formal y (Some a) None n m like =
        record { back = λ h. compared_back y.place (nature_outside start formal) a n (subst HasNoFaults (object_is formal y a n) h); told = λ there h k. absurd (like there) }
    named_follows formal y (Some a) (Some b) n m like =
        record {
          back = λ h. compared_back y.place (nature_outside start formal) a n (subst HasNoFaults (object_is formal y a n) h);
          told = λ there h k.
              subst OnlyTold (sym (object_is formal y b m))
              (compared_told y.place (nature_outside start formal) b a n m (nature_zero formal) (premise.alike there).outside (like there) (subst HasNoFaults (object_is formal y a n) h) k);
        }

    port_follows : (formal : Option (Option Name)) (x : Expr) (e : Expr-F Attribute Expr) (n m : Notes)
        → Follows G n m (port_actual v.texts start c formal x e n).0 (port_actual w.texts start i formal x e m).0
    port_follows formal x (Expr-F.Name y) n m = named_follows formal y (lookup c y.number) (lookup i y.number) n m (λ there. (premise.alike there).seen y.number)
    port_follows formal x _ n m = typed_follows G natures v w c i premise running x n m

    abbrev for_port : List (List ℕ) → Scope → Rule (Option Name)
    for_port texts scope formal place x = port_actual texts start scope formal x (out-Expr x)

    pub all_ports_follow : (formals : List (ℕ × Option Name)) (j : ℕ) (all : List Association) (n m : Notes)
        → Follows G n m (associations (for_port v.texts c) formals j all n).0 (associations (for_port w.texts i) formals j all m).0
    all_ports_follow formals j all n m = ports_follow G (Option Name) (for_port v.texts c) (for_port w.texts i) (λ o place x. port_follows o x (out-Expr x)) formals j all n m

    pub maps_follow : (units : List DesignUnit) (x : Instance) (n m : Notes) → Follows G n m (instance_maps v.texts start units c x n).0 (instance_maps w.texts start units i x m).0
    maps_follow units x n m =
        let e = entity_in units x.entity.number in
        let a = associations (for_generic v.texts c) (generic_formals v.texts start e) 0 (list_or x.generics) n in
        let b = associations (for_generic w.texts i) (generic_formals w.texts start e) 0 (list_or x.generics) m in
        on_follows G n m a.0 b.0 (associations (for_port v.texts c) (port_formals e) 0 (list_or x.ports) a.0).0 (associations (for_port w.texts i) (port_formals e) 0 (list_or x.ports) b.0).0
        (associations_follow G (Option Subtype) (for_generic v.texts c) (for_generic w.texts i) (λ o p place y. generic_follows o p place y (out-Expr y) refl)
        (generic_formals v.texts start e) (generic_formals w.texts start e) 0 (list_or x.generics) n m)
        (all_ports_follow (port_formals e) 0 (list_or x.ports) a.0 b.0)
