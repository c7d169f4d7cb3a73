-- Terminals that are actuals of ports have the nature of their formals.
use Rattle.std.proofs.Common.{◌≡◌, ◌+◌, ℕ, zero, suc, arith, Bool, true, false, cond, if◌then◌else◌, List, [], ◌∷◌, ◌++◌, length, map, Option, Some, None, refl, sym, ap, subst, ◌∙◌}
use Rattle.std.specs.Prelude.{nat_eq, nat_lt, not, ◌&&◌, position}
use Rattle.std.specs.List.{slice_get, flat_map, position_or_len}
use Rattle.std.specs.Map.{lookup as entry_of}
use Rattle.ams_tree.specs.declared.expression.Name.{Name}
use Rattle.ams_tree.specs.declared.expression.Attribute.{Attribute}
use Rattle.ams_tree.specs.declared.expression.Attribute.TheOpen.{Expr-F}
use Rattle.ams_tree.specs.declared.expression.Expr.{Expr, out-Expr}
use Rattle.ams_tree.specs.declared.concurrent.Association.{Association}
use Rattle.ams_tree.specs.declared.concurrent.Association.TheVariants as association
use Rattle.ams_tree.specs.declared.concurrent.Instance.{Instance}
use Rattle.ams_tree.specs.declared.declaration.Port.{Port}
use Rattle.ams_tree.specs.declared.declaration.Port.TheVariants as port
use Rattle.ams_tree.specs.declared.design.DesignUnit.{DesignUnit}
use Rattle.ams_tree.specs.declared.design.Entity.{Entity}
use Rattle.name_scope.specs.declared.thing.Thing.{Thing}
use Rattle.name_scope.specs.declared.thing.Thing.TheVariants as thing
use Rattle.name_scope.specs.declared.scope.Scope.{Scope}
use Rattle.name_scope.specs.Scopes.{lookup}
use Rattle.elab_meaning.specs.declared.fault.Cause.TheVariants.{NatureMismatch}
use Rattle.elab_meaning.specs.declared.fault.Notes.{Notes}
use Rattle.elab_meaning.specs.declared.typed.Typed.{Typed}
use Rattle.elab_meaning.specs.Notes.{noted}
use Rattle.elab_meaning.specs.Parts.{found_thing}
use Rattle.unit_meaning.specs.declared.request.Actual.{Actual}
use Rattle.unit_meaning.specs.declared.request.Actual.TheVariants as actual
use Rattle.unit_meaning.specs.declared.request.Assigned.{Assigned}
use Rattle.unit_meaning.specs.Settings.{Setting}
use Rattle.unit_meaning.specs.Cases.{place_of}
use Rattle.unit_meaning.specs.Associations.{entity_in, formal_at, port_natures, port_formals, nature_outside, compared, object_actual, other_actual, port_actual, number_of, association_place, assigned, associations, list_or, generic_formals, instance_maps}
use Rattle.unit_meaning.specs.Walk.{formal_place, is_taken, with_match, matched_from, matched, closed_actual, actual_at, numbers, port_names, port_numbers}
use Rattle.alike_laws.specs.Alike.{HasNoFaults, ReadingsFollow}
use Rattle.alike_parts.specs.Follows.{BothRead}
use Rattle.alike_parts.proofs.Follows.{none_noted}
use Rattle.alike_maps.specs.Maps.{IsOutside, is_electrical, some_electrical, names_fit, ports_fit, given_fits, NaturesStand}
use Rattle.alike_maps.proofs.Maps.{Rule, for_generic, all_ports_follow, equal}

abbrev IsElectrical : Actual → Type 0
IsElectrical a = is_electrical a ≡ true

-- ---- formals by their places

same_some : {A : Type 0} (a b : A) → Some a ≡ Some b → a ≡ b
same_some a b h = cc

none_some : (X : Type 0) {A : Type 0} (a : A) → None ≡ Some a → X
none_some X a h = cc

position_is : (x : ℕ) (names : List ℕ) (i : ℕ) → position (nat_eq x) names ≡ Some i → i ≡ position_or_len (nat_eq x) names
position_is x names i h = go (nat_lt (position_or_len (nat_eq x) names) (length names)) h
  where
    go : (b : Bool) → cond b (Some (position_or_len (nat_eq x) names)) None ≡ Some i → i ≡ position_or_len (nat_eq x) names
    go true h = sym (same_some (position_or_len (nat_eq x) names) i h)
    go false h = none_some _ i h

place_is : (names : List ℕ) (j i : ℕ) → formal_place names j None ≡ Some i → i ≡ j
place_is names j i h = go (nat_lt j (length names)) h
  where
    go : (b : Bool) → (if b then Some j else None) ≡ Some i → i ≡ j
    go true h = sym (same_some j i h)
    go false h = none_some _ i h

module _ {A : Type 0} where
  abbrev names_of : List (ℕ × A) → List ℕ
  names_of all = map (λ (e : ℕ × A). e.0) all

  by_place : (all : List (ℕ × A)) (j : ℕ) (e : ℕ × A) → slice_get all j ≡ Some e → formal_at all j None ≡ Some e.1
  by_place [] j e h = none_some _ e h
  by_place (f ∷ more) zero e h = ap (λ (z : ℕ × A). Some z.1) (same_some f e h)
  by_place (f ∷ more) (suc j) e h = by_place more j e h

  found_at : (x : ℕ) (all : List (ℕ × A)) (e : ℕ × A) → slice_get all (position_or_len (nat_eq x) (names_of all)) ≡ Some e → entry_of (nat_eq x) all ≡ Some e.1
  found_at x [] e h = none_some _ e h
  found_at x (f ∷ more) e h = go (nat_eq x f.0) h (found_at x more e)
    where
      next : (k : ℕ) → 1 + k ≡ suc k
      next k = omega arith

      go : (b : Bool) → slice_get (f ∷ more) (cond (not b) (1 + position_or_len (nat_eq x) (names_of more)) 0) ≡ Some e
          → (slice_get more (position_or_len (nat_eq x) (names_of more)) ≡ Some e → entry_of (nat_eq x) more ≡ Some e.1) → cond b (Some f.1) (entry_of (nat_eq x) more) ≡ Some e.1
      go true h rest = ap (λ (z : ℕ × A). Some z.1) (same_some f e h)
      go false h rest = rest (subst (λ (k : ℕ). slice_get (f ∷ more) k ≡ Some e) (next (position_or_len (nat_eq x) (names_of more))) h)

  -- the formal that an association is for is the one of its place
  formal_is : (all : List (ℕ × A)) (j : ℕ) (formal : Option Name) (i : ℕ) (e : ℕ × A) → formal_place (names_of all) j (number_of formal) ≡ Some i → slice_get all i ≡ Some e
      → formal_at all j formal ≡ Some e.1
  formal_is all j None i e h there = by_place all j e (subst (λ (k : ℕ). slice_get all k ≡ Some e) (place_is (names_of all) j i h) there)
  formal_is all j (Some x) i e h there = found_at x.number all e (subst (λ (k : ℕ). slice_get all k ≡ Some e) (position_is x.number (names_of all) i h) there)

-- ---- the formals of ports

map_append : {A B : Type 0} (f : A → B) (xs ys : List A) → map f (xs ++ ys) ≡ map f xs ++ map f ys
map_append f [] ys = refl
map_append f (x ∷ xs) ys = ap (λ (l : List _). f x ∷ l) (map_append f xs ys)

map_map : (g : Name → Option Name) (names : List Name) → map (λ (e : ℕ × Option Name). e.0) (map (λ (x : Name). (x.number, g x)) names) ≡ numbers names
map_map g [] = refl
map_map g (x ∷ names) = ap (λ (l : List ℕ). x.number ∷ l) (map_map g names)

one_port : (p : Port) → names_of (port_natures p) ≡ numbers (port_names p)
one_port (port.Signal place names mode i x) = map_map (λ y. None) names
one_port (port.Terminal place names m) = map_map (λ y. Some m) names
one_port (port.Quantity place names mode i) = map_map (λ y. None) names

pub port_places : (ports : List Port) → names_of (flat_map port_natures ports) ≡ port_numbers ports
port_places [] = refl
port_places (p ∷ more) =
    map_append (λ (e : ℕ × Option Name). e.0) (port_natures p) (flat_map port_natures more)
    ∙ (ap (λ (l : List ℕ). l ++ names_of (flat_map port_natures more)) (one_port p) ∙ ap (λ (l : List ℕ). numbers (port_names p) ++ l) (port_places more))

-- ---- associations with their formals

module _ (P : ℕ → Assigned → Type 0) where
  abbrev Each : List (ℕ × Assigned) → Type 0
  Each [] = Unit {0}
  Each (e ∷ more) = P e.0 e.1 × Each more

  each_more : (all : List (ℕ × Assigned)) (i : ℕ) (a : Assigned) → Each all → P i a → Each (all ++ (i, a) ∷ [])
  each_more [] i a h k = (k, tt)
  each_more (e ∷ all) i a h k = (h.0, each_more all i a h.1 k)

  each_at : (all : List (ℕ × Assigned)) (i : ℕ) (a : Assigned) → Each all → entry_of (nat_eq i) all ≡ Some a → P i a
  each_at [] i a h is = none_some _ a is
  each_at (e ∷ all) i a h is = go (nat_eq i e.0) refl is (λ k. each_at all i a h.1 k)
    where
      go : (b : Bool) → nat_eq i e.0 ≡ b → cond b (Some e.1) (entry_of (nat_eq i) all) ≡ Some a → (entry_of (nat_eq i) all ≡ Some a → P i a) → P i a
      go true same is rest = subst (λ (k : ℕ). P k a) (sym (equal i e.0 same)) (subst (λ (z : Assigned). P e.0 z) (same_some e.1 a is) h.0)
      go false other is rest = rest is

  -- an association beside those so far
  match_step : (rest : List (ℕ × Assigned) → Option (List (ℕ × Assigned))) (so_far given : List (ℕ × Assigned)) (a : Assigned) (o : Option ℕ)
      → with_match rest so_far a o ≡ Some given → (i : ℕ) × (o ≡ Some i) × (rest (so_far ++ (i, a) ∷ []) ≡ Some given)
  match_step rest so_far given a None h = none_some _ given h
  match_step rest so_far given a (Some i) h = go (is_taken i so_far) h
    where
      go : (b : Bool) → (if b then None else rest (so_far ++ (i, a) ∷ [])) ≡ Some given → (k : ℕ) × (Some i ≡ Some k) × (rest (so_far ++ (k, a) ∷ []) ≡ Some given)
      go true h = none_some _ given h
      go false h = (i, refl, h)

-- what is known of the association of the formal at this place
abbrev Fits : Scope → List (ℕ × Option Name) → ℕ → Assigned → Type 0
Fits start formals i a = (number k : ℕ) (m : Name) → slice_get formals i ≡ Some (number, Some m) → lookup start m.number ≡ Some (thing.Nature k) → k ≡ 0 → IsElectrical a.actual

module _ (texts : List (List ℕ)) (start scope : Scope) where
  abbrev port_rule : Rule (Option Name)
  port_rule formal place x = port_actual texts start scope formal x (out-Expr x)

  other_electrical : (o : Option Typed) → IsElectrical (other_actual o)
  other_electrical None = refl
  other_electrical (Some x) = refl

  terminal_electrical : (y : Name) (t : Thing) (k : ℕ) (n m : Notes) → k ≡ 0
      → HasNoFaults (compared y.place (Some (thing.Nature k)) t n) → IsElectrical (actual.Object y.number t)
  terminal_electrical y (thing.Terminal end l) k n m none h = go (nat_eq k l) refl h
    where
      go : (b : Bool) → nat_eq k l ≡ b → HasNoFaults (if b then n else noted y.place NatureMismatch n) → nat_eq l 0 ≡ true
      go true is h = subst (λ (z : ℕ). nat_eq z 0 ≡ true) (sym (sym (equal k l is) ∙ none)) refl
      go false is h = none_noted (nat_eq l 0 ≡ true) y.place NatureMismatch n h
  terminal_electrical y _ k n m none h = refl

  thing_electrical : (formal : Option (Option Name)) (y : Name) (o : Option Thing) (k : ℕ) (n m : Notes) → nature_outside start formal ≡ Some (thing.Nature k) → k ≡ 0
      → HasNoFaults (object_actual start formal y (found_thing y o n).1 (found_thing y o n).0).0 → IsElectrical (object_actual start formal y (found_thing y o m).1 (found_thing y o m).0).1
  thing_electrical formal y None k n m is none h = refl
  thing_electrical formal y (Some thing.Faulty) k n m is none h = refl
  thing_electrical formal y (Some (thing.Terminal end l)) k n m is none h =
      terminal_electrical y (thing.Terminal end l) k n m none (subst (λ (o : Option Thing). HasNoFaults (compared y.place o (thing.Terminal end l) n)) is h)
  thing_electrical formal y (Some _) k n m is none h = refl

  actual_electrical : (formal : Option (Option Name)) (x : Expr) (e : Expr-F Attribute Expr) (k : ℕ) (n m : Notes) → nature_outside start formal ≡ Some (thing.Nature k) → k ≡ 0
      → HasNoFaults (port_actual texts start scope formal x e n).0 → IsElectrical (port_actual texts start scope formal x e m).1
  actual_electrical formal x (Expr-F.Name y) k n m is none h = thing_electrical formal y (lookup scope y.number) k n m is none h
  actual_electrical formal x _ k n m is none h = other_electrical _

  module _ (formals : List (ℕ × Option Name)) where
    module _ (back : (all : List Association) (j : ℕ) (n : Notes) → HasNoFaults (associations port_rule formals j all n).0 → HasNoFaults n) where
      matched_fits : (all : List Association) (j : ℕ) (n m : Notes) (so_far given : List (ℕ × Assigned)) → HasNoFaults (associations port_rule formals j all n).0
          → matched_from (names_of formals) j (associations port_rule formals j all m).1 so_far ≡ Some given → Each (Fits start formals) so_far → Each (Fits start formals) given
      matched_fits [] j n m so_far given clean is h = subst (Each (Fits start formals)) (same_some so_far given is) h
      matched_fits (association.Open formal place ∷ more) j n m so_far given clean is h =
          let a = assigned (association_place formal place) formal actual.Open in
          let rest = matched_from (names_of formals) (j + 1) (associations port_rule formals (j + 1) more m).1 in
          let s = match_step (Fits start formals) rest so_far given a (formal_place (names_of formals) j (number_of formal)) is in
          matched_fits more (j + 1) n m (so_far ++ (s.0, a) ∷ []) given clean s.2 (each_more (Fits start formals) so_far s.0 a h (λ number k y there seen none. refl))
      matched_fits (association.Actual formal x ∷ more) j n m so_far given clean is h =
          let place = association_place formal (place_of x) in
          let f = port_rule (formal_at formals j formal) place x n in
          let g = port_rule (formal_at formals j formal) place x m in
          let a = assigned place formal g.1 in
          let rest = matched_from (names_of formals) (j + 1) (associations port_rule formals (j + 1) more g.0).1 in
          let s = match_step (Fits start formals) rest so_far given a (formal_place (names_of formals) j (number_of formal)) is in
          matched_fits more (j + 1) f.0 g.0 (so_far ++ (s.0, a) ∷ []) given clean s.2
          (each_more (Fits start formals) so_far s.0 a h
          (λ number k y there seen none.
          let formal_here : formal_at formals j formal ≡ Some (Some y) = formal_is formals j formal s.0 (number, Some y) s.1 there in
          let nature_here : nature_outside start (formal_at formals j formal) ≡ Some (thing.Nature k) = ap (nature_outside start) formal_here ∙ seen in
          actual_electrical (formal_at formals j formal) x (out-Expr x) k n m nature_here none (back more (j + 1) f.0 clean)))

closed_fits : (o : Option Assigned) → ((a : Assigned) → o ≡ Some a → IsElectrical a.actual) → some_electrical (closed_actual o) ≡ true
closed_fits None h = refl
closed_fits (Some a) h = go a.actual refl (h a refl)
  where
    go : (x : Actual) → a.actual ≡ x → IsElectrical a.actual
        → some_electrical (elim x as (λ y. Option Assigned) [ actual.Open ↦ None | actual.Object y t ↦ Some a | actual.Value k v ↦ Some a ]) ≡ true
    go actual.Open is k = refl
    go (actual.Object y t) is k = k
    go (actual.Value u v) is k = k

-- ---- a list from a place on

module _ {A : Type 0} (all : List A) where
  abbrev At : ℕ → List A → Type 0
  At i rest = (k : ℕ) → slice_get all (i + k) ≡ slice_get rest k

  at_first : (i : ℕ) (e : A) (rest : List A) → At i (e ∷ rest) → slice_get all i ≡ Some e
  at_first i e rest h = subst (λ (k : ℕ). slice_get all k ≡ Some e) same (h 0)
    where
      same : i + 0 ≡ i
      same = omega arith

  at_next : (i : ℕ) (e : A) (rest : List A) → At i (e ∷ rest) → At (i + 1) rest
  at_next i e rest h k = subst (λ (z : ℕ). slice_get all z ≡ slice_get rest k) same (h (suc k))
    where
      same : i + suc k ≡ i + 1 + k
      same = omega arith

  at_behind : {B : Type 0} (f : B → A) (ys : List B) (rest : List A) (i : ℕ) → At i (map f ys ++ rest) → At (i + length ys) rest
  at_behind f [] rest i h = subst (λ (z : ℕ). At z rest) same h
    where
      same : i ≡ i + 0
      same = omega arith
  at_behind f (y ∷ ys) rest i h = subst (λ (z : ℕ). At z rest) same (at_behind f ys rest (i + 1) (at_next i (f y) (map f ys ++ rest) h))
    where
      same : i + 1 + length ys ≡ i + length (y ∷ ys)
      same = omega arith

both_true : (a b : Bool) → a ≡ true → b ≡ true → (a && b) ≡ true
both_true true b h k = k
both_true false b h k = absurd (cc)

module _ (start : Scope) (formals : List (ℕ × Option Name)) (given : List (ℕ × Assigned)) (fits : Each (Fits start formals) given) where
  name_fits : (i number : ℕ) (m : Name) → slice_get formals i ≡ Some (number, Some m) → lookup start m.number ≡ Some (thing.Nature 0) → some_electrical (actual_at given i) ≡ true
  name_fits i number m there stands =
      closed_fits (entry_of (nat_eq i) given) (λ a is. each_at (Fits start formals) given i a fits is number 0 m there stands refl)

  all_names_fit : (m : Name) (names : List Name) (rest : List (ℕ × Option Name)) (i : ℕ) → At formals i (map (λ (x : Name). (x.number, Some m)) names ++ rest)
      → lookup start m.number ≡ Some (thing.Nature 0) → names_fit given i names ≡ true
  all_names_fit m [] rest i h stands = refl
  all_names_fit m (x ∷ names) rest i h stands =
      let behind : List (ℕ × Option Name) = map (λ (x : Name). (x.number, Some m)) names ++ rest in
      both_true (some_electrical (actual_at given i)) (names_fit given (i + 1) names) (name_fits i x.number m (at_first formals i (x.number, Some m) behind h) stands)
      (all_names_fit m names rest (i + 1) (at_next formals i (x.number, Some m) behind h) stands)

  all_ports_fit : (ports : List Port) (i : ℕ) → At formals i (flat_map port_natures ports) → NaturesStand start ports → ports_fit given i ports ≡ true
  all_ports_fit [] i h stand = refl
  all_ports_fit (port.Signal place names mode t x ∷ more) i h stand =
      all_ports_fit more (i + length names) (at_behind formals (λ (x : Name). (x.number, None)) names (flat_map port_natures more) i h) stand
  all_ports_fit (port.Quantity place names mode t ∷ more) i h stand =
      all_ports_fit more (i + length names) (at_behind formals (λ (x : Name). (x.number, None)) names (flat_map port_natures more) i h) stand
  all_ports_fit (port.Terminal place names m ∷ more) i h stand =
      both_true (names_fit given i names) (ports_fit given (i + length names) more) (all_names_fit m names (flat_map port_natures more) i h stand.0)
      (all_ports_fit more (i + length names) (at_behind formals (λ (x : Name). (x.number, Some m)) names (flat_map port_natures more) i h) stand.1)

-- ---- the whole

given_fit : (o : Option (List (ℕ × Assigned))) (ports : List Port) → ((given : List (ℕ × Assigned)) → o ≡ Some given → ports_fit given 0 ports ≡ true) → given_fits o ports ≡ true
given_fit (Some given) ports h = h given refl
given_fit None ports h = refl

module _ (readings : ReadingsFollow) (texts : List (List ℕ)) (start scope : Scope) (outside : IsOutside start) where
  abbrev setting : Setting
  setting = record { texts = texts; enumerations = []; selectors = [] }

  abbrev premise : BothRead ⊥ [] setting setting scope scope
  premise = record { reads = readings.expressions; statics = readings.statics; texts = refl; alike = λ never. absurd never }

  associations_back : (formals : List (ℕ × Option Name)) (all : List Association) (j : ℕ) (n : Notes) → HasNoFaults (associations (port_rule texts start scope) formals j all n).0 → HasNoFaults n
  associations_back formals all j n h = (all_ports_follow ⊥ [] setting setting scope scope premise start outside formals j all n n).back h

  formals_fit : (e : Entity) (all : List Association) (n m : Notes) → NaturesStand start e.ports → HasNoFaults (associations (port_rule texts start scope) (port_formals (Some e)) 0 all n).0
      → given_fits (matched (port_numbers e.ports) (associations (port_rule texts start scope) (port_formals (Some e)) 0 all m).1) e.ports ≡ true
  formals_fit e all n m stand clean =
      let formals = port_formals (Some e) in
      let list = (associations (port_rule texts start scope) formals 0 all m).1 in
      given_fit (matched (port_numbers e.ports) list) e.ports
      (λ given is.
      all_ports_fit start formals given
      (matched_fits texts start scope formals (associations_back formals) all 0 n m [] given clean (subst (λ (names : List ℕ). matched names list ≡ Some given) (sym (port_places e.ports)) is) tt)
      e.ports 0 (λ k. subst (λ (z : ℕ). slice_get formals z ≡ slice_get formals k) (same k) refl) stand)
    where
      same : (k : ℕ) → k ≡ 0 + k
      same k = omega arith

  pub actuals_are : (units : List DesignUnit) (x : Instance) (e : Entity) (n m : Notes) → entity_in units x.entity.number ≡ Some e → NaturesStand start e.ports
      → HasNoFaults (instance_maps texts start units scope x n).0 → given_fits (matched (port_numbers e.ports) (instance_maps texts start units scope x m).1.1) e.ports ≡ true
  actuals_are units x e n m is stand clean =
      let f = entity_in units x.entity.number in
      let a = associations (for_generic texts scope) (generic_formals texts start f) 0 (list_or x.generics) n in
      let b = associations (for_generic texts scope) (generic_formals texts start f) 0 (list_or x.generics) m in
      subst (λ (o : Option Entity). given_fits (matched (port_numbers e.ports) (associations (port_rule texts start scope) (port_formals o) 0 (list_or x.ports) b.0).1) e.ports ≡ true) (sym is)
      (formals_fit e (list_or x.ports) a.0 b.0 stand (subst (λ (o : Option Entity). HasNoFaults (associations (port_rule texts start scope) (port_formals o) 0 (list_or x.ports) a.0).0) is clean))
