-- Each unit of a file without faults has none.
use Rattle.std.proofs.Common.{◌≡◌, ◌<◌, ℕ, arith, length, Bool, true, false, if◌then◌else◌, List, [], ◌∷◌, ◌++◌, append_assoc, Option, Some, None, refl, sym, subst, ◌∙◌}
use Rattle.std.specs.Prelude.{nat_eq, ◌&&◌}
use Rattle.std.specs.List.{list_any, list_all}
use Rattle.std.proofs.lemmas.Bool.Decides.{nat_tests}
use Rattle.ams_tree.specs.declared.expression.Name.{Name}
use Rattle.ams_tree.specs.declared.design.Architecture.{Architecture}
use Rattle.ams_tree.specs.declared.design.DesignUnit.{DesignUnit}
use Rattle.ams_tree.specs.declared.design.DesignUnit.TheVariants as unit
use Rattle.ams_tree.specs.declared.design.Entity.{Entity}
use Rattle.elab_meaning.specs.declared.book.Book.{Book}
use Rattle.elab_meaning.specs.declared.fault.Cause.TheVariants.{Unknown, WrongType, Duplicate}
use Rattle.elab_meaning.specs.declared.fault.Fault.{Fault}
use Rattle.elab_meaning.specs.declared.fault.Notes.{Notes}
use Rattle.elab_meaning.specs.Notes.{noted}
use Rattle.unit_meaning.specs.Interfaces.{interface}
use Rattle.unit_meaning.specs.Associations.{entity_in, architecture_in, is_asked, or_this}
use Rattle.unit_meaning.specs.Units.{start_of, end_name, is_entity, is_architecture, repeated, in_region, entity_checked, setting_of, judged_body, opened, body_checked, of_entity, architecture_checked, unit_checked, units_checked, first_book, file_faults}
use Rattle.alike_laws.specs.Alike.{HasNoFaults, is_told, OnlyTold, ReadingsFollow}
use Rattle.alike_books.specs.Books.{AlikeBooks, AlikeBehind, PartsFollow, DeclarationsFollow}
use Rattle.alike_parts.specs.Follows.{BothRead}
use Rattle.alike_parts.proofs.Follows.{none_noted}
use Rattle.alike_maps.specs.Maps.{IsOutside}
use Rattle.alike_units.specs.Units.{EntityIsClean, ArchitectureIsClean, UnitsAreClean}
use Rattle.alike_units.proofs.Before.{interface_before, interface_same}
use Rattle.alike_units.proofs.Interfaces.{zeros, zeros_length, entity_natures, entity_alike}
use Rattle.alike_units.proofs.Statements.{each_list_follows}

-- ---- units

end_before : (name : Name) (end : Option Name) (n : Notes) → HasNoFaults (end_name name end n) → HasNoFaults n
end_before name None n h = h
end_before name (Some x) n h = go (nat_eq name.number x.number) h
  where
    go : (b : Bool) → HasNoFaults (if b then n else noted x.place WrongType n) → HasNoFaults n
    go true h = h
    go false h = none_noted (HasNoFaults n) x.place WrongType n h

repeated_before : (name : Name) (there : Bool) (n : Notes) → HasNoFaults (repeated name there n) → HasNoFaults n
repeated_before name true n h = none_noted (HasNoFaults n) name.place (Duplicate name.number) n h
repeated_before name false n h = h

module _ (readings : ReadingsFollow) (parts : PartsFollow) (declarations_follow : DeclarationsFollow) (texts : List (List ℕ)) (units : List DesignUnit) (outside : IsOutside (start_of texts)) where
  pub body_before : (a : Architecture) (b : Book) → HasNoFaults (judged_body texts units a b) → HasNoFaults b.notes
  body_before a b h =
      let w = setting_of texts b a in
      let premise : BothRead ⊥ [] w w b.scope b.scope = record { reads = readings.expressions; statics = readings.statics; texts = refl; alike = λ never. absurd never } in
      (each_list_follows ⊥ [] w w b.scope b.scope premise parts (start_of texts) outside units a.statements b.notes b.notes).back h

  checked_before : (a : Architecture) (b : Book) → HasNoFaults (body_checked texts units a b).notes → HasNoFaults b.notes
  checked_before a b h = (declarations_follow.body texts a b b).before (body_before a (opened texts a b) h)

  entity_before : (before : List DesignUnit) (e : Entity) (b : Book) → HasNoFaults (entity_checked texts before e b).notes → HasNoFaults b.notes
  entity_before before e b h =
      let there = list_any (is_entity e.name.number) before in
      let start = in_region (start_of texts) (end_name e.name e.end (repeated e.name there b.notes)) b in
      repeated_before e.name there b.notes (end_before e.name e.end (repeated e.name there b.notes) (interface_before texts e start h))

  abbrev begun : List DesignUnit → Architecture → Book → Book
  begun before a b =
      in_region (start_of texts) (end_name a.name a.end (repeated a.name (list_any (is_architecture a.entity.number a.name.number) before) b.notes)) b

  begun_before : (before : List DesignUnit) (a : Architecture) (b : Book) → HasNoFaults (begun before a b).notes → HasNoFaults b.notes
  begun_before before a b h =
      let there = list_any (is_architecture a.entity.number a.name.number) before in
      repeated_before a.name there b.notes (end_before a.name a.end (repeated a.name there b.notes) h)

  of_before : (a : Architecture) (o : Option Entity) (b : Book) → HasNoFaults (of_entity texts units a o b).notes → HasNoFaults b.notes
  of_before a None b h = none_noted (HasNoFaults b.notes) a.entity.place (Unknown a.entity.number) b.notes h
  of_before a (Some e) b h = interface_before texts e b (checked_before a (interface texts e b) h)

  architecture_before : (before : List DesignUnit) (a : Architecture) (b : Book) → HasNoFaults (architecture_checked texts units before a b).notes → HasNoFaults b.notes
  architecture_before before a b h = begun_before before a b (of_before a (entity_in before a.entity.number) (begun before a b) h)

  unit_before : (before : List DesignUnit) (u : DesignUnit) (b : Book) → HasNoFaults (unit_checked texts units before u b).notes → HasNoFaults b.notes
  unit_before before (unit.Entity e) b h = entity_before before e b h
  unit_before before (unit.Architecture a) b h = architecture_before before a b h
  unit_before before (unit.Library x) b h = h
  unit_before before (unit.Use x) b h = h

  units_before : (before more : List DesignUnit) (b : Book) → HasNoFaults (units_checked texts units before more b).notes → HasNoFaults b.notes
  units_before before [] b h = h
  units_before before (u ∷ more) b h = unit_before before u b (units_before (before ++ u ∷ []) more (unit_checked texts units before u b) h)

  -- ---- natures are some

  only_told : (n : Notes) → HasNoFaults n → OnlyTold n
  only_told n clean = subst (λ (l : List Fault). list_all is_told l ≡ true) (sym clean) refl

  body_some : (a : Architecture) (e : Entity) (b : Book) → b.scope ≡ start_of texts → 0 < b.natures → HasNoFaults (body_checked texts units a (interface texts e b)).notes
      → 0 < (body_checked texts units a (interface texts e b)).natures
  body_some a e b is some clean =
      let c = interface texts e b in
      let open_clean : HasNoFaults (opened texts a c).notes = body_before a (opened texts a c) clean in
      let inner : HasNoFaults c.notes = (declarations_follow.body texts a c c).before open_clean in
      let count : length (zeros b.natures) ≡ c.natures = zeros_length b.natures ∙ sym (interface_same texts e b) in
      let books : AlikeBooks (zeros b.natures) c c =
      record {
        scopes = entity_alike texts b.natures some parts e b is inner;
        count = count;
        some = subst (λ (k : ℕ). 0 < k) (sym (zeros_length b.natures)) some;
        told = only_told c.notes inner;
      } in
      let behind : AlikeBehind (zeros b.natures) (opened texts a c) (opened texts a c) = (declarations_follow.body texts a c c).alike (zeros b.natures) open_clean books in
      subst (λ (k : ℕ). 0 < k) behind.books.count behind.books.some

  of_some : (a : Architecture) (o : Option Entity) (b : Book) → b.scope ≡ start_of texts → 0 < b.natures → HasNoFaults (of_entity texts units a o b).notes → 0 < (of_entity texts units a o b).natures
  of_some a None b is some clean = some
  of_some a (Some e) b is some clean = body_some a e b is some clean

  unit_some : (before : List DesignUnit) (u : DesignUnit) (b : Book) → 0 < b.natures → HasNoFaults (unit_checked texts units before u b).notes → 0 < (unit_checked texts units before u b).natures
  unit_some before (unit.Entity e) b some clean =
      subst (λ (k : ℕ). 0 < k)
      (sym (interface_same texts e (in_region (start_of texts) (end_name e.name e.end (repeated e.name (list_any (is_entity e.name.number) before) b.notes)) b))) some
  unit_some before (unit.Architecture a) b some clean = of_some a (entity_in before a.entity.number) (begun before a b) refl some clean
  unit_some before (unit.Library x) b some clean = some
  unit_some before (unit.Use x) b some clean = some

  next_some : (before more : List DesignUnit) (u : DesignUnit) (b : Book) → 0 < b.natures → HasNoFaults (units_checked texts units (before ++ u ∷ []) more (unit_checked texts units before u b)).notes
      → 0 < (unit_checked texts units before u b).natures
  next_some before more u b some clean = unit_some before u b some (units_before (before ++ u ∷ []) more (unit_checked texts units before u b) clean)

  -- ---- a unit by its name

  none_there : (X : Type 0) {A : Type 0} {a : A} → None ≡ Some a → X
  none_there X h = cc

  same_one : {A : Type 0} (a b : A) → Some a ≡ Some b → a ≡ b
  same_one a b h = cc

  entity_found : (before more : List DesignUnit) (b : Book) (x : ℕ) (e : Entity) → entity_in more x ≡ Some e → 0 < b.natures → HasNoFaults (units_checked texts units before more b).notes → EntityIsClean texts e
  entity_found before [] b x e is some h = none_there _ is
  entity_found before (unit.Entity f ∷ more) b x e is some h =
      go (nat_eq f.name.number x) is (λ k. entity_found (before ++ unit.Entity f ∷ []) more (entity_checked texts before f b) x e k (next_some before more (unit.Entity f) b some h) h)
    where
      go : (c : Bool) → (if c then Some f else entity_in more x) ≡ Some e → (entity_in more x ≡ Some e → EntityIsClean texts e) → EntityIsClean texts e
      go true is rest =
          let there = list_any (is_entity f.name.number) before in
          subst (EntityIsClean texts) (same_one f e is)
          (record {
            book = in_region (start_of texts) (end_name f.name f.end (repeated f.name there b.notes)) b;
            scope = refl;
            some = some;
            clean = units_before (before ++ unit.Entity f ∷ []) more (entity_checked texts before f b) h;
          })
      go false is rest = rest is
  entity_found before (unit.Architecture a ∷ more) b x e is some h = entity_found (before ++ unit.Architecture a ∷ []) more (architecture_checked texts units before a b) x e is (next_some before more (unit.Architecture a) b some h) h
  entity_found before (unit.Library l ∷ more) b x e is some h = entity_found (before ++ unit.Library l ∷ []) more b x e is some h
  entity_found before (unit.Use l ∷ more) b x e is some h = entity_found (before ++ unit.Use l ∷ []) more b x e is some h

  -- the first entity of a name stays the first with more units behind it
  entity_in_front : (before more : List DesignUnit) (x : ℕ) (e : Entity) → entity_in before x ≡ Some e → entity_in (before ++ more) x ≡ Some e
  entity_in_front [] more x e is = none_there _ is
  entity_in_front (unit.Entity f ∷ before) more x e is = go (nat_eq f.name.number x) is (λ k. entity_in_front before more x e k)
    where
      go : (c : Bool) → (if c then Some f else entity_in before x) ≡ Some e → (entity_in before x ≡ Some e → entity_in (before ++ more) x ≡ Some e)
          → (if c then Some f else entity_in (before ++ more) x) ≡ Some e
      go true is rest = is
      go false is rest = rest is
  entity_in_front (unit.Architecture a ∷ before) more x e is = entity_in_front before more x e is
  entity_in_front (unit.Library l ∷ before) more x e is = entity_in_front before more x e is
  entity_in_front (unit.Use l ∷ before) more x e is = entity_in_front before more x e is

  -- an architecture with the entity that stands before it
  record IsBehind (all : List DesignUnit) (x : ℕ) (a : Architecture) : Type 0 where
    entity : Entity
    there : entity_in all x ≡ Some entity
    whole : ArchitectureIsClean texts units entity a

  equal : (a b : ℕ) → nat_eq a b ≡ true → a ≡ b
  equal a b h = grind (arith, nat_tests)

  first_part : (a b : Bool) → (a && b) ≡ true → a ≡ true
  first_part true b h = refl
  first_part false b h = absurd (cc)

  asked_entity : (a : Architecture) (x : ℕ) (y : Option ℕ) → is_asked a x y ≡ true → a.entity.number ≡ x
  asked_entity a x None h = equal a.entity.number x h
  asked_entity a x (Some y) h = equal a.entity.number x (first_part (nat_eq a.entity.number x) (nat_eq a.name.number y) h)

  behind_entity : (before more : List DesignUnit) (a : Architecture) (b : Book) (o : Option Entity) → entity_in before a.entity.number ≡ o → 0 < b.natures → HasNoFaults (of_entity texts units a o (begun before a b)).notes
      → IsBehind (before ++ more) a.entity.number a
  behind_entity before more a b None is some h = none_noted (IsBehind (before ++ more) a.entity.number a) a.entity.place (Unknown a.entity.number) (begun before a b).notes h
  behind_entity before more a b (Some e) is some h =
      record { entity = e; there = entity_in_front before more a.entity.number e is; whole = record { book = begun before a b; scope = refl; some = some; clean = h } }

  next_units : (before more : List DesignUnit) (u : DesignUnit) (x : ℕ) (a : Architecture) → IsBehind ((before ++ u ∷ []) ++ more) x a → IsBehind (before ++ u ∷ more) x a
  next_units before more u x a h = subst (λ (l : List DesignUnit). IsBehind l x a) (append_assoc before (u ∷ []) more) h

  architecture_found : (before more : List DesignUnit) (b : Book) (x : ℕ) (y : Option ℕ) (a : Architecture) → architecture_in more x y ≡ Some a → 0 < b.natures
      → HasNoFaults (units_checked texts units before more b).notes → IsBehind (before ++ more) x a
  architecture_found before [] b x y a is some h = none_there _ is
  architecture_found before (unit.Architecture c ∷ more) b x y a is some h =
      go (architecture_in more x y) refl is
      (λ k. architecture_found (before ++ unit.Architecture c ∷ []) more (architecture_checked texts units before c b) x y a k (next_some before more (unit.Architecture c) b some h) h)
    where
      here : HasNoFaults (architecture_checked texts units before c b).notes
      here = units_before (before ++ unit.Architecture c ∷ []) more (architecture_checked texts units before c b) h

      this : (t : Bool) → is_asked c x y ≡ t → (if t then Some c else None) ≡ Some a → IsBehind (before ++ unit.Architecture c ∷ more) x a
      this true asked is =
          subst (λ (z : Architecture). IsBehind (before ++ unit.Architecture c ∷ more) x z) (same_one c a is)
          (subst (λ (n : ℕ). IsBehind (before ++ unit.Architecture c ∷ more) n c) (asked_entity c x y asked)
          (behind_entity before (unit.Architecture c ∷ more) c b (entity_in before c.entity.number) refl some here))
      this false asked is = none_there _ is

      go : (o : Option Architecture) → architecture_in more x y ≡ o → or_this o c x y ≡ Some a → (architecture_in more x y ≡ Some a → IsBehind ((before ++ unit.Architecture c ∷ []) ++ more) x a)
          → IsBehind (before ++ unit.Architecture c ∷ more) x a
      go (Some later) found is rest = next_units before more (unit.Architecture c) x a (rest (found ∙ is))
      go None found is rest = this (is_asked c x y) refl is
  architecture_found before (unit.Entity e ∷ more) b x y a is some h =
      next_units before more (unit.Entity e) x a (architecture_found (before ++ unit.Entity e ∷ []) more (entity_checked texts before e b) x y a is (next_some before more (unit.Entity e) b some h) h)
  architecture_found before (unit.Library l ∷ more) b x y a is some h =
      next_units before more (unit.Library l) x a (architecture_found (before ++ unit.Library l ∷ []) more b x y a is some h)
  architecture_found before (unit.Use l ∷ more) b x y a is some h =
      next_units before more (unit.Use l) x a (architecture_found (before ++ unit.Use l ∷ []) more b x y a is some h)

  first_some : 0 < 1
  first_some = omega arith

  pub units_clean : file_faults texts units ≡ [] → UnitsAreClean texts units
  units_clean clean =
      record {
        entities = λ x e is. entity_found [] units (first_book texts) x e is first_some clean;
        natures = λ x e is.
            let h = entity_found [] units (first_book texts) x e is first_some clean in
            entity_natures texts h.book.natures h.some parts e h.book h.scope h.clean;
        architectures = λ x y e a is also.
            let h = architecture_found [] units (first_book texts) x y a also first_some clean in
            subst (λ (z : Entity). ArchitectureIsClean texts units z a) (same_one h.entity e (sym h.there ∙ is)) h.whole;
      }
