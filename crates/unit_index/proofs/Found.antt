-- One more unit.
use Rattle.std.proofs.Common.{◌≡◌, ℕ, zero, suc, ◌+◌, nat_eq, Bool, true, false, ◌&&◌, ◌||◌, cond, List, [], ◌∷◌, ◌++◌, take, slice_get, Option, Some, None, is_some, Bor, refl, sym, ap, ◌∙◌, arith, add-one}
use Rattle.std.specs.List.{list_any}
use Rattle.std.specs.Option.{option_copied}
use Rattle.std.proofs.lemmas.Bool.Decides.{nat_tests}
use Rattle.ams_tree.specs.declared.design.DesignUnit.{DesignUnit}
use Rattle.ams_tree.specs.declared.design.DesignUnit.TheVariants as unit
use Rattle.ams_tree.specs.declared.design.Entity.{Entity}
use Rattle.ams_tree.specs.declared.design.Architecture.{Architecture}
use Rattle.unit_meaning.specs.Associations.{entity_in, architecture_in, or_this, is_asked}
use Rattle.unit_meaning.specs.Units.{is_entity, is_architecture}
use Rattle.unit_index.specs.Index.{Known, known, entity_at, architecture_at, some_entity, some_architecture, AreFound, is_other}

-- ---- what is found, and whether it is there

pub entity_there : (units : List DesignUnit) (x : ℕ) → list_any (is_entity x) units ≡ is_some (entity_in units x)
entity_there [] x = refl
entity_there (unit.Entity e ∷ more) x = go (nat_eq e.name.number x) (entity_there more x)
  where
    go : (b : Bool) → list_any (is_entity x) more ≡ is_some (entity_in more x) → (b || list_any (is_entity x) more) ≡ is_some (cond b (Some e) (entity_in more x))
    go true h = refl
    go false h = h
entity_there (unit.Library names ∷ more) x = entity_there more x
entity_there (unit.Use paths ∷ more) x = entity_there more x
entity_there (unit.Architecture a ∷ more) x = entity_there more x

or_true : (b : Bool) → (b || true) ≡ true
or_true true = refl
or_true false = refl

or_false : (a : Architecture) (b : Bool) → (b || false) ≡ is_some (cond b (Some a) None)
or_false a true = refl
or_false a false = refl

pub architecture_there : (units : List DesignUnit) (x y : ℕ) → list_any (is_architecture x y) units ≡ is_some (architecture_in units x (Some y))
architecture_there [] x y = refl
architecture_there (unit.Architecture a ∷ more) x y = go (architecture_in more x (Some y)) (architecture_there more x y)
  where
    go : (o : Option Architecture) → list_any (is_architecture x y) more ≡ is_some o → (is_asked a x (Some y) || list_any (is_architecture x y) more) ≡ is_some (or_this o a x (Some y))
    go (Some later) h = ap (λ b. is_asked a x (Some y) || b) h ∙ or_true (is_asked a x (Some y))
    go None h = ap (λ b. is_asked a x (Some y) || b) h ∙ or_false a (is_asked a x (Some y))
architecture_there (unit.Library names ∷ more) x y = architecture_there more x y
architecture_there (unit.Use paths ∷ more) x y = architecture_there more x y
architecture_there (unit.Entity e ∷ more) x y = architecture_there more x y

copied : {A : Type 0} (o : Option (Bor A)) → is_some o ≡ is_some (option_copied o)
copied (Some a) = refl
copied None = refl

pub has_entity : (units : List DesignUnit) (x : ℕ) (o : Option (Bor Entity)) → option_copied o ≡ entity_in units x → is_some o ≡ list_any (is_entity x) units
has_entity units x o h = copied o ∙ (ap is_some h ∙ sym (entity_there units x))

pub has_architecture : (units : List DesignUnit) (x y : ℕ) (o : Option (Bor Architecture)) → option_copied o ≡ architecture_in units x (Some y) → is_some o ≡ list_any (is_architecture x y) units
has_architecture units x y o h = copied o ∙ (ap is_some h ∙ sym (architecture_there units x y))

-- whether an entity is known, as a call has answered it
pub known_as : (u v : Known) (x : ℕ) (b c : Bool) → u ≡ v → b ≡ list_any (is_entity x) (known v) → b ≡ c → is_some (entity_in (known u) x) ≡ c
known_as u v x b c e h f = sym (entity_there (known u) x) ∙ (ap (λ w. list_any (is_entity x) (known w)) e ∙ (sym h ∙ f))

-- ---- one more behind the others

abbrev pub or_else : {A : Type 0} → Option A → Option A → Option A
or_else (Some a) o = Some a
or_else None o = o

or_nothing : {A : Type 0} (o : Option A) → o ≡ or_else o None
or_nothing (Some a) = refl
or_nothing None = refl

entity_behind : (xs : List DesignUnit) (u : DesignUnit) (x : ℕ) → entity_in (xs ++ u ∷ []) x ≡ or_else (entity_in xs x) (entity_in (u ∷ []) x)
entity_behind [] u x = refl
entity_behind (unit.Entity e ∷ xs) u x = go (nat_eq e.name.number x) (entity_behind xs u x)
  where
    go : (b : Bool) → entity_in (xs ++ u ∷ []) x ≡ or_else (entity_in xs x) (entity_in (u ∷ []) x) → cond b (Some e) (entity_in (xs ++ u ∷ []) x) ≡ or_else (cond b (Some e) (entity_in xs x)) (entity_in (u ∷ []) x)
    go true h = refl
    go false h = h
entity_behind (unit.Library names ∷ xs) u x = entity_behind xs u x
entity_behind (unit.Use paths ∷ xs) u x = entity_behind xs u x
entity_behind (unit.Architecture a ∷ xs) u x = entity_behind xs u x

architecture_behind : (xs : List DesignUnit) (u : DesignUnit) (x : ℕ) (y : Option ℕ) → architecture_in (xs ++ u ∷ []) x y ≡ or_else (architecture_in (u ∷ []) x y) (architecture_in xs x y)
architecture_behind [] u x y = or_nothing (architecture_in (u ∷ []) x y)
architecture_behind (unit.Architecture a ∷ xs) u x y = ap (λ o. or_this o a x y) (architecture_behind xs u x y) ∙ go (architecture_in (u ∷ []) x y)
  where
    go : (o : Option Architecture) → or_this (or_else o (architecture_in xs x y)) a x y ≡ or_else o (or_this (architecture_in xs x y) a x y)
    go (Some later) = refl
    go None = refl
architecture_behind (unit.Library names ∷ xs) u x y = architecture_behind xs u x y
architecture_behind (unit.Use paths ∷ xs) u x y = architecture_behind xs u x y
architecture_behind (unit.Entity e ∷ xs) u x y = architecture_behind xs u x y

taken_next : (all : List DesignUnit) (n : ℕ) (u : DesignUnit) → slice_get all n ≡ Some u → take (suc n) all ≡ take n all ++ u ∷ []
taken_next [] zero u h = cc
taken_next [] (suc n) u h = cc
taken_next (v ∷ all) zero u h = let e : v ≡ u = cc in ap (λ w. w ∷ []) e
taken_next (v ∷ all) (suc n) u h = ap (λ xs. v ∷ xs) (taken_next all n u h)

pub taken : (all : List DesignUnit) (n : ℕ) (u : DesignUnit) → slice_get all n ≡ Some u → take (n + 1) all ≡ take n all ++ u ∷ []
taken all n u h = ap (λ m. take m all) (add-one n) ∙ taken_next all n u h

-- ---- places

module _ (all : List DesignUnit) (n : ℕ) (u : DesignUnit) (here : slice_get all n ≡ Some u) where
  entity_then : (x : ℕ) → entity_in (take (n + 1) all) x ≡ or_else (entity_in (take n all) x) (entity_in (u ∷ []) x)
  entity_then x = ap (λ xs. entity_in xs x) (taken all n u here) ∙ entity_behind (take n all) u x

  architecture_then : (x : ℕ) (y : Option ℕ) → architecture_in (take (n + 1) all) x y ≡ or_else (architecture_in (u ∷ []) x y) (architecture_in (take n all) x y)
  architecture_then x y = ap (λ xs. architecture_in xs x y) (taken all n u here) ∙ architecture_behind (take n all) u x y

-- a unit that is neither
pub other_found : (all : List DesignUnit) (n : ℕ) (e a : ℕ → Option ℕ) (m : ℕ → ℕ → Option ℕ) → is_other (slice_get all n) → AreFound all n e a m → AreFound all (n + 1) e a m
other_found all n e a m other h = go (slice_get all n) refl other
  where
    with_none : (u : DesignUnit) → slice_get all n ≡ Some u → ((x : ℕ) → entity_in (u ∷ []) x ≡ None) → ((x : ℕ) (y : Option ℕ) → architecture_in (u ∷ []) x y ≡ None) → AreFound all (n + 1) e a m
    with_none u here nowhere nothing =
        record {
          entity = λ x. entity_then all n u here x ∙ (ap (or_else (entity_in (take n all) x)) (nowhere x) ∙ (sym (or_nothing (entity_in (take n all) x)) ∙ h.entity x));
          last = λ x. architecture_then all n u here x None ∙ (ap (λ o. or_else o (architecture_in (take n all) x None)) (nothing x None) ∙ h.last x);
          architecture = λ x y. architecture_then all n u here x (Some y) ∙ (ap (λ o. or_else o (architecture_in (take n all) x (Some y))) (nothing x (Some y)) ∙ h.architecture x y);
        }

    go : (o : Option DesignUnit) → slice_get all n ≡ o → is_other o → AreFound all (n + 1) e a m
    go (Some (unit.Library names)) f k = with_none (unit.Library names) f (λ x. refl) (λ x y. refl)
    go (Some (unit.Use paths)) f k = with_none (unit.Use paths) f (λ x. refl) (λ x y. refl)
    go (Some (unit.Entity u)) f k = absurd k
    go (Some (unit.Architecture u)) f k = absurd k
    go None f k = absurd k

same_is : (x y : ℕ) → nat_eq x y ≡ true → x ≡ y
same_is x y e = grind (arith, nat_tests)

-- an entity whose name is there already
pub old_entity : (all : List DesignUnit) (n : ℕ) (u : Entity) (e f a : ℕ → Option ℕ) (m : ℕ → ℕ → Option ℕ) → slice_get all n ≡ Some (unit.Entity u)
    → is_some (entity_in (take n all) u.name.number) ≡ true → ((x : ℕ) → f x ≡ e x) → AreFound all n e a m → AreFound all (n + 1) f a m
old_entity all n u e f a m here old same h =
    record {
      entity = λ x. entity_then all n (unit.Entity u) here x ∙ (go x (nat_eq u.name.number x) refl ∙ (h.entity x ∙ sym (ap (entity_at all) (same x))));
      last = λ x. architecture_then all n (unit.Entity u) here x None ∙ h.last x;
      architecture = λ x y. architecture_then all n (unit.Entity u) here x (Some y) ∙ h.architecture x y;
    }
  where
    there : (o p : Option Entity) → is_some o ≡ true → or_else o p ≡ o
    there (Some v) p s = refl
    there None p s = cc

    go : (x : ℕ) (b : Bool) → nat_eq u.name.number x ≡ b → or_else (entity_in (take n all) x) (cond b (Some u) None) ≡ entity_in (take n all) x
    go x true f = there (entity_in (take n all) x) (Some u) (ap (λ z. is_some (entity_in (take n all) z)) (sym (same_is u.name.number x f)) ∙ old)
    go x false f = sym (or_nothing (entity_in (take n all) x))

-- the first one of its name
pub new_entity : (all : List DesignUnit) (n : ℕ) (u : Entity) (e f a : ℕ → Option ℕ) (m : ℕ → ℕ → Option ℕ) → slice_get all n ≡ Some (unit.Entity u)
    → is_some (entity_in (take n all) u.name.number) ≡ false → ((x : ℕ) → f x ≡ cond (nat_eq u.name.number x) (Some n) (e x))
    → AreFound all n e a m → AreFound all (n + 1) f a m
new_entity all n u e f a m here new put h =
    record {
      entity = λ x. entity_then all n (unit.Entity u) here x ∙ (go x (nat_eq u.name.number x) refl ∙ sym (ap (entity_at all) (put x)));
      last = λ x. architecture_then all n (unit.Entity u) here x None ∙ h.last x;
      architecture = λ x y. architecture_then all n (unit.Entity u) here x (Some y) ∙ h.architecture x y;
    }
  where
    unknown : (o p : Option Entity) → is_some o ≡ false → or_else o p ≡ p
    unknown (Some v) p s = cc
    unknown None p s = refl

    go : (x : ℕ) (b : Bool) → nat_eq u.name.number x ≡ b → or_else (entity_in (take n all) x) (cond b (Some u) None) ≡ entity_at all (cond b (Some n) (e x))
    go x true g =
        unknown (entity_in (take n all) x) (Some u) (ap (λ z. is_some (entity_in (take n all) z)) (sym (same_is u.name.number x g)) ∙ new)
        ∙ sym (ap some_entity here)
    go x false g = sym (or_nothing (entity_in (take n all) x)) ∙ h.entity x

pub new_architecture : (all : List DesignUnit) (n : ℕ) (u : Architecture) (e a b : ℕ → Option ℕ) (m k : ℕ → ℕ → Option ℕ) → slice_get all n ≡ Some (unit.Architecture u)
    → ((x : ℕ) → b x ≡ cond (nat_eq u.entity.number x) (Some n) (a x)) → ((x y : ℕ) → k x y ≡ cond (nat_eq u.entity.number x && nat_eq u.name.number y) (Some n) (m x y))
    → AreFound all n e a m → AreFound all (n + 1) e b k
new_architecture all n u e a b m k here put named h =
    record {
      entity = λ x. entity_then all n (unit.Architecture u) here x ∙ (sym (or_nothing (entity_in (take n all) x)) ∙ h.entity x);
      last = λ x. architecture_then all n (unit.Architecture u) here x None ∙ (go (nat_eq u.entity.number x) (architecture_in (take n all) x None) (a x) (h.last x) ∙ sym (ap (architecture_at all) (put x)));
      architecture = λ x y.
          architecture_then all n (unit.Architecture u) here x (Some y)
          ∙ (go (nat_eq u.entity.number x && nat_eq u.name.number y) (architecture_in (take n all) x (Some y)) (m x y) (h.architecture x y) ∙ sym (ap (architecture_at all) (named x y)));
    }
  where
    go : (t : Bool) (o : Option Architecture) (p : Option ℕ) → o ≡ architecture_at all p → or_else (cond t (Some u) None) o ≡ architecture_at all (cond t (Some n) p)
    go true o p s = sym (ap some_architecture here)
    go false o p s = s
