-- Notes of two readings.
use Rattle.std.proofs.Common.{◌≡◌, ℕ, Bool, true, List, [], ◌∷◌, ◌++◌, Option, Some, None, refl, sym, ap, subst, ◌∙◌}
use Rattle.std.specs.Prelude.{◌&&◌}
use Rattle.std.specs.List.{list_all}
use Rattle.std.proofs.lemmas.List.Folds.{list_all-append}
use Rattle.ams_token.specs.declared.token.Place.{Place}
use Rattle.ams_tree.specs.declared.expression.Name.{Name}
use Rattle.name_scope.specs.declared.thing.Thing.{Thing}
use Rattle.name_scope.specs.declared.thing.Thing.TheVariants as thing
use Rattle.elab_meaning.specs.declared.fault.Cause.{Cause}
use Rattle.elab_meaning.specs.declared.fault.Cause.TheVariants.{Unknown, WrongType}
use Rattle.elab_meaning.specs.declared.fault.Notes.{Notes}
use Rattle.elab_meaning.specs.declared.part.Part.{Part}
use Rattle.elab_meaning.specs.declared.part.Part.TheVariants.{Kept, Wrong, Hidden}
use Rattle.elab_meaning.specs.Notes.{noted}
use Rattle.elab_meaning.specs.Parts.{closed, found_thing}
use Rattle.unit_meaning.specs.Settings.{listed}
use Rattle.reading_laws.specs.Growing.{Grows}
use Rattle.alike_laws.specs.Alike.{HasNoFaults, OnlyTold, is_told, AlikeFound}
use Rattle.alike_parts.specs.Follows.{FollowsIf}

-- ---- faults

pub one_there : {A : Type 0} (X : Type 0) (xs : List A) (x : A) → xs ++ x ∷ [] ≡ [] → X
one_there X [] x h = cc
one_there X (y ∷ xs) x h = cc

front_empty : {A : Type 0} (xs ys : List A) → xs ++ ys ≡ [] → xs ≡ []
front_empty [] ys h = refl
front_empty (x ∷ xs) ys h = cc

whole_empty : {A : Type 0} (xs ys zs : List A) → zs ≡ xs ++ ys → zs ≡ [] → xs ≡ []
whole_empty xs ys zs is h = front_empty xs ys (subst (λ (l : List _). l ≡ []) is h)

pub grown_back : (a b : Notes) → Grows a b → HasNoFaults b → HasNoFaults a
grown_back a b g h = whole_empty a.faults g.faults.more b.faults g.faults.whole h

-- a fault is noted
pub none_noted : (X : Type 0) (place : Place) (cause : Cause) (n : Notes) → HasNoFaults (noted place cause n) → X
none_noted X place cause n h = one_there X n.faults (record { place = place; cause = cause }) h

pub told_wrong : (place : Place) (n : Notes) → OnlyTold n → OnlyTold (noted place WrongType n)
told_wrong place n h = list_all-append is_told n.faults (record { place = place; cause = WrongType } ∷ []) ∙ ap (λ (b : Bool). b && true) h

pub told_closed : {A : Type 0} (place : Place) (p : Part A) (n : Notes) → OnlyTold n → OnlyTold (closed place p n)
told_closed place (Kept a) n h = h
told_closed place Wrong n h = told_wrong place n h
told_closed place Hidden n h = h

pub back_closed : {A : Type 0} (place : Place) (p : Part A) (n : Notes) → HasNoFaults (closed place p n) → HasNoFaults n
back_closed place (Kept a) n h = h
back_closed place Wrong n h = none_noted (HasNoFaults n) place WrongType n h
back_closed place Hidden n h = h

-- a name that stands for something
pub thing_notes : (x : Name) (t : Thing) (n : Notes) → (found_thing x (Some t) n).0 ≡ n
thing_notes x thing.Faulty n = refl
thing_notes x _ n = refl

-- ---- two readings

module _ (G : Type 0) where
  abbrev pub Follows : Notes → Notes → Notes → Notes → Type 0
  Follows n m on to = FollowsIf G n m on to

  pub same_follows : (n m : Notes) → Follows n m n m
  same_follows n m = record { back = λ h. h; told = λ g h k. k }

  pub on_follows : (n m a b on to : Notes) → Follows n m a b → Follows a b on to → Follows n m on to
  on_follows n m a b on to f g = record { back = λ h. f.back (g.back h); told = λ there h k. g.told there h (f.told there (g.back h) k) }

  -- where the first notes a fault
  pub noted_follows : (place : Place) (cause : Cause) (n m to : Notes) → Follows n m (noted place cause n) to
  noted_follows place cause n m to =
      record { back = λ h. none_noted (HasNoFaults n) place cause n h; told = λ there h k. none_noted (OnlyTold to) place cause n h }

  -- a whole whose parts were read
  pub finished_follows : (A : Type 0) (place : Place) (p q : Part A) (n m on to : Notes) → Follows n m on to → Follows n m (closed place p on) (closed place q to)
  finished_follows A place p q n m on to f =
      record { back = λ h. f.back (back_closed place p on h); told = λ there h k. told_closed place q to (f.told there (back_closed place p on h) k) }

  -- a list, by two rules of which one follows the other
  pub listed_follows : (A B : Type 0) (f g : B → Notes → Notes × Part A) → ((x : B) (n m : Notes) → Follows n m (f x n).0 (g x m).0)
      → (all : List B) (n m : Notes) → Follows n m (listed f all n).0 (listed g all m).0
  listed_follows A B f g each [] n m = same_follows n m
  listed_follows A B f g each (x ∷ more) n m =
      let first = f x n in
      let other = g x m in
      on_follows n m first.0 other.0 (listed f more first.0).0 (listed g more other.0).0 (each x n m) (listed_follows A B f g each more first.0 other.0)

  -- neither notes a fault
  pub quiet_follows : (n m on to : Notes) → on.faults ≡ n.faults → to.faults ≡ m.faults → Follows n m on to
  quiet_follows n m on to f g = record { back = λ h. sym f ∙ h; told = λ there h k. ap (list_all is_told) g ∙ k }

  -- what a name stands for
  module _ (natures : List ℕ) where
    pub found_follows : (x : Name) (o p : Option Thing) → (G → AlikeFound natures o p) → (n m : Notes) → Follows n m (found_thing x o n).0 (found_thing x p m).0
    found_follows x None p like n m = noted_follows x.place (Unknown x.number) n m (found_thing x p m).0
    found_follows x (Some a) None like n m = record { back = λ h. subst HasNoFaults (thing_notes x a n) h; told = λ there h k. absurd (like there) }
    found_follows x (Some a) (Some b) like n m =
        record { back = λ h. subst HasNoFaults (thing_notes x a n) h; told = λ there h k. subst OnlyTold (sym (thing_notes x b m)) k }
