-- Names of declarations, declared by the check and at an instance.
use Rattle.std.proofs.Common.{◌≡◌, ℕ, List, [], ◌∷◌, append-nil, Option, Some, None, refl, sym, subst}
use Rattle.ams_token.specs.declared.token.Place.{Place}
use Rattle.ams_tree.specs.declared.expression.Name.{Name}
use Rattle.flat_design.specs.declared.objects.Objects.{Objects}
use Rattle.name_scope.specs.declared.thing.Thing.{Thing}
use Rattle.name_scope.specs.Scopes.{declared_in}
use Rattle.elab_meaning.specs.declared.book.Book.{Book}
use Rattle.elab_meaning.specs.declared.fault.Cause.TheVariants.{Duplicate, WrongType}
use Rattle.elab_meaning.specs.declared.fault.Notes.{Notes}
use Rattle.elab_meaning.specs.declared.part.Part.{Part}
use Rattle.elab_meaning.specs.declared.part.Part.TheVariants.{Kept, Wrong, Hidden}
use Rattle.elab_meaning.specs.Parts.{closed}
use Rattle.elab_meaning.specs.Declarations.{duplicate, declared, with_notes, with_objects, each, faulty, each_of, declaring_each}
use Rattle.alike_laws.specs.Alike.{HasNoFaults, OnlyTold, Reads, IsShown, AlikeThing, AlikeFound}
use Rattle.alike_laws.proofs.Notes.{no_fault, told_noted}
use Rattle.alike_laws.proofs.Scopes.{named_alike}
use Rattle.alike_books.specs.Books.{AlikeBooks, AlikeBehind}
use Rattle.alike_books.proofs.Before.{RuleBefore, each_before, each_of_before, closed_before}

abbrev pub IsKept : {A : Type 0} → Part A → Type 0
IsKept (Kept a) = Unit {0}
IsKept _ = ⊥

pub kept_closed : (A : Type 0) (place : Place) (p : Part A) (n : Notes) → (HasNoFaults n → IsShown p) → HasNoFaults (closed place p n) → IsKept p
kept_closed A place (Kept a) n shown h = tt
kept_closed A place Wrong n shown h = absurd (no_fault place WrongType n h)
kept_closed A place Hidden n shown h = shown h

-- ---- books

pub behind_same : (natures : List ℕ) (c i : Book) → AlikeBooks natures c i → AlikeBehind natures c i
behind_same natures c i h = record { more = []; books = subst (λ (l : List ℕ). AlikeBooks l c i) (sym (append-nil natures)) h }

pub told_closed : (A : Type 0) (place : Place) (p : Part A) (n : Notes) → OnlyTold n → OnlyTold (closed place p n)
told_closed A place (Kept a) n o = o
told_closed A place Wrong n o = told_noted place n o
told_closed A place Hidden n o = o

module _ (natures : List ℕ) where
  -- of objects nothing is asked
  pub with_books : (c i : Book) (o p : Objects) → AlikeBooks natures c i → AlikeBooks natures (with_objects o c) (with_objects p i)
  with_books c i o p h = record { scopes = h.scopes; count = h.count; some = h.some; told = h.told }

  pub noted_books : (c i : Book) (m n : Notes) → AlikeBooks natures c i → OnlyTold n → AlikeBooks natures (with_notes m c) (with_notes n i)
  noted_books c i m n h o = record { scopes = h.scopes; count = h.count; some = h.some; told = o }

  -- ---- one name

  told_duplicate : (x : Name) (o p : Option Thing) (m n : Notes) → AlikeFound natures o p → HasNoFaults (duplicate x o m) → OnlyTold n → OnlyTold (duplicate x p n)
  told_duplicate x None None m n h g k = k
  told_duplicate x (Some t) p m n h g k = absurd (no_fault x.place (Duplicate x.number) m g)
  told_duplicate x None (Some u) m n h g k = absurd h

  pub declared_alike : (s t : Thing) (x : Name) (c i : Book) → AlikeThing natures s t → HasNoFaults (declared s x c).notes → AlikeBooks natures c i → AlikeBooks natures (declared s x c) (declared t x i)
  declared_alike s t x c i k g h =
      record {
        scopes = named_alike natures c.scope i.scope x.number s t h.scopes k;
        count = h.count;
        some = h.some;
        told = told_duplicate x (declared_in c.scope.inner x.number) (declared_in i.scope.inner x.number) c.notes i.notes (h.scopes.inner x.number) g h.told;
      }

  -- ---- several names

  -- the check declares a name by the first rule, and an instance by the second
  abbrev pub RulesAlike : (Name → Book → Book) → (Name → Book → Book) → Type 0
  RulesAlike f g = (x : Name) (c i : Book) → HasNoFaults (f x c).notes → AlikeBooks natures c i → AlikeBooks natures (f x c) (g x i)

  pub each_alike : (f g : Name → Book → Book) → RuleBefore f → RulesAlike f g → (names : List Name) (c i : Book) → HasNoFaults (each f names c).notes
      → AlikeBooks natures c i → AlikeBooks natures (each f names c) (each g names i)
  each_alike f g r a [] c i k h = h
  each_alike f g r a (x ∷ more) c i k h = each_alike f g r a more (f x c) (g x i) k (a x c i (each_before f r more (f x c) k) h)

  module _ (A B : Type 0) (f : A → Name → Book → Book) (g : B → Name → Book → Book) (r : (a : A) → RuleBefore (f a)) where
    -- the rules of two parts
    pub record PartsAlike (p : Part A) (q : Part B) : Type 0 where
      pub kept : (a : A) (b : B) → p ≡ Kept a → q ≡ Kept b → RulesAlike (f a) (g b)
      pub broken : (a : A) → p ≡ Kept a → RulesAlike (f a) faulty

    pub each_of_alike : (p : Part A) (q : Part B) (names : List Name) (c i : Book) → IsKept p → PartsAlike p q → HasNoFaults (each_of f p names c).notes
        → AlikeBooks natures c i → AlikeBooks natures (each_of f p names c) (each_of g q names i)
    each_of_alike (Kept a) (Kept b) names c i there k n h = each_alike (f a) (g b) (r a) (k.kept a b refl refl) names c i n h
    each_of_alike (Kept a) Wrong names c i there k n h = each_alike (f a) faulty (r a) (k.broken a refl) names c i n h
    each_of_alike (Kept a) Hidden names c i there k n h = each_alike (f a) faulty (r a) (k.broken a refl) names c i n h
    each_of_alike Wrong q names c i there k n h = absurd there
    each_of_alike Hidden q names c i there k n h = absurd there

    pub declaring_alike : (place : Place) (names : List Name) (d : Notes × Part A) (e : Notes × Part B) (c i : Book) → Reads (Part A) (Part B) IsShown c.notes d i.notes e
        → PartsAlike d.1 e.1 → HasNoFaults (declaring_each f place names d c).notes → AlikeBooks natures c i
        → AlikeBooks natures (declaring_each f place names d c) (declaring_each g place names e i)
    declaring_alike place names d e c i reads k n h =
        let closing : HasNoFaults (closed place d.1 d.0) = each_of_before A f r d.1 names (with_notes (closed place d.1 d.0) c) n in
        let there : IsKept d.1 = kept_closed A place d.1 d.0 reads.right closing in
        each_of_alike d.1 e.1 names (with_notes (closed place d.1 d.0) c) (with_notes (closed place e.1 e.0) i) there k n
        (noted_books c i (closed place d.1 d.0) (closed place e.1 e.0) h (told_closed B place e.1 e.0 (reads.notes.told (closed_before A place d.1 d.0 closing) h.told)))
