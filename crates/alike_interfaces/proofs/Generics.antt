-- Generics.
use Rattle.std.proofs.Common.{◌≡◌, ◌+◌, ℕ, Bool, true, false, if◌then◌else◌, List, [], ◌∷◌, length, Option, Some, None, refl, subst}
use Rattle.std.specs.List.{fold}
use Rattle.ams_tree.specs.declared.expression.Name.{Name}
use Rattle.ams_tree.specs.declared.expression.Expr.{Expr}
use Rattle.ams_tree.specs.declared.declaration.Generic.{Generic}
use Rattle.ams_tree.specs.declared.declaration.SubtypeIndication.{SubtypeIndication}
use Rattle.name_scope.specs.declared.scope.Scope.{Scope}
use Rattle.name_scope.specs.declared.thing.Subtype.{Subtype}
use Rattle.name_scope.specs.declared.thing.Thing.TheVariants as thing
use Rattle.elab_meaning.specs.declared.book.Book.{Book}
use Rattle.elab_meaning.specs.declared.fault.Cause.TheVariants.{WrongType}
use Rattle.elab_meaning.specs.declared.fault.Notes.{Notes}
use Rattle.elab_meaning.specs.declared.part.Part.{Part}
use Rattle.elab_meaning.specs.declared.part.Part.TheVariants.{Kept, Wrong, Hidden}
use Rattle.elab_meaning.specs.declared.typed.Valued.{Valued}
use Rattle.elab_meaning.specs.Notes.{noted}
use Rattle.elab_meaning.specs.Parts.{kept, closed}
use Rattle.elab_meaning.specs.Subtypes.{subtype, holds_known}
use Rattle.elab_meaning.specs.Declarations.{declared, constant_of, with_notes, each, each_of}
use Rattle.unit_meaning.specs.declared.request.Actual.{Actual}
use Rattle.unit_meaning.specs.declared.request.Actual.TheVariants as actual
use Rattle.unit_meaning.specs.declared.request.Assigned.{Assigned}
use Rattle.unit_meaning.specs.Interfaces.{first_place, unvalued, generic_default, generic_name, generic}
use Rattle.unit_meaning.specs.Walk.{range_notes, kind_suits, actual_value, default_thing, generic_entered, if_some, generic_names, is_there, generics_entered, actual_at}
use Rattle.alike_laws.specs.Alike.{HasNoFaults, OnlyTold, Reads, IsShown, AlikeThing, AlikeScopes}
use Rattle.alike_laws.proofs.Notes.{told_noted}
use Rattle.alike_books.specs.Books.{AlikeBooks}
use Rattle.alike_books.proofs.Before.{RuleBefore, valued_before, subtype_before, closed_before, declared_before, each_before, declaring_before, each_of_before}
use Rattle.alike_books.proofs.Parts.{shown_judged, subtype_reads, valued_reads}
use Rattle.alike_books.proofs.Names.{IsKept, kept_closed, told_closed, noted_books, declared_alike}
use Rattle.alike_books.proofs.Objects.{broken_alike}

-- ---- steps that may fail

pub if_some_step : (A B : Type 0) (f : A → Option B) (o : Option A) (b : B) → if_some f o ≡ Some b → (a : A) × ((o ≡ Some a) × (f a ≡ Some b))
if_some_step A B f (Some a) b h = (a, (refl, h))
if_some_step A B f None b h = absurd (cc)

pub some_is : (A : Type 0) (R : A → Type 0) (a b : A) → R a → Some a ≡ Some b → R b
some_is A R a b h e = subst (λ (o : Option A). Holds o) e h
  where
    Holds : Option A → Type 0
    Holds (Some x) = R x
    Holds None = ⊥

-- ---- the check breaks no rule before

default_before : (texts : List (List ℕ)) (scope : Scope) (i : SubtypeIndication) (x : Option Expr) (n : Notes) → HasNoFaults (generic_default texts scope i x n).0 → HasNoFaults n
default_before texts scope i None n h = subtype_before texts scope i n h
default_before texts scope i (Some x) n h = valued_before texts scope i (Some x) n h

pub name_before : (v : Valued) → RuleBefore (generic_name v)
name_before v x b h = declared_before (thing.Constant v.subtype None) x b h

pub generic_before : (texts : List (List ℕ)) (g : Generic) (b : Book) → HasNoFaults (generic texts b g).notes → HasNoFaults b.notes
generic_before texts g b h =
    default_before texts b.scope g.indication g.default b.notes
    (declaring_before Valued generic_name name_before (first_place g.constant g.names) g.names (generic_default texts b.scope g.indication g.default b.notes) b h)

pub generics_before : (texts : List (List ℕ)) (gs : List Generic) (b : Book) → HasNoFaults (fold (generic texts) b gs).notes → HasNoFaults b.notes
generics_before texts [] b h = h
generics_before texts (g ∷ more) b h = generic_before texts g b (generics_before texts more (generic texts b g) h)

-- ---- what an instance breaks

told_range : (d : Option Valued) (a : Assigned) (n : Notes) → OnlyTold n → OnlyTold (range_notes d a n)
told_range None a n o = o
told_range (Some d) a n o = go a.actual
  where
    test : (b : Bool) → OnlyTold (if b then n else noted a.place WrongType n)
    test true = o
    test false = told_noted a.place n o

    go : (x : Actual) → OnlyTold (elim x as (λ x. Notes) [ actual.Value k v ↦ (if holds_known d.subtype.constraint v then n else noted a.place WrongType n) | actual.Open ↦ n | actual.Object x t ↦ n ])
    go (actual.Value k v) = test (holds_known d.subtype.constraint v)
    go actual.Open = o
    go (actual.Object x t) = o

module _ (natures : List ℕ) where
  -- a constant, or a broken thing, beside a generic without a value
  both_constants : (s u : Subtype) (v : Valued) → AlikeThing natures (thing.Constant s None) (constant_of v)
  both_constants s u v = record { whole = refl; label = refl; changing = λ h. h; terminal_known = tt; terminal = tt; nature_known = tt; nature = tt }

  broken_generic : (s : Subtype) → AlikeThing natures (thing.Constant s None) thing.Faulty
  broken_generic s = broken_alike natures (thing.Constant s None) refl refl tt tt

  value_alike : (s : Subtype) (d : Option Valued) (a : Actual) → AlikeThing natures (thing.Constant s None) (actual_value d a)
  value_alike s (Some d) (actual.Value k v) = both_constants s d.subtype (record { subtype = d.subtype; value = v })
  value_alike s (Some d) actual.Open = broken_generic s
  value_alike s (Some d) (actual.Object x t) = broken_generic s
  value_alike s None a = broken_generic s

  default_alike : (s : Subtype) (d : Option Valued) → AlikeThing natures (thing.Constant s None) (default_thing d)
  default_alike s (Some d) = both_constants s d.subtype d
  default_alike s None = broken_generic s

  module _ (v : Valued) (d : Option Valued) (has_default : Bool) where
    name_alike : (o : Option Assigned) (x : Name) (c i j : Book) → generic_entered d has_default o x i ≡ Some j → HasNoFaults (generic_name v x c).notes → AlikeBooks natures c i
        → AlikeBooks natures (generic_name v x c) j
    name_alike (Some a) x c i j e n h = go (kind_suits d a.actual) e
      where
        made : Book
        made = declared (actual_value d a.actual) x (with_notes (range_notes d a i.notes) i)

        alike : AlikeBooks natures (generic_name v x c) (declared (actual_value d a.actual) x (with_notes (range_notes d a i.notes) i))
        alike =
            declared_alike natures (thing.Constant v.subtype None) (actual_value d a.actual) x c (with_notes (range_notes d a i.notes) i) (value_alike v.subtype d a.actual) n
            (record { scopes = h.scopes; count = h.count; some = h.some; told = told_range d a i.notes h.told })

        go : (b : Bool) → (if b then Some (declared (actual_value d a.actual) x (with_notes (range_notes d a i.notes) i)) else None) ≡ Some j → AlikeBooks natures (generic_name v x c) j
        go true e = some_is Book (AlikeBooks natures (generic_name v x c)) (declared (actual_value d a.actual) x (with_notes (range_notes d a i.notes) i)) j alike e
        go false e = absurd (cc)
    name_alike None x c i j e n h = go has_default e
      where
        alike : AlikeBooks natures (generic_name v x c) (declared (default_thing d) x i)
        alike = declared_alike natures (thing.Constant v.subtype None) (default_thing d) x c i (default_alike v.subtype d) n h

        go : (b : Bool) → generic_entered d b None x i ≡ Some j → AlikeBooks natures (generic_name v x c) j
        go true e = some_is Book (AlikeBooks natures (generic_name v x c)) (declared (default_thing d) x i) j alike e
        go false e = absurd (cc)

    names_alike : (given : List (ℕ × Assigned)) (k : ℕ) (names : List Name) (c i j : Book) → generic_names given d has_default k names i ≡ Some j → HasNoFaults (each (generic_name v) names c).notes
        → AlikeBooks natures c i → AlikeBooks natures (each (generic_name v) names c) j
    names_alike given k [] c i j e n h = some_is Book (AlikeBooks natures c) i j h e
    names_alike given k (x ∷ more) c i j e n h =
        let step = if_some_step Book Book (generic_names given d has_default (k + 1) more) (generic_entered d has_default (actual_at given k) x i) j e in
        names_alike given (k + 1) more (generic_name v x c) step.0 j step.1.1 n
        (name_alike (actual_at given k) x c i step.0 step.1.0 (each_before (generic_name v) (name_before v) more (generic_name v x c) n) h)

  -- ---- a declaration of generics

  shown_unvalued : (s : Subtype) → IsShown (unvalued s)
  shown_unvalued s = tt

  default_reads : (a b : Scope) (alike : AlikeScopes natures a b) (texts : List (List ℕ)) (y : SubtypeIndication) (x : Option Expr) (c i : Notes)
      → Reads (Part Valued) (Part Valued) IsShown c (generic_default texts a y x c) i (generic_default texts b y x i)
  default_reads a b alike texts y None c i =
      let r = subtype_reads natures a b alike texts y c i in
      record { notes = r.notes; right = λ h. shown_judged Subtype Valued unvalued (subtype texts a y c).1 shown_unvalued (r.right h) }
  default_reads a b alike texts y (Some x) c i = valued_reads natures a b alike texts y (Some x) c i

  kept_alike : (texts : List (List ℕ)) (given : List (ℕ × Assigned)) (k : ℕ) (names : List Name) (has : Bool) (p : Part Valued) (d : Option Valued) (c i j : Book) → IsKept p
      → generic_names given d has k names i ≡ Some j → HasNoFaults (each_of generic_name p names c).notes → AlikeBooks natures c i → AlikeBooks natures (each_of generic_name p names c) j
  kept_alike texts given k names has (Kept v) d c i j there e n h = names_alike v d has given k names c i j e n h
  kept_alike texts given k names has Wrong d c i j there e n h = absurd there
  kept_alike texts given k names has Hidden d c i j there e n h = absurd there

  module _ (texts : List (List ℕ)) (given : List (ℕ × Assigned)) where
    generic_alike : (g : Generic) (k : ℕ) (c i j : Book)
        → (let d = generic_default texts i.scope g.indication g.default i.notes in
        generic_names given (kept d.1) (is_there g.default) k g.names (with_notes (closed (first_place g.constant g.names) d.1 d.0) i)) ≡ Some j
        → HasNoFaults (generic texts c g).notes → AlikeBooks natures c i → AlikeBooks natures (generic texts c g) j
    generic_alike g k c i j e n h =
        let place = first_place g.constant g.names in
        let a = generic_default texts c.scope g.indication g.default c.notes in
        let b = generic_default texts i.scope g.indication g.default i.notes in
        let reads : Reads (Part Valued) (Part Valued) IsShown c.notes a i.notes b = default_reads c.scope i.scope h.scopes texts g.indication g.default c.notes i.notes in
        let closing : HasNoFaults (closed place a.1 a.0) = each_of_before Valued generic_name name_before a.1 g.names (with_notes (closed place a.1 a.0) c) n in
        kept_alike texts given k g.names (is_there g.default) a.1 (kept b.1) (with_notes (closed place a.1 a.0) c) (with_notes (closed place b.1 b.0) i) j
        (kept_closed Valued place a.1 a.0 reads.right closing) e n
        (noted_books natures c i (closed place a.1 a.0) (closed place b.1 b.0) h (told_closed Valued place b.1 b.0 (reads.notes.told (closed_before Valued place a.1 a.0 closing) h.told)))

    pub generics_alike : (gs : List Generic) (k : ℕ) (c i j : Book) → generics_entered texts given k gs i ≡ Some j → HasNoFaults (fold (generic texts) c gs).notes → AlikeBooks natures c i
        → AlikeBooks natures (fold (generic texts) c gs) j
    generics_alike [] k c i j e n h = some_is Book (AlikeBooks natures c) i j h e
    generics_alike (g ∷ more) k c i j e n h =
        let d = generic_default texts i.scope g.indication g.default i.notes in
        let step =
        if_some_step Book Book (generics_entered texts given (k + length g.names) more)
        (generic_names given (kept d.1) (is_there g.default) k g.names (with_notes (closed (first_place g.constant g.names) d.1 d.0) i)) j e in
        generics_alike more (k + length g.names) (generic texts c g) step.0 j step.1.1 n (generic_alike g k c i step.0 step.1.0 (generics_before texts more (generic texts c g) n) h)
