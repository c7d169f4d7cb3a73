-- Each declaration, and all of them.
use Rattle.std.proofs.Common.{◌≡◌, ◌<◌, ◌+◌, ℕ, Bool, true, false, if◌then◌else◌, List, [], ◌∷◌, ◌++◌, length, length-append, get_or, None, refl, sym, subst, ap, ◌∙◌, arith}
use Rattle.std.proofs.Math.Seq.{get_or-append_seam}
use Rattle.ams_token.specs.declared.token.Place.{Place}
use Rattle.ams_tree.specs.declared.expression.Name.{Name}
use Rattle.ams_value.specs.declared.val.Val.TheVariants as val
use Rattle.flat_design.specs.declared.objects.Terminal.TheVariants as terminal
use Rattle.name_scope.specs.declared.thing.Thing.{Thing}
use Rattle.name_scope.specs.declared.thing.Thing.TheVariants as thing
use Rattle.name_scope.specs.Scopes.{lookup}
use Rattle.elab_meaning.specs.declared.book.Book.{Book}
use Rattle.elab_meaning.specs.declared.fault.Cause.TheVariants.{WrongType}
use Rattle.elab_meaning.specs.declared.part.Part.{Part}
use Rattle.elab_meaning.specs.declared.part.Part.TheVariants.{Kept, Wrong, Hidden}
use Rattle.elab_meaning.specs.Notes.{noted}
use Rattle.elab_meaning.specs.Parts.{both, closed, found_thing}
use Rattle.elab_meaning.specs.Declarations.{declared, with_notes, each, faulty, new_nature, with_nature, nature_of_part, nature, is_enumeration, with_enumeration, literals_from, of_enumeration, enumeration}
use Rattle.alike_laws.specs.Alike.{HasNoFaults, Reads, IsShown, at_instance}
use Rattle.alike_laws.proofs.Notes.{no_fault, told_noted}
use Rattle.alike_laws.proofs.Scopes.{scopes_more}
use Rattle.alike_books.specs.Books.{AlikeBooks, AlikeBehind}
use Rattle.alike_books.proofs.Before.{found_before, closed_before, declared_before, each_before, literals_before}
use Rattle.alike_books.proofs.Parts.{shown_where, shown_both, found_reads}
use Rattle.alike_books.proofs.Names.{IsKept, kept_closed, told_closed, noted_books, with_books, declared_alike}
use Rattle.alike_books.proofs.Objects.{broken_alike, literal_alike, terminal_alike, nature_alike, type_alike}

-- ---- natures that are declared

with_nature_before : (name reference : Name) (b : Book) → HasNoFaults (with_nature name reference b).notes → HasNoFaults b.notes
with_nature_before name reference b h =
    let next : Book = record b { natures = b.natures + 1 } in
    declared_before (thing.Nature b.natures) name next (declared_before (thing.Terminal terminal.Reference b.natures) reference (declared (thing.Nature b.natures) name next) h)

nature_part_before : (name reference : Name) (p : Part Bool) (b : Book) → HasNoFaults (nature_of_part name reference p b).notes → HasNoFaults b.notes
nature_part_before name reference (Kept fine) b h = with_nature_before name reference b h
nature_part_before name reference Wrong b h = declared_before thing.Faulty name b (declared_before thing.Faulty reference (faulty name b) h)
nature_part_before name reference Hidden b h = declared_before thing.Faulty name b (declared_before thing.Faulty reference (faulty name b) h)

pub nature_before : (place : Place) (name across through reference : Name) (b : Book) → HasNoFaults (nature place name across through reference b).notes → HasNoFaults b.notes
nature_before place name across through reference b h =
    let a = found_thing across (lookup b.scope across.number) b.notes in
    let c = found_thing through (lookup b.scope through.number) a.0 in
    let made = both new_nature a.1 c.1 in
    found_before across (lookup b.scope across.number) b.notes
    (found_before through (lookup b.scope through.number) a.0
    (closed_before Bool place made c.0 (nature_part_before name reference made (with_notes (closed place made c.0) b) h)))

module _ (natures : List ℕ) (name reference : Name) where
  module _ (c i : Book) (h : AlikeBooks natures c i) (number : ℕ) where
    abbrev more : List ℕ
    more = natures ++ number ∷ []

    abbrev new : Book
    new = record c { natures = c.natures + 1 }

    long : length more ≡ length natures + 1
    long = length-append natures (number ∷ [])

    newest : c.natures < length more
    newest = subst (λ (k : ℕ). k < length more) h.count (subst (λ (k : ℕ). length natures < k) (sym long) (omega arith))

    numbered : number ≡ at_instance more c.natures
    numbered = subst (λ (k : ℕ). number ≡ get_or more k 0) h.count (sym (get_or-append_seam natures number [] 0))

    -- with the new nature counted
    counted : AlikeBooks more new (record i { natures = i.natures + 1 })
    counted = record { scopes = scopes_more natures number c.scope i.scope h.scopes h.some; count = long ∙ ap (λ (k : ℕ). k + 1) h.count; some = subst (λ (k : ℕ). 0 < k) (sym long) (omega arith); told = h.told }

    uncounted : AlikeBooks more new i
    uncounted = record { scopes = scopes_more natures number c.scope i.scope h.scopes h.some; count = long ∙ ap (λ (k : ℕ). k + 1) h.count; some = subst (λ (k : ℕ). 0 < k) (sym long) (omega arith); told = h.told }

  abbrev next : Book → Book
  next b = record b { natures = b.natures + 1 }

  with_nature_alike : (c i : Book) → HasNoFaults (with_nature name reference c).notes → AlikeBooks natures c i
      → AlikeBooks (natures ++ i.natures ∷ []) (with_nature name reference c) (with_nature name reference i)
  with_nature_alike c i n h =
      let all = natures ++ i.natures ∷ [] in
      declared_alike all (thing.Terminal terminal.Reference c.natures) (thing.Terminal terminal.Reference i.natures) reference (declared (thing.Nature c.natures) name (next c)) (declared (thing.Nature i.natures) name (next i))
      (terminal_alike all terminal.Reference terminal.Reference c.natures i.natures (newest c i h i.natures) (numbered c i h i.natures)) n
      (declared_alike all (thing.Nature c.natures) (thing.Nature i.natures) name (next c) (next i) (nature_alike all c.natures i.natures (newest c i h i.natures) (numbered c i h i.natures))
      (declared_before (thing.Terminal terminal.Reference c.natures) reference (declared (thing.Nature c.natures) name (next c)) n) (counted c i h i.natures))

  without_nature_alike : (c i : Book) → HasNoFaults (with_nature name reference c).notes → AlikeBooks natures c i
      → AlikeBooks (natures ++ 0 ∷ []) (with_nature name reference c) (faulty reference (faulty name i))
  without_nature_alike c i n h =
      let all = natures ++ 0 ∷ [] in
      declared_alike all (thing.Terminal terminal.Reference c.natures) thing.Faulty reference (declared (thing.Nature c.natures) name (next c)) (faulty name i)
      (broken_alike all (thing.Terminal terminal.Reference c.natures) refl refl (newest c i h 0) tt) n
      (declared_alike all (thing.Nature c.natures) thing.Faulty name (next c) i (broken_alike all (thing.Nature c.natures) refl refl tt (newest c i h 0))
      (declared_before (thing.Terminal terminal.Reference c.natures) reference (declared (thing.Nature c.natures) name (next c)) n) (uncounted c i h 0))

  nature_part_alike : (p q : Part Bool) (c i : Book) → IsKept p → HasNoFaults (nature_of_part name reference p c).notes → AlikeBooks natures c i
      → AlikeBehind natures (nature_of_part name reference p c) (nature_of_part name reference q i)
  nature_part_alike (Kept a) (Kept b) c i there n h = record { more = i.natures ∷ []; books = with_nature_alike c i n h }
  nature_part_alike (Kept a) Wrong c i there n h = record { more = 0 ∷ []; books = without_nature_alike c i n h }
  nature_part_alike (Kept a) Hidden c i there n h = record { more = 0 ∷ []; books = without_nature_alike c i n h }
  nature_part_alike Wrong q c i there n h = absurd there
  nature_part_alike Hidden q c i there n h = absurd there

shown_new : (a b : Thing) → IsShown (new_nature a b)
shown_new a b = shown_where Bool _ true

pub nature_declared : (natures : List ℕ) (place : Place) (name across through reference : Name) (c i : Book) → HasNoFaults (nature place name across through reference c).notes → AlikeBooks natures c i
    → AlikeBehind natures (nature place name across through reference c) (nature place name across through reference i)
nature_declared natures place name across through reference c i n h =
    let a = found_thing across (lookup c.scope across.number) c.notes in
    let b = found_thing through (lookup c.scope through.number) a.0 in
    let d = found_thing across (lookup i.scope across.number) i.notes in
    let e = found_thing through (lookup i.scope through.number) d.0 in
    let made = both new_nature a.1 b.1 in
    let other = both new_nature d.1 e.1 in
    let first : Reads (Part Thing) (Part Thing) IsShown c.notes a i.notes d = found_reads natures across (lookup c.scope across.number) (lookup i.scope across.number) c.notes i.notes (h.scopes.seen across.number) in
    let second : Reads (Part Thing) (Part Thing) IsShown a.0 b d.0 e = found_reads natures through (lookup c.scope through.number) (lookup i.scope through.number) a.0 d.0 (h.scopes.seen through.number) in
    let closing : HasNoFaults (closed place made b.0) = nature_part_before name reference made (with_notes (closed place made b.0) c) n in
    let on : HasNoFaults b.0 = closed_before Bool place made b.0 closing in
    let there : IsKept made =
    kept_closed Bool place made b.0 (λ g. shown_both Thing Thing Bool new_nature a.1 b.1 shown_new (first.right (second.notes.before g)) (second.right g)) closing in
    nature_part_alike natures name reference made other (with_notes (closed place made b.0) c) (with_notes (closed place other e.0) i) there n
    (noted_books natures c i (closed place made b.0) (closed place other e.0) h (told_closed Bool place other e.0 (second.notes.told on (first.notes.told (second.notes.before on) h.told))))

-- ---- enumeration types

module _ (natures : List ℕ) where
  literals_alike : (k l p : ℕ) (names : List Name) (c i : Book) → HasNoFaults (literals_from k p names c).notes → AlikeBooks natures c i
      → AlikeBooks natures (literals_from k p names c) (literals_from l p names i)
  literals_alike k l p [] c i n h = h
  literals_alike k l p (x ∷ more) c i n h =
      literals_alike k l (p + 1) more (declared (thing.Literal (val.Enum k p)) x c) (declared (thing.Literal (val.Enum l p)) x i) n
      (declared_alike natures (thing.Literal (val.Enum k p)) (thing.Literal (val.Enum l p)) x c i (literal_alike natures k p l p) (literals_before k (p + 1) more (declared (thing.Literal (val.Enum k p)) x c) n) h)

  literals_broken : (k p : ℕ) (names : List Name) (c i : Book) → HasNoFaults (literals_from k p names c).notes → AlikeBooks natures c i
      → AlikeBooks natures (literals_from k p names c) (each faulty names i)
  literals_broken k p [] c i n h = h
  literals_broken k p (x ∷ more) c i n h =
      literals_broken k (p + 1) more (declared (thing.Literal (val.Enum k p)) x c) (faulty x i) n
      (declared_alike natures (thing.Literal (val.Enum k p)) thing.Faulty x c i (broken_alike natures (thing.Literal (val.Enum k p)) refl refl tt tt)
      (literals_before k (p + 1) more (declared (thing.Literal (val.Enum k p)) x c) n) h)

module _ (texts : List (List ℕ)) (place : Place) (name : Name) (literals : List Name) where
  abbrev fine : Book → Book
  fine b = literals_from (length b.objects.enumerations) 0 literals (declared (thing.Type (of_enumeration (length b.objects.enumerations)) None) name (with_enumeration texts literals b))

  abbrev broken : Book → Book
  broken b = each faulty literals (faulty name (with_notes (noted place WrongType b.notes) b))

  never_broken : (b : Book) → HasNoFaults (broken b).notes → ⊥
  never_broken b h =
      let start : Book = with_notes (noted place WrongType b.notes) b in
      no_fault place WrongType b.notes (declared_before thing.Faulty name start (each_before faulty (declared_before thing.Faulty) literals (faulty name start) h))

  pub enumeration_before : (b : Book) → HasNoFaults (enumeration texts place name literals b).notes → HasNoFaults b.notes
  enumeration_before b h = go (is_enumeration texts literals b) h
    where
      go : (x : Bool) → HasNoFaults (if x then fine b else broken b).notes → HasNoFaults b.notes
      go true h =
          let type = length b.objects.enumerations in
          declared_before (thing.Type (of_enumeration type) None) name (with_enumeration texts literals b)
          (literals_before type 0 literals (declared (thing.Type (of_enumeration type) None) name (with_enumeration texts literals b)) h)
      go false h = absurd (never_broken b h)

  module _ (natures : List ℕ) (c i : Book) (h : AlikeBooks natures c i) where
    abbrev typed : Book → Book
    typed b = declared (thing.Type (of_enumeration (length b.objects.enumerations)) None) name (with_enumeration texts literals b)

    type_clean : HasNoFaults (fine c).notes → HasNoFaults (typed c).notes
    type_clean n = literals_before (length c.objects.enumerations) 0 literals (typed c) n

    both_fine : HasNoFaults (fine c).notes → AlikeBooks natures (fine c) (fine i)
    both_fine n =
        literals_alike natures (length c.objects.enumerations) (length i.objects.enumerations) 0 literals (typed c) (typed i) n
        (declared_alike natures (thing.Type (of_enumeration (length c.objects.enumerations)) None) (thing.Type (of_enumeration (length i.objects.enumerations)) None) name
        (with_enumeration texts literals c) (with_enumeration texts literals i) (type_alike natures (of_enumeration (length c.objects.enumerations)) (of_enumeration (length i.objects.enumerations))) (type_clean n)
        (with_books natures c i _ _ h))

    one_broken : HasNoFaults (fine c).notes → AlikeBooks natures (fine c) (broken i)
    one_broken n =
        let start : Book = with_notes (noted place WrongType i.notes) i in
        literals_broken natures (length c.objects.enumerations) 0 literals (typed c) (faulty name start) n
        (declared_alike natures (thing.Type (of_enumeration (length c.objects.enumerations)) None) thing.Faulty name (with_enumeration texts literals c) start
        (broken_alike natures (thing.Type (of_enumeration (length c.objects.enumerations)) None) refl refl tt tt) (type_clean n)
        (record { scopes = h.scopes; count = h.count; some = h.some; told = told_noted place i.notes h.told }))

    pub enumeration_alike : HasNoFaults (enumeration texts place name literals c).notes → AlikeBooks natures (enumeration texts place name literals c) (enumeration texts place name literals i)
    enumeration_alike n = go (is_enumeration texts literals c) (is_enumeration texts literals i) n
      where
        go : (x y : Bool) → HasNoFaults (if x then fine c else broken c).notes → AlikeBooks natures (if x then fine c else broken c) (if y then fine i else broken i)
        go true true n = both_fine n
        go true false n = one_broken n
        go false y n = absurd (never_broken c n)
