-- Where no rule is broken behind a declaration none is broken before it, in any scope.
use Rattle.std.proofs.Common.{◌≡◌, ℕ, Bool, true, false, if◌then◌else◌, List, [], ◌∷◌, ◌++◌, Option, Some, None, refl, sym, ◌∙◌}
use Rattle.std.specs.Prelude.{nat_eq, ◌+◌}
use Rattle.ams_token.specs.declared.token.Place.{Place}
use Rattle.ams_tree.specs.declared.expression.Name.{Name}
use Rattle.ams_tree.specs.declared.expression.Expr.{Expr}
use Rattle.ams_tree.specs.declared.declaration.Bounds.{Bounds}
use Rattle.ams_tree.specs.declared.declaration.Range.{Range}
use Rattle.ams_tree.specs.declared.declaration.SubtypeIndication.{SubtypeIndication}
use Rattle.ams_value.specs.declared.val.Val.TheVariants as val
use Rattle.flat_design.specs.declared.objects.Terminal.{Terminal}
use Rattle.name_scope.specs.declared.scope.Scope.{Scope}
use Rattle.name_scope.specs.declared.thing.Subtype.{Subtype}
use Rattle.name_scope.specs.declared.thing.Thing.{Thing}
use Rattle.name_scope.specs.declared.thing.Thing.TheVariants as thing
use Rattle.name_scope.specs.Scopes.{declared_in, lookup}
use Rattle.elab_meaning.specs.declared.book.Book.{Book}
use Rattle.elab_meaning.specs.declared.fault.Cause.TheVariants.{Unknown, Duplicate, WrongType, NatureMismatch}
use Rattle.elab_meaning.specs.declared.fault.Fault.{Fault}
use Rattle.elab_meaning.specs.declared.fault.Notes.{Notes}
use Rattle.elab_meaning.specs.declared.part.Part.{Part}
use Rattle.elab_meaning.specs.declared.part.Part.TheVariants.{Kept, Wrong, Hidden}
use Rattle.elab_meaning.specs.declared.typed.Typed.{Typed}
use Rattle.elab_meaning.specs.declared.typed.StaticValue.{StaticValue}
use Rattle.elab_meaning.specs.declared.typed.StaticValue.TheVariants.{Known, Faulty, Later, Changing}
use Rattle.elab_meaning.specs.Notes.{noted}
use Rattle.elab_meaning.specs.Parts.{judged, both, closed, found_thing}
use Rattle.elab_meaning.specs.Expressions.{asked_value, asked, expression, static_in}
use Rattle.elab_meaning.specs.Subtypes.{declaring, static_part, index_subtype, marked, in_bounds, subtype, initial, valued}
use Rattle.elab_meaning.specs.Declarations.{duplicate, declared, with_notes, each, faulty, each_of, declaring_each, free_of, free_value, free_quantity, terminal_named, matched_ends, branch, literals_from}
use Rattle.reading_laws.specs.Growing.{Grows}
use Rattle.reading_laws.proofs.Reading.{reading_adds_notes}
use Rattle.alike_laws.specs.Alike.{HasNoFaults}
use Rattle.alike_laws.proofs.Notes.{no_fault}

front_empty : (A : Type 0) (xs ys : List A) → xs ++ ys ≡ [] → xs ≡ []
front_empty A [] ys h = refl
front_empty A (x ∷ xs) ys h = absurd (cc)

grown_before : (a b : Notes) → Grows a b → HasNoFaults b → HasNoFaults a
grown_before a b g h = front_empty Fault a.faults g.faults.more (sym g.faults.whole ∙ h)

-- ---- parts

value_before : (place : Place) (t : Typed) (v : StaticValue) (n : Notes) → HasNoFaults (asked_value place t.kind v n).0 → HasNoFaults n
value_before place t (Known v) n h = h
value_before place t Faulty n h = absurd (no_fault place WrongType n h)
value_before place t Later n h = h
value_before place t Changing n h = h

asked_before : (o : Option Typed) (n : Notes) → HasNoFaults (asked o n).0 → HasNoFaults n
asked_before (Some t) n h = value_before t.place t t.value n h
asked_before None n h = h

static_before : (texts : List (List ℕ)) (scope : Scope) (x : Expr) (n : Notes) → HasNoFaults (static_part texts scope x n).0 → HasNoFaults n
static_before texts scope x n h =
    let found = expression texts scope x (static_in declaring) n in
    grown_before n found.0 (reading_adds_notes texts scope x (static_in declaring) n) (asked_before found.1 found.0 h)

pub found_before : (x : Name) (o : Option Thing) (n : Notes) → HasNoFaults (found_thing x o n).0 → HasNoFaults n
found_before x None n h = absurd (no_fault x.place (Unknown x.number) n h)
found_before x (Some thing.Faulty) n h = h
found_before x (Some _) n h = h

index_before : (texts : List (List ℕ)) (scope : Scope) (r : Option Range) (n : Notes) → HasNoFaults (index_subtype texts scope r n).0 → HasNoFaults n
index_before texts scope None n h = h
index_before texts scope (Some r) n h = static_before texts scope r.left n (static_before texts scope r.right (static_part texts scope r.left n).0 h)

bounds_before : (texts : List (List ℕ)) (scope : Scope) (r : Option Bounds) (s : Part Subtype) (n : Notes) → HasNoFaults (in_bounds texts scope r s n).0 → HasNoFaults n
bounds_before texts scope None s n h = h
bounds_before texts scope (Some r) s n h = static_before texts scope r.low n (static_before texts scope r.high (static_part texts scope r.low n).0 h)

pub subtype_before : (texts : List (List ℕ)) (scope : Scope) (i : SubtypeIndication) (n : Notes) → HasNoFaults (subtype texts scope i n).0 → HasNoFaults n
subtype_before texts scope i n h =
    let mark = found_thing i.mark (lookup scope i.mark.number) n in
    let index = index_subtype texts scope i.index mark.0 in
    found_before i.mark (lookup scope i.mark.number) n
    (index_before texts scope i.index mark.0 (bounds_before texts scope i.bounds (both marked mark.1 index.1) index.0 h))

initial_before : (texts : List (List ℕ)) (scope : Scope) (s : Part Subtype) (x : Option Expr) (n : Notes) → HasNoFaults (initial texts scope s x n).0 → HasNoFaults n
initial_before texts scope s None n h = h
initial_before texts scope s (Some x) n h = static_before texts scope x n h

pub valued_before : (texts : List (List ℕ)) (scope : Scope) (i : SubtypeIndication) (x : Option Expr) (n : Notes) → HasNoFaults (valued texts scope i x n).0 → HasNoFaults n
valued_before texts scope i x n h =
    let s = subtype texts scope i n in
    subtype_before texts scope i n (initial_before texts scope s.1 x s.0 h)

free_before : (texts : List (List ℕ)) (scope : Scope) (s : Part Subtype) (x : Option Expr) (n : Notes) → HasNoFaults (free_value texts scope s x n).0 → HasNoFaults n
free_before texts scope s None n h = h
free_before texts scope s (Some x) n h = initial_before texts scope s (Some x) n h

pub quantity_before : (texts : List (List ℕ)) (i : SubtypeIndication) (x : Option Expr) (b : Book) → HasNoFaults (free_quantity texts i x b).0 → HasNoFaults b.notes
quantity_before texts i x b h =
    let s = subtype texts b.scope i b.notes in
    subtype_before texts b.scope i b.notes (free_before texts b.scope (judged free_of s.1) x s.0 h)

matched_before : (place : Place) (b : Bool) (n : Notes) → HasNoFaults (if b then n else noted place NatureMismatch n) → HasNoFaults n
matched_before place true n h = h
matched_before place false n h = absurd (no_fault place NatureMismatch n h)

ends_before : (place : Place) (p m : Part (Terminal × ℕ)) (n : Notes) → HasNoFaults (matched_ends place p m n) → HasNoFaults n
ends_before place (Kept p) (Kept m) n h = matched_before place (nat_eq p.1 m.1) n h
ends_before place (Kept p) Wrong n h = h
ends_before place (Kept p) Hidden n h = h
ends_before place Wrong m n h = h
ends_before place Hidden m n h = h

pub branch_before : (plus : Name) (minus : Option Name) (b : Book) → HasNoFaults (branch plus minus b).0 → HasNoFaults b.notes
branch_before plus None b h = found_before plus (lookup b.scope plus.number) b.notes h
branch_before plus (Some minus) b h =
    let p = terminal_named plus b b.notes in
    let m = terminal_named minus b p.0 in
    found_before plus (lookup b.scope plus.number) b.notes (found_before minus (lookup b.scope minus.number) p.0 (ends_before minus.place p.1 m.1 m.0 h))

pub closed_before : (A : Type 0) (place : Place) (p : Part A) (n : Notes) → HasNoFaults (closed place p n) → HasNoFaults n
closed_before A place (Kept a) n h = h
closed_before A place Wrong n h = absurd (no_fault place WrongType n h)
closed_before A place Hidden n h = h

-- ---- names

abbrev pub RuleBefore : (Name → Book → Book) → Type 0
RuleBefore rule = (x : Name) (b : Book) → HasNoFaults (rule x b).notes → HasNoFaults b.notes

duplicate_before : (x : Name) (o : Option Thing) (n : Notes) → HasNoFaults (duplicate x o n) → HasNoFaults n
duplicate_before x None n h = h
duplicate_before x (Some t) n h = absurd (no_fault x.place (Duplicate x.number) n h)

pub declared_before : (t : Thing) → RuleBefore (declared t)
declared_before t x b h = duplicate_before x (declared_in b.scope.inner x.number) b.notes h

pub each_before : (rule : Name → Book → Book) → RuleBefore rule → (names : List Name) (b : Book) → HasNoFaults (each rule names b).notes → HasNoFaults b.notes
each_before rule r [] b h = h
each_before rule r (x ∷ more) b h = r x b (each_before rule r more (rule x b) h)

module _ (A : Type 0) (rule : A → Name → Book → Book) (r : (a : A) → RuleBefore (rule a)) where
  pub each_of_before : (p : Part A) (names : List Name) (b : Book) → HasNoFaults (each_of rule p names b).notes → HasNoFaults b.notes
  each_of_before (Kept a) names b h = each_before (rule a) (r a) names b h
  each_of_before Wrong names b h = each_before faulty (declared_before thing.Faulty) names b h
  each_of_before Hidden names b h = each_before faulty (declared_before thing.Faulty) names b h

  pub declaring_before : (place : Place) (names : List Name) (found : Notes × Part A) (b : Book) → HasNoFaults (declaring_each rule place names found b).notes → HasNoFaults found.0
  declaring_before place names found b h = closed_before A place found.1 found.0 (each_of_before found.1 names (with_notes (closed place found.1 found.0) b) h)

pub literals_before : (type position : ℕ) (names : List Name) (b : Book) → HasNoFaults (literals_from type position names b).notes → HasNoFaults b.notes
literals_before type position [] b h = h
literals_before type position (x ∷ more) b h =
    declared_before (thing.Literal (val.Enum type position)) x b (literals_before type (position + 1) more (declared (thing.Literal (val.Enum type position)) x b) h)
