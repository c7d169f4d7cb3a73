-- What a declaration adds to the names, and to the enumeration types.
use Rattle.std.proofs.Common.{◌≡◌, ◌<◌, ◌≤◌, ◌+◌, ℕ, ℤ, pos, Bool, true, false, if◌then◌else◌, List, [], ◌∷◌, ◌++◌, length, length-append, Option, Some, None, IfSome, refl, arith}
use Rattle.std.specs.Prelude.{nat_lt}
use Rattle.std.proofs.lemmas.Bool.Decides.{nat_tests}
use Rattle.ams_token.specs.declared.token.Place.{Place}
use Rattle.ams_tree.specs.declared.concurrent.Concurrent.{Concurrent}
use Rattle.ams_tree.specs.declared.declaration.Declaration.{Declaration}
use Rattle.ams_tree.specs.declared.declaration.Declaration.TheVariants as declare
use Rattle.ams_tree.specs.declared.declaration.SubtypeIndication.{SubtypeIndication}
use Rattle.ams_tree.specs.declared.design.Architecture.{Architecture}
use Rattle.ams_tree.specs.declared.expression.Expr.{Expr}
use Rattle.ams_tree.specs.declared.expression.Name.{Name}
use Rattle.ams_value.specs.declared.val.Val.{Val}
use Rattle.ams_value.specs.declared.val.Val.TheVariants as val
use Rattle.ams_value.specs.Types.{type_of}
use Rattle.flat_design.specs.declared.objects.Objects.{Objects}
use Rattle.ams_value.specs.declared.value_type.ValueType.TheVariants as t
use Rattle.flat_design.specs.declared.objects.QuantityKind.{QuantityKind}
use Rattle.flat_design.specs.declared.objects.QuantityKind.TheVariants as flat
use Rattle.flat_design.specs.declared.objects.Terminal.{Terminal}
use Rattle.flat_design.specs.declared.objects.Terminal.TheVariants as terminal
use Rattle.name_scope.specs.declared.scope.Scope.{Scope}
use Rattle.name_scope.specs.declared.thing.Access.{Access}
use Rattle.name_scope.specs.declared.thing.Access.TheVariants.{Assignable}
use Rattle.name_scope.specs.declared.thing.Kind.{Kind}
use Rattle.name_scope.specs.declared.thing.Kind.TheVariants.{Of, Vector}
use Rattle.name_scope.specs.declared.thing.QuantityClass.{QuantityClass}
use Rattle.name_scope.specs.declared.thing.QuantityClass.TheVariants as class
use Rattle.name_scope.specs.declared.thing.Subtype.{Subtype}
use Rattle.name_scope.specs.declared.thing.Thing.{Thing}
use Rattle.name_scope.specs.declared.thing.Thing.TheVariants as thing
use Rattle.name_scope.specs.Scopes.{lookup}
use Rattle.elab_meaning.specs.declared.book.Book.{Book}
use Rattle.elab_meaning.specs.declared.fault.Cause.TheVariants.{WrongType}
use Rattle.elab_meaning.specs.declared.fault.Notes.{Notes}
use Rattle.elab_meaning.specs.declared.part.Part.{Part}
use Rattle.elab_meaning.specs.declared.part.Part.TheVariants.{Kept, Wrong, Hidden}
use Rattle.elab_meaning.specs.declared.typed.Valued.{Valued}
use Rattle.elab_meaning.specs.Notes.{noted}
use Rattle.elab_meaning.specs.Parts.{both, closed, found_thing}
use Rattle.elab_meaning.specs.Subtypes.{subtype, valued}
use Rattle.elab_meaning.specs.Declarations.{declared, with_notes, with_objects, each, faulty, each_of, declaring_each, path_of, with_signal, signal_of, constant_of, constant, nature_named, node, new_nature, nature_of_part, nature, with_quantity, quantity_of, free_quantity, across_of, through_of, names_of, branch, branch_quantities, is_enumeration, with_enumeration, literals_from, of_enumeration, enumeration, type_of_subtype, declaration, declarations}
use Rattle.unit_meaning.specs.Units.{label, labels, opened}
use Rattle.scope_laws.proofs.Names.{named_holds}
use Rattle.declared_type_laws.specs.Types.{is_declared, has_declared, TypeKeeps, NamesHaveDeclared, BookHasDeclared}
use Rattle.declared_type_laws.proofs.Subtypes.{OnPart, any_on, subtype_fine, valued_fine}

abbrev pub count : Book → ℕ
count b = length b.objects.enumerations

-- ---- subtypes

type_keeps : (n : ℕ) (o : Option Thing) → IfSome o (λ y. has_declared n y ≡ true) → IfSome o (TypeKeeps (is_declared n))
type_keeps n (Some (thing.Type s f)) h = h
type_keeps n (Some _) h = tt
type_keeps n None h = tt

abbrev pub FineAt : ℕ → Valued → Type 0
FineAt n v = is_declared n v.subtype.kind ≡ true

module _ (n : ℕ) (texts : List (List ℕ)) (scope : Scope) (names : NamesHaveDeclared n scope) where
  pub subtype_declared : (i : SubtypeIndication) (m : Notes) → OnPart Subtype (λ s. is_declared n s.kind ≡ true) (subtype texts scope i m).1
  subtype_declared i m = subtype_fine (is_declared n) (λ k. refl) refl texts scope (λ y. type_keeps n (lookup scope y) (names y)) i m

  pub valued_declared : (i : SubtypeIndication) (x : Option Expr) (m : Notes) → OnPart Valued (FineAt n) (valued texts scope i x m).1
  valued_declared i x m = valued_fine (is_declared n) (λ k. refl) refl texts scope (λ y. type_keeps n (lookup scope y) (names y)) i x m

-- ---- more types

is_less : (a b : ℕ) → nat_lt a b ≡ true → a < b
is_less a b h = grind (arith, nat_tests)

less_is : (a b : ℕ) → a < b → nat_lt a b ≡ true
less_is a b h = grind (arith, nat_tests)

less_on : (k m n : ℕ) → m ≤ n → nat_lt k m ≡ true → nat_lt k n ≡ true
less_on k m n h g = let less : k < m = is_less k m g in less_is k n (omega arith)

pub kind_on : (m n : ℕ) → m ≤ n → (k : Kind) → is_declared m k ≡ true → is_declared n k ≡ true
kind_on m n h (Of (t.Enumeration i)) g = less_on i m n h g
kind_on m n h (Of t.Boolean) g = refl
kind_on m n h (Of t.Bit) g = refl
kind_on m n h (Of t.Integer) g = refl
kind_on m n h (Of t.Real) g = refl
kind_on m n h (Of t.Time) g = refl
kind_on m n h (Of (t.BitVector i)) g = refl
kind_on m n h Vector g = refl

literal_on : (m n : ℕ) → m ≤ n → (v : Val) → is_declared m (Of (type_of v)) ≡ true → is_declared n (Of (type_of v)) ≡ true
literal_on m n h v g = kind_on m n h (Of (type_of v)) g

thing_on : (m n : ℕ) → m ≤ n → (x : Thing) → has_declared m x ≡ true → has_declared n x ≡ true
thing_on m n h (thing.Type s f) g = kind_on m n h s.kind g
thing_on m n h (thing.Constant s v) g = kind_on m n h s.kind g
thing_on m n h (thing.Literal v) g = literal_on m n h v g
thing_on m n h (thing.Signal i s a) g = kind_on m n h s.kind g
thing_on m n h (thing.Variable i s) g = kind_on m n h s.kind g
thing_on m n h _ g = refl

-- ---- books

-- there are as many types as before, or more, and names stay right
pub record Goes (old new : Book) : Type 0 where
  pub grows : count old ≤ count new
  pub keeps : BookHasDeclared old → BookHasDeclared new

-- so where C holds of the types before
abbrev pub GoesIf : (ℕ → Type 0) → Book → Book → Type 0
GoesIf C old new = C (count old) → Goes old new

-- what holds of some types holds of more
abbrev pub Stays : (ℕ → Type 0) → Type 0
Stays C = (m n : ℕ) → m ≤ n → C m → C n

pub goes_same : (b : Book) → Goes b b
goes_same b = record { grows = omega arith; keeps = λ h. h }

pub goes_on : (a b c : Book) → Goes a b → Goes b c → Goes a c
goes_on a b c p q =
    let first : count a ≤ count b = p.grows in
    let second : count b ≤ count c = q.grows in
    record { grows = omega arith; keeps = λ h. q.keeps (p.keeps h) }

-- one more name
pub declared_goes : (x : Thing) (name : Name) (b : Book) → has_declared (count b) x ≡ true → Goes b (declared x name b)
declared_goes x name b h =
    record { grows = omega arith; keeps = λ names. named_holds (λ (y : Thing). has_declared (count b) y ≡ true) b.scope name.number x names h }

-- further objects, and no other name
pub objects_go : (o : Objects) (b : Book) → count b ≤ length o.enumerations → Goes b (record b { objects = o })
objects_go o b h = record { grows = h; keeps = λ names x. on (lookup b.scope x) (names x) }
  where
    on : (found : Option Thing) → IfSome found (λ y. has_declared (count b) y ≡ true) → IfSome found (λ y. has_declared (length o.enumerations) y ≡ true)
    on None g = tt
    on (Some y) g = thing_on (count b) (length o.enumerations) h y g

-- behind other objects with as many types
behind_objects : (o : Objects) (b behind : Book) → count b ≡ length o.enumerations → Goes (record b { objects = o }) behind → Goes b behind
behind_objects o b behind same h = goes_on b (record b { objects = o }) behind (objects_go o b (omega arith)) h

pub notes_go : (n : Notes) (b : Book) → Goes b (with_notes n b)
notes_go n b = record { grows = omega arith; keeps = λ h. h }

pub faulty_goes : (x : Name) (b : Book) → Goes b (faulty x b)
faulty_goes x b = declared_goes thing.Faulty x b refl

-- ---- several names

each_goes : (C : ℕ → Type 0) → Stays C → (rule : Name → Book → Book) → ((x : Name) (b : Book) → GoesIf C b (rule x b)) → (names : List Name) (b : Book) → GoesIf C b (each rule names b)
each_goes C stays rule h [] b c = goes_same b
each_goes C stays rule h (x ∷ more) b c =
    let first : Goes b (rule x b) = h x b c in
    goes_on b (rule x b) (each rule more (rule x b)) first (each_goes C stays rule h more (rule x b) (stays (count b) (count (rule x b)) first.grows c))

abbrev Always : ℕ → Type 0
Always n = Unit {0}

pub all_faulty : (names : List Name) (b : Book) → Goes b (each faulty names b)
all_faulty names b = each_goes Always (λ m n h c. tt) faulty (λ x c u. faulty_goes x c) names b tt

-- a rule of what is kept; R may speak of the types so far
pub each_of_goes : (A : Type 0) (R : ℕ → A → Type 0) → ((a : A) → Stays (λ n. R n a)) → (rule : A → Name → Book → Book) → ((a : A) (x : Name) (b : Book) → R (count b) a → Goes b (rule a x b))
    → (p : Part A) (names : List Name) (b : Book) → OnPart A (R (count b)) p → Goes b (each_of rule p names b)
each_of_goes A R stays rule h (Kept a) names b c = each_goes (λ n. R n a) (stays a) (rule a) (λ x now u. h a x now u) names b c
each_of_goes A R stays rule h Wrong names b c = all_faulty names b
each_of_goes A R stays rule h Hidden names b c = all_faulty names b

pub declaring_goes : (A : Type 0) (R : ℕ → A → Type 0) → ((a : A) → Stays (λ n. R n a)) → (rule : A → Name → Book → Book) → ((a : A) (x : Name) (b : Book) → R (count b) a → Goes b (rule a x b))
    → (place : Place) (names : List Name) (found : Notes × Part A) (b : Book) → OnPart A (R (count b)) found.1 → Goes b (declaring_each rule place names found b)
declaring_goes A R stays rule h place names found b c =
    let start = with_notes (closed place found.1 found.0) b in
    goes_on b start (each_of rule found.1 names start) (notes_go (closed place found.1 found.0) b) (each_of_goes A R stays rule h found.1 names start c)

-- what asks for nothing
pub simply_goes : (A : Type 0) (rule : A → Name → Book → Book) → ((a : A) (x : Name) (b : Book) → Goes b (rule a x b)) → (place : Place) (names : List Name) (found : Notes × Part A) (b : Book)
    → Goes b (declaring_each rule place names found b)
simply_goes A rule h place names found b = declaring_goes A (λ n a. Unit {0}) (λ a m n g c. tt) rule (λ a x now u. h a x now) place names found b (any_on A found.1)

-- ---- kinds of declarations

pub fine_stays : (v : Valued) → Stays (λ n. FineAt n v)
fine_stays v m n h g = kind_on m n h v.subtype.kind g

pub signal_goes : (texts : List (List ℕ)) (access : Access) (v : Valued) (x : Name) (b : Book) → FineAt (count b) v → Goes b (signal_of texts access v x b)
signal_goes texts access v x b h =
    behind_objects (with_signal texts v x b).objects b (signal_of texts access v x b) refl (declared_goes (thing.Signal (length b.objects.signals) v.subtype access) x (with_signal texts v x b) h)

pub constant_goes : (v : Valued) (x : Name) (b : Book) → FineAt (count b) v → Goes b (constant v x b)
constant_goes v x b h = declared_goes (constant_of v) x b h

type_goes : (s : Subtype) (x : Name) (b : Book) → is_declared (count b) s.kind ≡ true → Goes b (type_of_subtype s x b)
type_goes s x b h = declared_goes (thing.Type s None) x b h

node_goes : (texts : List (List ℕ)) (m : ℕ) (x : Name) (b : Book) → Goes b (node texts m x b)
node_goes texts m x b =
    let o = record b.objects { nodes = b.objects.nodes ++ record { path = path_of texts x b } ∷ [] } in
    behind_objects o b (node texts m x b) refl (declared_goes (thing.Terminal (terminal.Node (length b.objects.nodes)) m) x (with_objects o b) refl)

pub quantity_goes : (texts : List (List ℕ)) (k : QuantityKind) (c : QuantityClass) (initial : ℤ) (x : Name) (b : Book) → Goes b (quantity_of texts k c initial x b)
quantity_goes texts k c initial x b =
    let mid = with_quantity texts k initial x b in
    behind_objects mid.objects b (quantity_of texts k c initial x b) refl (declared_goes (thing.Quantity (length b.objects.quantities) c) x mid refl)

branch_goes : (texts : List (List ℕ)) (place : Place) (across through : List Name) (found : Notes × Part (Terminal × Terminal)) (b : Book) → Goes b (branch_quantities texts place across through found b)
branch_goes texts place across through found b =
    let mid = declaring_each (across_of texts) place across found b in
    goes_on b mid (each_of (through_of texts) found.1 through mid)
    (simply_goes (Terminal × Terminal) (across_of texts) (λ ends x now. quantity_goes texts (flat.Across ends.0 ends.1) class.Across (pos 0) x now) place across found b)
    (each_of_goes (Terminal × Terminal) (λ n a. Unit {0}) (λ a m n g c. tt) (through_of texts) (λ ends x now u. quantity_goes texts (flat.Through ends.0 ends.1) class.Through (pos 0) x now) found.1
    through mid (any_on (Terminal × Terminal) found.1))

-- ---- natures

nature_part_goes : (name reference : Name) (p : Part Bool) (b : Book) → Goes b (nature_of_part name reference p b)
nature_part_goes name reference (Kept fine) b =
    let start = record b { natures = b.natures + 1 } in
    let mid = declared (thing.Nature b.natures) name start in
    goes_on b mid (declared (thing.Terminal terminal.Reference b.natures) reference mid) (goes_on b start mid (record { grows = omega arith; keeps = λ h. h }) (declared_goes (thing.Nature b.natures) name start refl))
    (declared_goes (thing.Terminal terminal.Reference b.natures) reference mid refl)
nature_part_goes name reference Wrong b = goes_on b (faulty name b) (faulty reference (faulty name b)) (faulty_goes name b) (faulty_goes reference (faulty name b))
nature_part_goes name reference Hidden b = goes_on b (faulty name b) (faulty reference (faulty name b)) (faulty_goes name b) (faulty_goes reference (faulty name b))

nature_goes : (place : Place) (name across through reference : Name) (b : Book) → Goes b (nature place name across through reference b)
nature_goes place name across through reference b =
    let a = found_thing across (lookup b.scope across.number) b.notes in
    let c = found_thing through (lookup b.scope through.number) a.0 in
    let made = both new_nature a.1 c.1 in
    let start = with_notes (closed place made c.0) b in
    goes_on b start (nature_of_part name reference made start) (notes_go (closed place made c.0) b) (nature_part_goes name reference made start)

-- ---- enumeration types

literals_go : (type position : ℕ) (names : List Name) (b : Book) → type < count b → Goes b (literals_from type position names b)
literals_go type position [] b h = goes_same b
literals_go type position (x ∷ more) b h =
    let mid = declared (thing.Literal (val.Enum type position)) x b in
    goes_on b mid (literals_from type (position + 1) more mid) (declared_goes (thing.Literal (val.Enum type position)) x b (less_is type (count b) h)) (literals_go type (position + 1) more mid h)

type_is_new : (texts : List (List ℕ)) (name : Name) (literals : List Name) (b : Book)
    → Goes b (literals_from (count b) 0 literals (declared (thing.Type (of_enumeration (count b)) None) name (with_enumeration texts literals b)))
type_is_new texts name literals b =
    let mid = with_enumeration texts literals b in
    let one : count mid ≡ count b + 1 = length-append b.objects.enumerations _ in
    let less : count b < count mid = omega arith in
    let named = declared (thing.Type (of_enumeration (count b)) None) name mid in
    goes_on b mid (literals_from (count b) 0 literals named) (objects_go mid.objects b (omega arith))
    (goes_on mid named (literals_from (count b) 0 literals named) (declared_goes (thing.Type (of_enumeration (count b)) None) name mid (less_is (count b) (count mid) less)) (literals_go (count b) 0 literals named less))

enumeration_goes : (texts : List (List ℕ)) (place : Place) (name : Name) (literals : List Name) (b : Book) → Goes b (enumeration texts place name literals b)
enumeration_goes texts place name literals b = go (is_enumeration texts literals b)
  where
    go : (c : Bool)
        → Goes b
        (if c
        then literals_from (length b.objects.enumerations) 0 literals (declared (thing.Type (of_enumeration (length b.objects.enumerations)) None) name (with_enumeration texts literals b))
        else each faulty literals (faulty name (with_notes (noted place WrongType b.notes) b)))
    go true = type_is_new texts name literals b
    go false =
        let start = with_notes (noted place WrongType b.notes) b in
        goes_on b start (each faulty literals (faulty name start)) (notes_go (noted place WrongType b.notes) b)
        (goes_on start (faulty name start) (each faulty literals (faulty name start)) (faulty_goes name start) (all_faulty literals (faulty name start)))

-- ---- declarations, one by one

module _ (texts : List (List ℕ)) where
  -- names that are right before stay right behind
  abbrev pub Stay : Book → Book → Type 0
  Stay old new = BookHasDeclared old → Goes old new

  one_goes : (d : Declaration) (b : Book) → Stay b (declaration texts b d)
  one_goes (declare.Signal place names i x) b h =
      declaring_goes Valued FineAt fine_stays (signal_of texts Assignable) (signal_goes texts Assignable) place names (valued texts b.scope i x b.notes) b (valued_declared (count b) texts b.scope h i x b.notes)
  one_goes (declare.Constant place names i x) b h =
      declaring_goes Valued FineAt fine_stays constant constant_goes place names (valued texts b.scope i (Some x) b.notes) b (valued_declared (count b) texts b.scope h i (Some x) b.notes)
  one_goes (declare.Terminal place names m) b h = simply_goes ℕ (node texts) (node_goes texts) place names (nature_named m b) b
  one_goes (declare.Quantity place names i x) b h =
      simply_goes ℤ (quantity_of texts flat.Free class.Free) (quantity_goes texts flat.Free class.Free) place names (free_quantity texts i x b) b
  one_goes (declare.Across place across through plus minus) b h = branch_goes texts place across (names_of through) (branch plus minus b) b
  one_goes (declare.Through place through plus minus) b h = branch_goes texts place [] through (branch plus minus b) b
  one_goes (declare.Nature place name across through reference) b h = nature_goes place name across through reference b
  one_goes (declare.Enumeration place name literals) b h = enumeration_goes texts place name literals b
  one_goes (declare.Subtype place name i) b h =
      declaring_goes Subtype (λ n s. is_declared n s.kind ≡ true) (λ s m n g c. kind_on m n g s.kind c) type_of_subtype type_goes place (name ∷ []) (subtype texts b.scope i b.notes) b
      (subtype_declared (count b) texts b.scope h i b.notes)

  pub all_declared : (ds : List Declaration) (b : Book) → BookHasDeclared b → BookHasDeclared (declarations texts ds b)
  all_declared [] b h = h
  all_declared (d ∷ more) b h = all_declared more (declaration texts b d) ((one_goes d b h).keeps h)

  labels_declared : (cs : List Concurrent) (b : Book) → BookHasDeclared b → BookHasDeclared (labels cs b)
  labels_declared [] b h = h
  labels_declared (c ∷ more) b h = labels_declared more (label b c) ((named c.label b).keeps h)
    where
      named : (o : Option Name) (b : Book) → Goes b (elim o as (λ o. Book) [ Some x ↦ declared thing.Label x b | None ↦ b ])
      named (Some x) b = declared_goes thing.Label x b refl
      named None b = goes_same b

  pub body_declared : (a : Architecture) (b : Book) → BookHasDeclared b → BookHasDeclared (opened texts a b)
  body_declared a b h = labels_declared a.statements (declarations texts a.declarations b) (all_declared a.declarations b h)
