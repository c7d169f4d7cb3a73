-- Names and notes of declarations.
use Rattle.std.proofs.Common.{◌≡◌, ◌<◌, ◌+◌, List, [], ◌∷◌, ◌++◌, length, length-append, map, append-nil, Option, Some, None, refl, sym, ap, ◌∙◌, arith}
use Rattle.std.specs.List.{slice_get}
use Rattle.ams_token.specs.declared.token.Place.{Place}
use Rattle.ams_tree.specs.declared.expression.Name.{Name}
use Rattle.flat_design.specs.declared.objects.Objects.{Objects}
use Rattle.name_scope.specs.declared.thing.Thing.{Thing}
use Rattle.name_scope.specs.declared.thing.Thing.TheVariants as thing
use Rattle.name_scope.specs.Scopes.{declared_in}
use Rattle.elab_meaning.specs.declared.book.Book.{Book}
use Rattle.elab_meaning.specs.declared.fault.Cause.TheVariants.{Duplicate, WrongType}
use Rattle.elab_meaning.specs.declared.fault.Notes.{Notes}
use Rattle.elab_meaning.specs.declared.part.Part.{Part}
use Rattle.elab_meaning.specs.declared.part.Part.TheVariants.{Kept, Wrong, Hidden}
use Rattle.elab_meaning.specs.Parts.{closed}
use Rattle.elab_meaning.specs.Declarations.{duplicate, declared, with_notes, each, faulty, each_of, declaring_each}
use Rattle.design_rules.specs.Types.{equation_scope}
use Rattle.reading_laws.specs.Growing.{Extends, Grows}
use Rattle.reading_laws.proofs.Growing.{grows_same, grows_on, grows_noted}
use Rattle.part_laws.specs.Parts.{OnKept}
use Rattle.scope_laws.specs.Holds.{HasNoFaults, StandsBefore}
use Rattle.scope_laws.specs.Laws.{ThingHolds}
use Rattle.scope_laws.proofs.Scopes.{scopes_hold, with_name_holds}
use Rattle.asked_laws.proofs.Notes.{faults_before}
use Rattle.declaration_laws.specs.Books.{BookHolds, LeavesRest, KeepsBook}

-- ---- lists

pub extends_same : (A : Type 0) (xs : List A) → Extends A xs xs
extends_same A xs = record { more = []; whole = sym (append-nil xs) }

pub extends_one : (A : Type 0) (xs : List A) (x : A) → Extends A xs (xs ++ x ∷ [])
extends_one A xs x = record { more = x ∷ []; whole = refl }

at_end : (A B : Type 0) (f : A → B) (xs : List A) (y : A) (more : List A) → slice_get (map f ((xs ++ y ∷ []) ++ more)) (length xs) ≡ Some (f y)
at_end A B f [] y more = refl
at_end A B f (x ∷ xs) y more = at_end A B f xs y more

-- the number that the last of a front has
pub last_at : (A B : Type 0) (f : A → B) (xs : List A) (y : A) (all : List A) → Extends A (xs ++ y ∷ []) all → slice_get (map f all) (length xs) ≡ Some (f y)
last_at A B f xs y all e = ap (λ (l : List A). slice_get (map f l) (length xs)) e.whole ∙ at_end A B f xs y e.more

pub last_below : (A : Type 0) (xs : List A) (y : A) (all : List A) → Extends A (xs ++ y ∷ []) all → length xs < length all
last_below A xs y all e =
    let whole : length all ≡ length ((xs ++ y ∷ []) ++ e.more) = ap length e.whole in
    let parts : length ((xs ++ y ∷ []) ++ e.more) ≡ length (xs ++ y ∷ []) + length e.more = length-append (xs ++ y ∷ []) e.more in
    let one : length (xs ++ y ∷ []) ≡ length xs + 1 = length-append xs (y ∷ []) in
    omega arith

-- ---- books

pub rest_same : (o : Objects) → LeavesRest o o
rest_same o = record { equations = refl; dots = refl; thresholds = refl; processes = refl; instances = refl; ramps = refl }

pub rest_on : (a b c : Objects) → LeavesRest a b → LeavesRest b c → LeavesRest a c
rest_on a b c p q =
    record {
      equations = q.equations ∙ p.equations;
      dots = q.dots ∙ p.dots;
      thresholds = q.thresholds ∙ p.thresholds;
      processes = q.processes ∙ p.processes;
      instances = q.instances ∙ p.instances;
      ramps = q.ramps ∙ p.ramps;
    }

module _ (final : Objects) where
  -- as KeepsBook, where C holds besides
  pub record Keeps (C : Type 0) (old new : Book) : Type 0 where
    pub grows : Grows old.notes new.notes
    pub stands : StandsBefore old.objects new.objects
    pub leaves : LeavesRest old.objects new.objects
    pub right : C → HasNoFaults new.notes → StandsBefore new.objects final → BookHolds final old → BookHolds final new

  pub keeps_same : (C : Type 0) (b : Book) → Keeps C b b
  keeps_same C b = record { grows = grows_same b.notes; stands = scopes_hold.same b.objects; leaves = rest_same b.objects; right = λ c f s h. h }

  pub keeps_on : (C : Type 0) (a b c : Book) → Keeps C a b → Keeps C b c → Keeps C a c
  keeps_on C a b c p q =
      record {
        grows = grows_on a.notes b.notes c.notes p.grows q.grows;
        stands = scopes_hold.on a.objects b.objects c.objects p.stands q.stands;
        leaves = rest_on a.objects b.objects c.objects p.leaves q.leaves;
        right = λ x f s h. q.right x f s (p.right x (faults_before b.notes c.notes q.grows f) (scopes_hold.on b.objects c.objects final q.stands s) h);
      }

  pub always : (C : Type 0) (a b : Book) → KeepsBook final a b → Keeps C a b
  always C a b k = record { grows = k.grows; stands = k.stands; leaves = k.leaves; right = λ c. k.right }

  pub given : (C : Type 0) (a b : Book) → Keeps C a b → C → KeepsBook final a b
  given C a b k c = record { grows = k.grows; stands = k.stands; leaves = k.leaves; right = k.right c }

  pub weaker : (C D : Type 0) (a b : Book) → (C → D) → Keeps D a b → Keeps C a b
  weaker C D a b g k = record { grows = k.grows; stands = k.stands; leaves = k.leaves; right = λ c. k.right (g c) }

  pub book_on : (a b c : Book) → KeepsBook final a b → KeepsBook final b c → KeepsBook final a c
  book_on a b c p q = given (Unit {0}) a c (keeps_on (Unit {0}) a b c (always (Unit {0}) a b p) (always (Unit {0}) b c q)) tt

  pub book_same : (b : Book) → KeepsBook final b b
  book_same b = given (Unit {0}) b b (keeps_same (Unit {0}) b) tt

  -- ---- names

  grows_duplicate : (x : Name) (o : Option Thing) (n : Notes) → Grows n (duplicate x o n)
  grows_duplicate x None n = grows_same n
  grows_duplicate x (Some t) n = grows_noted x.place (Duplicate x.number) n

  abbrev pub Holds : Thing → Type 0
  Holds t = ThingHolds (equation_scope final) [] [] t

  pub declared_keeps : (C : Type 0) (t : Thing) (x : Name) (b : Book) → (C → StandsBefore b.objects final → Holds t) → Keeps C b (declared t x b)
  declared_keeps C t x b thing =
      record {
        grows = grows_duplicate x (declared_in b.scope.inner x.number) b.notes;
        stands = scopes_hold.same b.objects;
        leaves = rest_same b.objects;
        right = λ c f s h. record { scope = with_name_holds (equation_scope final) [] [] b.scope x.number t h.scope (thing c s); objects = h.objects };
      }

  pub faulty_keeps : (x : Name) (b : Book) → KeepsBook final b (faulty x b)
  faulty_keeps x b = given (Unit {0}) b (faulty x b) (declared_keeps (Unit {0}) thing.Faulty x b (λ c s. record { fits = tt; also = tt })) tt

  pub notes_keep : (n : Notes) (b : Book) → Grows b.notes n → KeepsBook final b (with_notes n b)
  notes_keep n b g =
      record {
        grows = g;
        stands = scopes_hold.same b.objects;
        leaves = rest_same b.objects;
        right = λ f s h. record { scope = h.scope; objects = h.objects };
      }

  -- ---- several names

  pub each_keeps : (C : Type 0) (rule : Name → Book → Book) → ((x : Name) (b : Book) → Keeps C b (rule x b)) → (names : List Name) (b : Book) → Keeps C b (each rule names b)
  each_keeps C rule h [] b = keeps_same C b
  each_keeps C rule h (x ∷ more) b = keeps_on C b (rule x b) (each rule more (rule x b)) (h x b) (each_keeps C rule h more (rule x b))

  pub each_faulty : (names : List Name) (b : Book) → KeepsBook final b (each faulty names b)
  each_faulty names b = given (Unit {0}) b (each faulty names b) (each_keeps (Unit {0}) faulty (λ x c. always (Unit {0}) c (faulty x c) (faulty_keeps x c)) names b) tt

  pub each_of_keeps : (A : Type 0) (R : A → Type 0) (rule : A → Name → Book → Book) → ((a : A) (x : Name) (b : Book) → Keeps (R a) b (rule a x b))
      → (p : Part A) (names : List Name) (b : Book) → Keeps (OnKept R p) b (each_of rule p names b)
  each_of_keeps A R rule h (Kept a) names b = each_keeps (R a) (rule a) (h a) names b
  each_of_keeps A R rule h Wrong names b = always (Unit {0}) b (each faulty names b) (each_faulty names b)
  each_of_keeps A R rule h Hidden names b = always (Unit {0}) b (each faulty names b) (each_faulty names b)

  pub grows_closed : (A : Type 0) (place : Place) (p : Part A) (n : Notes) → Grows n (closed place p n)
  grows_closed A place (Kept a) n = grows_same n
  grows_closed A place Wrong n = grows_noted place WrongType n
  grows_closed A place Hidden n = grows_same n

  -- what is kept of the parts of a declaration is so, where no rule is broken
  abbrev pub PartRight : (A : Type 0) → (A → Type 0) → Notes × Part A → Book → Type 0
  PartRight A R found b = BookHolds final b → HasNoFaults found.0 → OnKept R found.1

  -- behind a part whose faults are noted at its place
  pub behind_part : (A : Type 0) (R : A → Type 0) (place : Place) (found : Notes × Part A) (b behind : Book) → Grows b.notes found.0 → PartRight A R found b
      → Keeps (OnKept R found.1) (with_notes (closed place found.1 found.0) b) behind → KeepsBook final b behind
  behind_part A R place found b behind g part rest =
      let here = closed place found.1 found.0 in
      let goes : Grows found.0 here = grows_closed A place found.1 found.0 in
      let first = notes_keep here b (grows_on b.notes found.0 here g goes) in
      record {
        grows = grows_on b.notes here behind.notes first.grows rest.grows;
        stands = rest.stands;
        leaves = rest.leaves;
        right = λ f s k.
            let before : HasNoFaults here = faults_before here behind.notes rest.grows f in
            rest.right (part k (faults_before found.0 here goes before)) f s (first.right before (scopes_hold.on b.objects behind.objects final rest.stands s) k);
      }

  pub declaring_keeps : (A : Type 0) (R : A → Type 0) (rule : A → Name → Book → Book) → ((a : A) (x : Name) (b : Book) → Keeps (R a) b (rule a x b))
      → (place : Place) (names : List Name) (found : Notes × Part A) (b : Book) → Grows b.notes found.0 → PartRight A R found b
      → KeepsBook final b (declaring_each rule place names found b)
  declaring_keeps A R rule h place names found b g part =
      let here = closed place found.1 found.0 in
      behind_part A R place found b (declaring_each rule place names found b) g part (each_of_keeps A R rule h found.1 names (with_notes here b))
