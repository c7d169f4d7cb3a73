-- Names that are declared without a fault, and the quantities that they make.
use Rattle.std.proofs.Common.{◌≡◌, ℕ, ◌+◌, Bool, true, false, List, [], ◌∷◌, ◌++◌, length, Option, Some, None, IfSome, refl, sym, ap, subst, ◌∙◌, arith}
use Rattle.ams_token.specs.declared.token.Place.{Place}
use Rattle.ams_tree.specs.declared.expression.Name.{Name}
use Rattle.flat_design.specs.declared.objects.Objects.{Objects}
use Rattle.name_scope.specs.declared.thing.Thing.{Thing}
use Rattle.name_scope.specs.declared.thing.Thing.TheVariants as thing
use Rattle.name_scope.specs.declared.scope.Scope.{Scope}
use Rattle.name_scope.specs.Scopes.{lookup, declared_in, with_name}
use Rattle.elab_meaning.specs.declared.book.Book.{Book}
use Rattle.elab_meaning.specs.declared.fault.Cause.TheVariants.{Duplicate}
use Rattle.elab_meaning.specs.declared.fault.Notes.{Notes}
use Rattle.elab_meaning.specs.declared.part.Part.{Part}
use Rattle.elab_meaning.specs.declared.part.Part.TheVariants.{Kept, Wrong, Hidden}
use Rattle.elab_meaning.specs.Parts.{closed}
use Rattle.elab_meaning.specs.Declarations.{duplicate, declared, with_notes, each, faulty, each_of, declaring_each}
use Rattle.scope_laws.proofs.Names.{named_holds}
use Rattle.kept_laws.specs.Kept.{IsFaultless, NamesAreFaultless}
use Rattle.tally_laws.specs.Tally.{quantity_sum}
use Rattle.made_count_laws.proofs.Parts.{NoFaults, before_noted, IsKept, closed_before, closed_kept, Reads}

abbrev pub Before : Book → Book → Type 0
Before b new = NoFaults new.notes → NoFaults b.notes

-- where C and no rule is broken, the names stay sound and so many quantities are counted
pub record Makes (C : Type 0) (k : ℕ) (b new : Book) : Type 0 where
  pub before : Before b new
  pub right : C → NoFaults new.notes → NamesAreFaultless b.scope → NamesAreFaultless new.scope
  pub counted : C → NoFaults new.notes → NamesAreFaultless b.scope → quantity_sum new.objects.quantities ≡ quantity_sum b.objects.quantities + k

pub makes_none : (C : Type 0) (b : Book) → Makes C 0 b b
makes_none C b = record { before = λ f. f; right = λ c f s. s; counted = λ c f s. omega arith }

pub makes_on : (C : Type 0) (j k : ℕ) (a b c : Book) → Makes C j a b → Makes C k b c → Makes C (j + k) a c
makes_on C j k a b c p q =
    record {
      before = λ f. p.before (q.before f);
      right = λ x f s. q.right x f (p.right x (q.before f) s);
      counted = λ x f s.
          let one = p.counted x (q.before f) s in
          let two = q.counted x f (p.right x (q.before f) s) in
          omega (arith, one, two);
    }

pub makes_as : (C : Type 0) (j k : ℕ) (a b : Book) → j ≡ k → Makes C j a b → Makes C k a b
makes_as C j k a b e p = subst (λ (n : ℕ). Makes C n a b) e p

pub makes_if : (C D : Type 0) (k : ℕ) (a b : Book) → (D → C) → Makes C k a b → Makes D k a b
makes_if C D k a b g p = record { before = p.before; right = λ d. p.right (g d); counted = λ d. p.counted (g d) }

-- ---- single names

duplicate_before : (x : Name) (o : Option Thing) (n : Notes) → NoFaults (duplicate x o n) → NoFaults n
duplicate_before x None n f = f
duplicate_before x (Some t) n f = before_noted x.place (Duplicate x.number) n f

pub declared_before : (t : Thing) (x : Name) (b : Book) → Before b (declared t x b)
declared_before t x b f = duplicate_before x (declared_in b.scope.inner x.number) b.notes f

pub makes_declared : (C : Type 0) (t : Thing) (x : Name) (b : Book) → (C → IsFaultless t) → Makes C 0 b (declared t x b)
makes_declared C t x b h =
    record {
      before = λ f. declared_before t x b f;
      right = λ c f s. named_holds IsFaultless b.scope x.number t s (h c);
      counted = λ c f s. omega arith;
    }

-- further objects of so many quantities that are counted, and no new names
pub makes_objects : (C : Type 0) (k : ℕ) (o : Objects) (b : Book) → quantity_sum o.quantities ≡ quantity_sum b.objects.quantities + k → Makes C k b (record b { objects = o })
makes_objects C k o b e = record { before = λ f. f; right = λ c f s. s; counted = λ c f s. e }

pub makes_notes : (C : Type 0) (n : Notes) (b : Book) → (NoFaults n → NoFaults b.notes) → Makes C 0 b (with_notes n b)
makes_notes C n b h = record { before = h; right = λ c f s. s; counted = λ c f s. omega arith }

-- ---- several names

abbrev pub total : ℕ → List Name → ℕ
total k [] = 0
total k (x ∷ more) = k + total k more

pub total_one : (names : List Name) → total 1 names ≡ length names
total_one [] = refl
total_one (x ∷ more) = let rest = total_one more in omega (arith, rest)

pub total_none : (names : List Name) → total 0 names ≡ 0
total_none [] = refl
total_none (x ∷ more) = let rest = total_none more in omega (arith, rest)

pub each_makes : (C : Type 0) (k : ℕ) (rule : Name → Book → Book) → ((x : Name) (b : Book) → Makes C k b (rule x b)) → (names : List Name) (b : Book) → Makes C (total k names) b (each rule names b)
each_makes C k rule h [] b = makes_none C b
each_makes C k rule h (x ∷ more) b = makes_on C k (total k more) b (rule x b) (each rule more (rule x b)) (h x b) (each_makes C k rule h more (rule x b))

pub each_before : (rule : Name → Book → Book) → ((x : Name) (b : Book) → Before b (rule x b)) → (names : List Name) (b : Book) → Before b (each rule names b)
each_before rule h [] b f = f
each_before rule h (x ∷ more) b f = h x b (each_before rule h more (rule x b) f)

pub faulty_before : (names : List Name) (b : Book) → Before b (each faulty names b)
faulty_before names b f = each_before faulty (λ x c g. declared_before thing.Faulty x c g) names b f

module _ (k : ℕ) (A : Type 0) (rule : A → Name → Book → Book) (h : (a : A) (x : Name) (b : Book) → Makes (Unit {0}) k b (rule a x b)) where
  pub each_of_before : (p : Part A) (names : List Name) (b : Book) → Before b (each_of rule p names b)
  each_of_before (Kept a) names b f = each_before (rule a) (λ x c g. (h a x c).before g) names b f
  each_of_before Wrong names b f = faulty_before names b f
  each_of_before Hidden names b f = faulty_before names b f

  pub each_of_makes : (p : Part A) (names : List Name) (b : Book) → Makes (IsKept p) (total k names) b (each_of rule p names b)
  each_of_makes (Kept a) names b = each_makes (Unit {0}) k (rule a) (h a) names b
  each_of_makes Wrong names b = record { before = λ f. faulty_before names b f; right = λ c f s. absurd c; counted = λ c f s. absurd c }
  each_of_makes Hidden names b = record { before = λ f. faulty_before names b f; right = λ c f s. absurd c; counted = λ c f s. absurd c }

-- what is made behind a part that is read without a fault
pub behind_part : (C A : Type 0) (k : ℕ) (place : Place) (found : Notes × Part A) (b new : Book) → Reads (NamesAreFaultless b.scope) A b.notes found
    → Makes (C × IsKept found.1) k (with_notes (closed place found.1 found.0) b) new → Makes C k b new
behind_part C A k place found b new r m =
    record {
      before = λ f. r.before (closed_before A place found.1 found.0 (m.before f));
      right = λ c f s. let start = m.before f in m.right (c, closed_kept A place found.1 found.0 start (r.shown s (closed_before A place found.1 found.0 start))) f s;
      counted = λ c f s. let start = m.before f in m.counted (c, closed_kept A place found.1 found.0 start (r.shown s (closed_before A place found.1 found.0 start))) f s;
    }

pub part_kept : (A : Type 0) (place : Place) (found : Notes × Part A) (b new : Book) → Reads (NamesAreFaultless b.scope) A b.notes found
    → Before (with_notes (closed place found.1 found.0) b) new → NoFaults new.notes → NamesAreFaultless b.scope → IsKept found.1
part_kept A place found b new r m f s = let start = m f in closed_kept A place found.1 found.0 start (r.shown s (closed_before A place found.1 found.0 start))

pub declaring_makes : (k : ℕ) (A : Type 0) (rule : A → Name → Book → Book) → ((a : A) (x : Name) (b : Book) → Makes (Unit {0}) k b (rule a x b)) → (place : Place) (names : List Name) (found : Notes × Part A) (b : Book)
    → Reads (NamesAreFaultless b.scope) A b.notes found → Makes (Unit {0}) (total k names) b (declaring_each rule place names found b)
declaring_makes k A rule h place names found b r =
    let start = with_notes (closed place found.1 found.0) b in
    behind_part (Unit {0}) A (total k names) place found b (declaring_each rule place names found b) r
    (makes_if (IsKept found.1) (Unit {0} × IsKept found.1) (total k names) start (declaring_each rule place names found b) (λ p. p.1) (each_of_makes k A rule h found.1 names start))
