-- Names that are declared, and which of them a port of mode out may stand for.
use Rattle.std.proofs.Common.{◌≡◌, ◌≤◌, ℕ, ◌+◌, nat_eq, Bool, true, false, ◌||◌, List, [], ◌∷◌, ◌++◌, length, Option, Some, None, IfSome, refl, sym, ap, ◌∙◌, subst, arith, length-append, append_assoc, append-nil}
use Rattle.std.specs.List.{list_any}
use Rattle.std.proofs.lemmas.Bool.Decides.{nat_tests}
use Rattle.ams_token.specs.declared.token.Place.{Place}
use Rattle.ams_tree.specs.declared.expression.Name.{Name}
use Rattle.name_scope.specs.declared.thing.Thing.{Thing}
use Rattle.name_scope.specs.declared.thing.Thing.TheVariants as thing
use Rattle.name_scope.specs.declared.scope.Scope.{Scope}
use Rattle.name_scope.specs.Scopes.{lookup, with_name}
use Rattle.elab_meaning.specs.declared.book.Book.{Book}
use Rattle.elab_meaning.specs.declared.fault.Notes.{Notes}
use Rattle.elab_meaning.specs.declared.part.Part.{Part}
use Rattle.elab_meaning.specs.declared.part.Part.TheVariants.{Kept, Wrong, Hidden}
use Rattle.elab_meaning.specs.Parts.{closed}
use Rattle.elab_meaning.specs.Declarations.{declared, with_notes, each, faulty, each_of, declaring_each}
use Rattle.scope_laws.proofs.Names.{named_holds}
use Rattle.source_laws.specs.Sources.{IsAmong, SourcesAre, AtMostMore}

-- ---- lists

one_is : (a b : Bool) → b ≡ true → (a || b) ≡ true
one_is true b h = refl
one_is false b h = h

first_is : (q : ℕ) (b : Bool) → (nat_eq q q || b) ≡ true
first_is q b = grind (arith, nat_tests)

pub in_more : (q : ℕ) (all more : List ℕ) → list_any (nat_eq q) all ≡ true → list_any (nat_eq q) (all ++ more) ≡ true
in_more q [] more h = absurd (cc)
in_more q (x ∷ all) more h = go (nat_eq q x) h (λ k. in_more q all more k)
  where
    go : (b : Bool) → (b || list_any (nat_eq q) all) ≡ true → (list_any (nat_eq q) all ≡ true → list_any (nat_eq q) (all ++ more) ≡ true) → (b || list_any (nat_eq q) (all ++ more)) ≡ true
    go true k rest = refl
    go false k rest = rest k

pub in_last : (q : ℕ) (all : List ℕ) → list_any (nat_eq q) (all ++ q ∷ []) ≡ true
in_last q [] = first_is q false
in_last q (x ∷ all) = one_is (nat_eq q x) (list_any (nat_eq q) (all ++ q ∷ [])) (in_last q all)

-- ---- scopes

pub among_more : (all more : List ℕ) (t : Thing) → IsAmong all t → IsAmong (all ++ more) t
among_more all more (thing.Quantity q c) h = λ is. in_more q all more (h is)
among_more all more _ h = tt

some_more : (all more : List ℕ) (o : Option Thing) → IfSome o (IsAmong all) → IfSome o (IsAmong (all ++ more))
some_more all more (Some t) h = among_more all more t h
some_more all more None h = tt

pub sources_more : (all more : List ℕ) (scope : Scope) → SourcesAre all scope → SourcesAre (all ++ more) scope
sources_more all more scope h x = some_more all more (lookup scope x) (h x)

-- one more name
pub sources_named : (all : List ℕ) (scope : Scope) (x : ℕ) (t : Thing) → SourcesAre all scope → IsAmong all t → SourcesAre all (with_name scope x t)
sources_named all scope x t h g = named_holds (IsAmong all) scope x t h g

-- ---- books

-- one that declares at most so many more
abbrev pub Declares : ℕ → Book → Book → Type 0
Declares k b new = (all : List ℕ) → SourcesAre all b.scope → AtMostMore all k new.scope

pub declares_none : (b : Book) → Declares 0 b b
declares_none b all h = record { more = []; few = omega arith; are = sources_more all [] b.scope h }

pub declares_on : (j k : ℕ) (a b c : Book) → Declares j a b → Declares k b c → Declares (j + k) a c
declares_on j k a b c p q all h =
    let one = p all h in
    let two = q (all ++ one.more) one.are in
    record {
      more = one.more ++ two.more;
      few = omega (arith, one.few, two.few, length-append one.more two.more);
      are = subst (λ (l : List ℕ). SourcesAre l c.scope) (append_assoc all one.more two.more) two.are;
    }

pub declares_less : (j k : ℕ) (a b : Book) → j ≤ k → Declares j a b → Declares k a b
declares_less j k a b le p all h = let one = p all h in record { more = one.more; few = omega (arith, one.few); are = one.are }

-- a name that stands for something else
pub declares_other : (t : Thing) (x : Name) (b : Book) → ((all : List ℕ) → IsAmong all t) → Declares 0 b (declared t x b)
declares_other t x b g all h =
    record { more = []; few = omega arith; are = sources_more all [] (with_name b.scope x.number t) (sources_named all b.scope x.number t h (g all)) }

pub declares_faulty : (x : Name) (b : Book) → Declares 0 b (faulty x b)
declares_faulty x b = declares_other thing.Faulty x b (λ all. tt)

-- ---- several names

abbrev pub total : ℕ → List Name → ℕ
total k [] = 0
total k (x ∷ more) = k + total k more

pub total_one : (names : List Name) → total 1 names ≡ length names
total_one [] = refl
total_one (x ∷ more) = let rest = total_one more in omega (arith, rest)

pub total_none : (names : List Name) → total 0 names ≡ 0
total_none [] = refl
total_none (x ∷ more) = let rest = total_none more in omega (arith, rest)

pub each_declares : (k : ℕ) (rule : Name → Book → Book) → ((x : Name) (b : Book) → Declares k b (rule x b)) → (names : List Name) (b : Book) → Declares (total k names) b (each rule names b)
each_declares k rule h [] b = declares_none b
each_declares k rule h (x ∷ more) b = declares_on k (total k more) b (rule x b) (each rule more (rule x b)) (h x b) (each_declares k rule h more (rule x b))

all_faulty : (k : ℕ) (names : List Name) (b : Book) → Declares k b (each faulty names b)
all_faulty k names b = declares_less (total 0 names) k b (each faulty names b) (omega (arith, total_none names)) (each_declares 0 faulty declares_faulty names b)

module _ (k : ℕ) (A : Type 0) (rule : A → Name → Book → Book) (h : (a : A) (x : Name) (b : Book) → Declares k b (rule a x b)) where
  pub each_of_declares : (p : Part A) (names : List Name) (b : Book) → Declares (total k names) b (each_of rule p names b)
  each_of_declares (Kept a) names b = each_declares k (rule a) (h a) names b
  each_of_declares Wrong names b = all_faulty (total k names) names b
  each_of_declares Hidden names b = all_faulty (total k names) names b

  pub declaring_declares : (place : Place) (names : List Name) (found : Notes × Part A) (b : Book) → Declares (total k names) b (declaring_each rule place names found b)
  declaring_declares place names found b = each_of_declares found.1 names (with_notes (closed place found.1 found.0) b)
