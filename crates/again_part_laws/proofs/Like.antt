-- Parts of one form, and readings that find such.
use Rattle.std.proofs.Common.{◌≡◌, Bool, true, false, List, [], ◌∷◌, refl, ap, subst}
use Rattle.ams_token.specs.declared.token.Place.{Place}
use Rattle.elab_meaning.specs.declared.fault.Cause.TheVariants.{WrongType}
use Rattle.elab_meaning.specs.declared.fault.Notes.{Notes}
use Rattle.elab_meaning.specs.declared.part.Part.{Part}
use Rattle.elab_meaning.specs.declared.part.Part.TheVariants.{Kept, Wrong, Hidden}
use Rattle.elab_meaning.specs.Parts.{where_true, judged, both, closed}
use Rattle.unit_meaning.specs.Settings.{ahead, listed, sealed, finished}
use Rattle.again_laws.specs.Again.{BreaksAlike}
use Rattle.again_laws.proofs.Breaks.{breaks_same, breaks_noted, breaks_on}

-- both kept, with such members, or both wrong, or both hidden
abbrev pub PartLike : (A : Type 0) → (A → A → Type 0) → Part A → Part A → Type 0
PartLike A R (Kept a) (Kept b) = R a b
PartLike A R Wrong Wrong = Unit {0}
PartLike A R Hidden Hidden = Unit {0}
PartLike A R _ _ = ⊥

-- whatever they are, and the same ones
abbrev pub Any : (A : Type 0) → A → A → Type 0
Any A a b = Unit {0}

abbrev pub Same : (A : Type 0) → A → A → Type 0
Same A a b = a ≡ b

abbrev pub Formed : (A : Type 0) → Part A → Part A → Type 0
Formed A p q = PartLike A (Any A) p q

pub like_self : (A : Type 0) (R : A → A → Type 0) → ((a : A) → R a a) → (p : Part A) → PartLike A R p p
like_self A R each (Kept a) = each a
like_self A R each Wrong = tt
like_self A R each Hidden = tt

pub like_equal : (A : Type 0) (R : A → A → Type 0) → ((a : A) → R a a) → (p q : Part A) → p ≡ q → PartLike A R p q
like_equal A R each p q e = subst (λ (z : Part A). PartLike A R p z) e (like_self A R each p)

pub equal_like : (A : Type 0) (p q : Part A) → PartLike A (Same A) p q → p ≡ q
equal_like A (Kept a) (Kept b) h = ap Kept h
equal_like A Wrong Wrong h = refl
equal_like A Hidden Hidden h = refl
equal_like A (Kept a) Wrong h = absurd h
equal_like A (Kept a) Hidden h = absurd h
equal_like A Wrong (Kept b) h = absurd h
equal_like A Wrong Hidden h = absurd h
equal_like A Hidden (Kept b) h = absurd h
equal_like A Hidden Wrong h = absurd h

pub judged_like : (A C : Type 0) (R : A → A → Type 0) (T : C → C → Type 0) (f g : A → Part C) → ((a b : A) → R a b → PartLike C T (f a) (g b))
    → (p q : Part A) → PartLike A R p q → PartLike C T (judged f p) (judged g q)
judged_like A C R T f g each (Kept a) (Kept b) h = each a b h
judged_like A C R T f g each Wrong Wrong h = tt
judged_like A C R T f g each Hidden Hidden h = tt
judged_like A C R T f g each (Kept a) Wrong h = absurd h
judged_like A C R T f g each (Kept a) Hidden h = absurd h
judged_like A C R T f g each Wrong (Kept b) h = absurd h
judged_like A C R T f g each Wrong Hidden h = absurd h
judged_like A C R T f g each Hidden (Kept b) h = absurd h
judged_like A C R T f g each Hidden Wrong h = absurd h

wrong_like : (A B C : Type 0) (S : B → B → Type 0) (T : C → C → Type 0) (f g : A → B → Part C) (r s : Part B) → PartLike B S r s → PartLike C T (both f Wrong r) (both g Wrong s)
wrong_like A B C S T f g (Kept a) (Kept b) h = tt
wrong_like A B C S T f g Wrong Wrong h = tt
wrong_like A B C S T f g Hidden Hidden h = tt
wrong_like A B C S T f g (Kept a) Wrong h = absurd h
wrong_like A B C S T f g (Kept a) Hidden h = absurd h
wrong_like A B C S T f g Wrong (Kept b) h = absurd h
wrong_like A B C S T f g Wrong Hidden h = absurd h
wrong_like A B C S T f g Hidden (Kept b) h = absurd h
wrong_like A B C S T f g Hidden Wrong h = absurd h

pub both_like : (A B C : Type 0) (R : A → A → Type 0) (S : B → B → Type 0) (T : C → C → Type 0) (f g : A → B → Part C)
    → ((a c : A) (b d : B) → R a c → S b d → PartLike C T (f a b) (g c d)) → (p q : Part A) (r s : Part B) → PartLike A R p q → PartLike B S r s → PartLike C T (both f p r) (both g q s)
both_like A B C R S T f g each (Kept a) (Kept c) r s h k = judged_like B C S T (f a) (g c) (λ b d l. each a c b d h l) r s k
both_like A B C R S T f g each Wrong Wrong r s h k = wrong_like A B C S T f g r s k
both_like A B C R S T f g each Hidden Hidden r s h k = tt
both_like A B C R S T f g each (Kept a) Wrong r s h k = absurd h
both_like A B C R S T f g each (Kept a) Hidden r s h k = absurd h
both_like A B C R S T f g each Wrong (Kept b) r s h k = absurd h
both_like A B C R S T f g each Wrong Hidden r s h k = absurd h
both_like A B C R S T f g each Hidden (Kept b) r s h k = absurd h
both_like A B C R S T f g each Hidden Wrong r s h k = absurd h

pub formed_where : (A : Type 0) (b : Bool) (x y : A) → Formed A (where_true b x) (where_true b y)
formed_where A true x y = tt
formed_where A false x y = tt

pub sealed_like : (A : Type 0) (R : A → A → Type 0) (p q : Part A) → PartLike A R p q → PartLike A R (sealed p) (sealed q)
sealed_like A R (Kept a) (Kept b) h = h
sealed_like A R Wrong Wrong h = tt
sealed_like A R Hidden Hidden h = tt
sealed_like A R (Kept a) Wrong h = absurd h
sealed_like A R (Kept a) Hidden h = absurd h
sealed_like A R Wrong (Kept b) h = absurd h
sealed_like A R Wrong Hidden h = absurd h
sealed_like A R Hidden (Kept b) h = absurd h
sealed_like A R Hidden Wrong h = absurd h

pub breaks_closed : (A : Type 0) (R : A → A → Type 0) (place : Place) (p q : Part A) → PartLike A R p q → (n m : Notes) → BreaksAlike n m (closed place p n) (closed place q m)
breaks_closed A R place (Kept a) (Kept b) h n m = breaks_same n m
breaks_closed A R place Wrong Wrong h n m = breaks_noted place WrongType n m
breaks_closed A R place Hidden Hidden h n m = breaks_same n m
breaks_closed A R place (Kept a) Wrong h n m = absurd h
breaks_closed A R place (Kept a) Hidden h n m = absurd h
breaks_closed A R place Wrong (Kept b) h n m = absurd h
breaks_closed A R place Wrong Hidden h n m = absurd h
breaks_closed A R place Hidden (Kept b) h n m = absurd h
breaks_closed A R place Hidden Wrong h n m = absurd h

-- ---- readings

pub record ReadsAs (A : Type 0) (R : A → A → Type 0) (n m : Notes) (f g : Notes × Part A) : Type 0 where
  pub breaks : BreaksAlike n m f.0 g.0
  pub like : PartLike A R f.1 g.1

pub finished_as : (A : Type 0) (R : A → A → Type 0) (place : Place) (n m : Notes) (f g : Notes × Part A) → ReadsAs A R n m f g → ReadsAs A R n m (finished place f) (finished place g)
finished_as A R place n m f g h =
    record {
      breaks = breaks_on n m f.0 g.0 (closed place f.1 f.0) (closed place g.1 g.0) h.breaks (breaks_closed A R place f.1 g.1 h.like f.0 g.0);
      like = sealed_like A R f.1 g.1 h.like;
    }

pub listed_as : (A B : Type 0) (R : A → A → Type 0) (f g : B → Notes → Notes × Part A) → ((x : B) (n m : Notes) → ReadsAs A R n m (f x n) (g x m))
    → (all : List B) (n m : Notes) → ReadsAs (List A) (Any (List A)) n m (listed f all n) (listed g all m)
listed_as A B R f g each [] n m = record { breaks = breaks_same n m; like = tt }
listed_as A B R f g each (x ∷ more) n m =
    let first = f x n in
    let other = g x m in
    let one : ReadsAs A R n m first other = each x n m in
    let rest : ReadsAs (List A) (Any (List A)) first.0 other.0 (listed f more first.0) (listed g more other.0) = listed_as A B R f g each more first.0 other.0 in
    record {
      breaks = breaks_on n m first.0 other.0 (listed f more first.0).0 (listed g more other.0).0 one.breaks rest.breaks;
      like =
          both_like A (List A) (List A) R (Any (List A)) (Any (List A)) ahead ahead (λ a c b d h k. tt) first.1 other.1 (listed f more first.0).1 (listed g more other.0).1 one.like rest.like;
    }
