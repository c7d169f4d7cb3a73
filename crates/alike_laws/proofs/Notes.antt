-- Notes of two readings.
use Rattle.std.proofs.Common.{◌≡◌, Bool, true, false, if◌then◌else◌, List, [], ◌∷◌, ◌++◌, refl, sym, ap, subst, ◌∙◌}
use Rattle.std.specs.Prelude.{◌&&◌}
use Rattle.std.proofs.lemmas.List.Folds.{list_all-append}
use Rattle.ams_token.specs.declared.token.Place.{Place}
use Rattle.elab_meaning.specs.declared.fault.Cause.{Cause}
use Rattle.elab_meaning.specs.declared.fault.Cause.TheVariants.{WrongType, NotStatic}
use Rattle.elab_meaning.specs.declared.fault.Fault.{Fault}
use Rattle.elab_meaning.specs.declared.fault.Notes.{Notes}
use Rattle.elab_meaning.specs.declared.typed.Context.{Context}
use Rattle.elab_meaning.specs.Notes.{noted, changing}
use Rattle.alike_laws.specs.Alike.{HasNoFaults, is_told, OnlyTold, FollowsIn, Reads}

not_empty : (A : Type 0) (xs : List A) (x : A) → xs ++ x ∷ [] ≡ [] → ⊥
not_empty A [] x h = cc
not_empty A (y ∷ xs) x h = cc

pub no_fault : (place : Place) (cause : Cause) (n : Notes) → HasNoFaults (noted place cause n) → ⊥
no_fault place cause n h = not_empty Fault n.faults (record { place = place; cause = cause }) h

pub told_noted : (place : Place) (n : Notes) → OnlyTold n → OnlyTold (noted place WrongType n)
told_noted place n h = list_all-append is_told n.faults (record { place = place; cause = WrongType } ∷ []) ∙ ap (λ (b : Bool). b && true) h

-- ---- names that change

pub changing_still : (k : Context) (place : Place) (n : Notes) → HasNoFaults (changing k place n) → k.is_static ≡ false
changing_still k place n h = go k.is_static h
  where
    go : (b : Bool) → HasNoFaults (if b then noted place NotStatic n else n) → b ≡ false
    go true h = absurd (no_fault place NotStatic n h)
    go false h = refl

pub changing_before : (k : Context) (place : Place) (n : Notes) → HasNoFaults (changing k place n) → HasNoFaults n
changing_before k place n h = go k.is_static h
  where
    go : (b : Bool) → HasNoFaults (if b then noted place NotStatic n else n) → HasNoFaults n
    go true h = absurd (no_fault place NotStatic n h)
    go false h = h

pub changing_told : (k : Context) (place : Place) (n : Notes) → k.is_static ≡ false → OnlyTold n → OnlyTold (changing k place n)
changing_told k place n is h = subst (λ (b : Bool). OnlyTold (if b then noted place NotStatic n else n)) (sym is) h

-- ---- two readings

pub follows_same : (c i : Notes) → FollowsIn c c i i
follows_same c i = record { before = λ h. h; told = λ h k. k }

pub follows_on : (c d e i j k : Notes) → FollowsIn c d i j → FollowsIn d e j k → FollowsIn c e i k
follows_on c d e i j k p q = record { before = λ h. p.before (q.before h); told = λ h g. q.told h (p.told (q.before h) g) }

module _ (A B : Type 0) (K : A → Type 0) (c : Notes) (d : Notes × A) (i : Notes) (j : Notes × B) where
  pub reads_of : (HasNoFaults d.0 → HasNoFaults c × K d.1) → (HasNoFaults d.0 → OnlyTold i → OnlyTold j.0) → Reads A B K c d i j
  reads_of p q = record { notes = record { before = λ h. (p h).0; told = q }; right = λ h. (p h).1 }

  pub reads_never : (HasNoFaults d.0 → ⊥) → Reads A B K c d i j
  reads_never h = record { notes = record { before = λ g. absurd (h g); told = λ g k. absurd (h g) }; right = λ g. absurd (h g) }

  -- a step behind a reading
  pub reads_then : (A' B' : Type 0) (L : A' → Type 0) (e : Notes × A') (k : Notes × B') → Reads A B K c d i j
      → (HasNoFaults e.0 → HasNoFaults d.0 × (K d.1 → L e.1)) → (HasNoFaults e.0 → OnlyTold j.0 → OnlyTold k.0) → Reads A' B' L c e i k
  reads_then A' B' L e k r p q =
      record {
        notes = record { before = λ h. r.notes.before (p h).0; told = λ h g. q h (r.notes.told (p h).0 g) };
        right = λ h. (p h).1 (r.right (p h).0);
      }
