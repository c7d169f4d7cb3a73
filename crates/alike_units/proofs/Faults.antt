-- A fault is one that the check of types answers, or one that the check of natures does.
use Rattle.std.proofs.Common.{◌≡◌, ◌&&◌, Bool, true, false, if◌then◌else◌, List, [], ◌∷◌, Option, Some, None, refl, subst}
use Rattle.std.specs.List.{fold, list_all}
use Rattle.elab_meaning.specs.declared.fault.Cause.{Cause}
use Rattle.elab_meaning.specs.declared.fault.Cause.TheVariants.{NatureMismatch}
use Rattle.elab_meaning.specs.declared.fault.Fault.{Fault}
use Rattle.elab_meaning.specs.Notes.{is_before, if_told, first_fault, is_of_types, is_of_natures, is_of_instances}
use Rattle.alike_laws.specs.Alike.{is_told}

no_fault_is : (X : Type 0) (g : Fault) → Some g ≡ None → X
no_fault_is X g h = cc

module _ (tells : Cause → Bool) where
  still_some : (g : Fault) (f : Fault) → (h : Fault) × (if_told tells (Some g) f ≡ Some h)
  still_some g f = go (tells f.cause) (is_before f g)
    where
      go : (b c : Bool) → (h : Fault) × ((if b then (if c then Some f else Some g) else Some g) ≡ Some h)
      go true true = (f, refl)
      go true false = (g, refl)
      go false c = (g, refl)

  found : (X : Type 0) (g : Fault) (faults : List Fault) → fold (if_told tells) (Some g) faults ≡ None → X
  found X g [] h = no_fault_is X g h
  found X g (f ∷ more) h =
      let s = still_some g f in
      found X s.0 more (subst (λ (o : Option Fault). fold (if_told tells) o more ≡ None) s.1 h)

  -- where none is told the first isn't, nor is one of the others
  pub not_told : (f : Fault) (more : List Fault) → first_fault tells (f ∷ more) ≡ None → (tells f.cause ≡ false) × (first_fault tells more ≡ None)
  not_told f more h = go (tells f.cause) refl h
    where
      go : (b : Bool) → tells f.cause ≡ b → fold (if_told tells) (if b then Some f else None) more ≡ None → (tells f.cause ≡ false) × (first_fault tells more ≡ None)
      go true is h = found ((tells f.cause ≡ false) × (first_fault tells more ≡ None)) f more h
      go false is h = (is, h)

either : (X : Type 0) (c : Cause) → is_of_types c ≡ false → is_of_natures c ≡ false → X
either X NatureMismatch h k = cc
either X _ h k = cc

pub none_is : (faults : List Fault) → first_fault is_of_types faults ≡ None → first_fault is_of_natures faults ≡ None → faults ≡ []
none_is [] h k = refl
none_is (f ∷ more) h k = either (f ∷ more ≡ []) f.cause (not_told is_of_types f more h).0 (not_told is_of_natures f more k).0

front : (a b : Bool) → (a && b) ≡ true → a ≡ true
front true b h = refl
front false b h = absurd (cc)

both_ways : (X : Type 0) (b : Bool) → b ≡ true → b ≡ false → X
both_ways X true h k = cc
both_ways X false h k = cc

-- such as an instance answers are none where it answers none
pub told_is : (faults : List Fault) → list_all is_told faults ≡ true → first_fault is_of_instances faults ≡ None → faults ≡ []
told_is [] h k = refl
told_is (f ∷ more) h k =
    both_ways (f ∷ more ≡ []) (is_of_instances f.cause) (front (is_of_instances f.cause) (list_all is_told more) h) (not_told is_of_instances f more k).0
