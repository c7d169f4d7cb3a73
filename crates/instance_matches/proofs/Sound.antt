-- Of sound associations each one that is found is sound.
use Rattle.std.proofs.Common.{◌≡◌, ℕ, nat_eq, List, slice_get, position, Option, Some, None, IfSome, refl, sym, subst}
use Rattle.std.specs.List.{zip}
use Rattle.std.proofs.lemmas.Option.{slice_get_within, get_or_from_slice_get}
use Rattle.unit_meaning.specs.declared.request.Actual.{Actual}
use Rattle.unit_meaning.specs.declared.request.Actual.TheVariants as actual
use Rattle.unit_meaning.specs.declared.request.Assigned.{Assigned}
use Rattle.unit_meaning.specs.Walk.{actual_at, closed_actual}
use Rattle.instance_matches.specs.Sound.{IsSoundActual, IsSoundAssigned, AreSound, IsSoundGiven}
use Rattle.instance_matches.proofs.Placed.{closed_beside, found_in}

closed_sound : (a : Assigned) → IsSoundAssigned a → IfSome (closed_actual (Some a)) IsSoundAssigned
closed_sound a h = go a.actual h
  where
    go : (x : Actual) → IsSoundActual x → IfSome (elim x as (λ y. Option Assigned) [ actual.Open ↦ None | actual.Object z t ↦ Some a | actual.Value k v ↦ Some a ]) IsSoundAssigned
    go actual.Open g = tt
    go (actual.Object z t) g = h
    go (actual.Value k v) g = h

at_sound : (all : List Assigned) (k : ℕ) → AreSound all → IfSome (closed_actual (slice_get all k)) IsSoundAssigned
at_sound all k h = go (slice_get all k) refl
  where
    go : (o : Option Assigned) → slice_get all k ≡ o → IfSome (closed_actual o) IsSoundAssigned
    go None e = tt
    go (Some a) e = closed_sound a (subst IsSoundAssigned (get_or_from_slice_get all k a a e) (h k a (slice_get_within all k a e)))

pub zip_sound : (places : List ℕ) (all : List Assigned) → AreSound all → IsSoundGiven (zip places all)
zip_sound places all h i = subst (λ o. IfSome o IsSoundAssigned) (sym (found_in places all i)) (go (position (nat_eq i) places))
  where
    go : (o : Option ℕ) → IfSome (closed_beside all o) IsSoundAssigned
    go (Some k) = at_sound all k h
    go None = tt

pub at_is_sound : (given : List (ℕ × Assigned)) (i : ℕ) (o : Option Assigned) → o ≡ actual_at given i → IsSoundGiven given → IfSome o IsSoundAssigned
at_is_sound given i o e h = subst (λ p. IfSome p IsSoundAssigned) (sym e) (h i)
