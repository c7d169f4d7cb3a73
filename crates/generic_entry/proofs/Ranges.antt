-- What is noted of an actual out of range.
use Rattle.std.proofs.Common.{◌≡◌, if◌then◌else◌, Option, Some, None, refl}
use Rattle.elab_meaning.specs.declared.fault.Cause.TheVariants.{WrongType}
use Rattle.elab_meaning.specs.declared.fault.Notes.{Notes}
use Rattle.elab_meaning.specs.declared.typed.Valued.{Valued}
use Rattle.elab_meaning.specs.Notes.{noted}
use Rattle.unit_meaning.specs.declared.request.Actual.{Actual}
use Rattle.unit_meaning.specs.declared.request.Actual.TheVariants as actual
use Rattle.unit_meaning.specs.declared.request.Assigned.{Assigned}
use Rattle.unit_meaning.specs.Walk.{range_notes}
use Rattle.generic_entry.specs.Entering.{is_in_range}

pub noted_is : (d : Option Valued) (a : Assigned) (n : Notes) → range_notes d a n ≡ (if is_in_range d a.actual then n else noted a.place WrongType n)
noted_is None a n = refl
noted_is (Some d) a n = go a.actual
  where
    go : (x : Actual) → (elim x as (λ y. Notes) [ actual.Value k v ↦ (if is_in_range (Some d) (actual.Value k v) then n else noted a.place WrongType n) | actual.Open ↦ n | actual.Object z t ↦ n ])
        ≡ (if is_in_range (Some d) x then n else noted a.place WrongType n)
    go (actual.Value k v) = refl
    go actual.Open = refl
    go (actual.Object z t) = refl
