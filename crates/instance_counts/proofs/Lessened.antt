-- One instance of a list with fewer unknowns.
use Rattle.std.proofs.Common.{◌≡◌, ℕ, zero, suc, List, [], ◌∷◌, set, Some, None, slice_get, refl, ap}
use Rattle.flat_design.specs.declared.objects.Instance.{Instance}
use Rattle.unit_meaning.specs.Walk.{lessened}
use Rattle.instance_counts.specs.Fewer.{fewer}

pub there : (i k : ℕ) (xs : List Instance) (x : Instance) → slice_get xs i ≡ Some x → set xs i (fewer k x) ≡ lessened i k xs
there i k [] x h = cc
there zero k (y ∷ xs) x h = ap (λ (z : Instance). fewer k z ∷ xs) (same y x h)
  where
    same : (y x : Instance) → Some y ≡ Some x → x ≡ y
    same y x h = cc
there (suc i) k (y ∷ xs) x h = ap (λ zs. y ∷ zs) (there i k xs x h)

pub nowhere : (i k : ℕ) (xs : List Instance) → slice_get xs i ≡ None → lessened i k xs ≡ xs
nowhere i k [] h = refl
nowhere zero k (y ∷ xs) h = cc
nowhere (suc i) k (y ∷ xs) h = ap (λ zs. y ∷ zs) (nowhere i k xs h)
