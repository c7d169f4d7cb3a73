-- Rows that are written place by place.
use Rattle.std.specs.Prelude.{ℕ, ℤ, List, [], ◌∷◌, slice_set, Result, Ok}
use Rattle.fix_core.specs.Passes.{◌>>=◌}
use Rattle.design_meaning.specs.declared.fault.EvalFault.{EvalFault}

-- a row with a slope at each of these places, or the first fault
unfoldable pub with_slopes : (ℕ → Result ℤ EvalFault) → List ℕ → List ℤ → Result (List ℤ) EvalFault
with_slopes slope [] row = Ok row
with_slopes slope (place ∷ more) row = slope place >>= (λ z. with_slopes slope more (slice_set row place z))
