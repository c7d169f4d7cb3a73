-- The search of a crossing without the point at its later bound.
use Rattle.std.specs.Prelude.{ℕ, Bool, true, false, not, ℤ, List, Option, Some, None, if◌then◌else◌}
use Rattle.ams_value.specs.Values.{same_truth}
use Rattle.step_data.specs.declared.breaks.ThresholdState.{ThresholdState}
use Rattle.step_data.specs.declared.outcome.Trial.{Trial}
use Rattle.step_data.specs.declared.outcome.Trial.TheVariants.{Good, Refused}
use Rattle.step_data.specs.Thresholds.{is_above}
use Rattle.lockstep_model.specs.Crossing.{Bounds, is_near, middle, lower_half, upper_half, differs}

-- the bounds, and how many ticks they may be apart
pub record Span : Type 0 where
  pub lo : ℕ
  pub hi : ℕ
  pub xres : ℕ

abbrev pub with_point : Span → List ℤ → Bounds
with_point s x = record { lo = s.lo; hi = s.hi; x = x }

-- the time of the next probe, unless the bounds are near
abbrev pub middle_of : ℕ → Bounds → Option ℕ
middle_of xres b = if is_near xres b then None else Some (middle b)

-- what is left where a threshold differs in the middle, with these values there, and where none does
abbrev pub halved : Bool → Bounds → List ℤ → Bounds
halved true b x = lower_half b x
halved false b x = upper_half b

-- a threshold is unlike its kept value
abbrev pub is_unlike : List ℤ → ThresholdState → Bool
is_unlike x k = not (same_truth (is_above x k.unknown k.level) k.on)

-- a step with this answer led to values at which a threshold differs
abbrev pub crossed_by : Trial → List ThresholdState → List ℤ → Bool
crossed_by (Good err) thresholds x = differs x thresholds
crossed_by (Refused c) thresholds x = false
