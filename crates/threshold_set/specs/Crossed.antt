-- The thresholds of a cycle, one by one.
use Rattle.std.specs.Prelude.{◌≡◌, Bool, false, ℤ, List, [], ◌∷◌, map, Option, Some, None}
use Rattle.ams_value.specs.declared.val.Val.{Val}
use Rattle.ams_value.specs.declared.val.Val.TheVariants as val
use Rattle.flat_design.specs.declared.objects.Threshold.{Threshold}
use Rattle.step_data.specs.declared.breaks.ThresholdState.{ThresholdState}
use Rattle.step_data.specs.Thresholds.{is_above}
use Rattle.design_meaning.specs.Readings.{Seen, still}
use Rattle.cycle_meaning.specs.Cycles.{changed, with_thresholds, threshold_states, is_on}

-- the thresholds with their values, and which of them had an event
pub record Thresholds : Type 0 where
  pub states : List ThresholdState
  pub events : List Bool

-- values with their events
abbrev pub sight : ThresholdState → Bool → Seen
sight s event = record { value = val.Bool s.on; event = event }

abbrev pub sights_of : List ThresholdState → List Bool → List Seen
sights_of [] events = []
sights_of (s ∷ states) [] = []
sights_of (s ∷ states) (e ∷ events) = sight s e ∷ sights_of states events

-- the threshold signals as they are read
abbrev pub sights : Thresholds → List Seen
sights a = sights_of a.states a.events

-- a threshold signal at a point
abbrev pub crossed : List ℤ → ThresholdState → Seen
crossed x s = changed (still (val.Bool s.on)) (val.Bool (is_above x s.unknown s.level))

abbrev pub crossed_of : List ℤ → List ThresholdState → List Seen
crossed_of x states = map (crossed x) states

-- the threshold with its value there
abbrev pub after : List ℤ → ThresholdState → ThresholdState
after x s = record s { on = is_above x s.unknown s.level }

-- a threshold that is FALSE
abbrev pub off : Threshold → ThresholdState
off k = record { unknown = k.quantity; level = k.level; on = false }

-- a threshold without its value
abbrev pub silenced : ThresholdState → ThresholdState
silenced s = record s { on = false }

-- the value of a threshold signal, FALSE where there is none
abbrev pub value_of : Option ThresholdState → Val
value_of (Some s) = val.Bool s.on
value_of None = val.Bool false

-- so are the threshold signals of a cycle, from those that were kept
pub record ThresholdsCross : Type 0 where
  pub signals : (x : List ℤ) (ks : List Threshold) (kept : List Bool) → crossed_of x (threshold_states ks kept) ≡ with_thresholds x ks kept
  pub states : (x : List ℤ) (ks : List Threshold) (kept : List Bool)
      → map (after x) (threshold_states ks kept) ≡ threshold_states ks (map (λ (s : Seen). is_on s.value) (with_thresholds x ks kept))
  pub read : (x : List ℤ) (states : List ThresholdState) → sights_of (map (after x) states) (map (λ (s : ThresholdState). (crossed x s).event) states) ≡ crossed_of x states
  pub first : (ks : List Threshold) → map off ks ≡ threshold_states ks (map (λ (k : Threshold). false) ks)
