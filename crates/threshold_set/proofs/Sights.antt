-- Threshold signals as they are read.
use Rattle.std.proofs.Common.{◌≡◌, ℕ, zero, suc, Bool, false, List, [], ◌∷◌, length, refl, arith}
use Rattle.std.specs.Prelude.{slice_get, slice_index_or}
use Rattle.ams_value.specs.declared.val.Val.TheVariants as val
use Rattle.step_data.specs.declared.breaks.ThresholdState.{ThresholdState}
use Rattle.design_meaning.specs.Readings.{still}
use Rattle.threshold_set.specs.Crossed.{sights_of, value_of}

pub value_is : (states : List ThresholdState) (events : List Bool) (k : ℕ) → length events ≡ length states
    → value_of (slice_get states k) ≡ (slice_index_or (sights_of states events) k (still (val.Bool false))).value
value_is [] events k e = refl
value_is (s ∷ states) [] k e = absurd (omega arith)
value_is (s ∷ states) (b ∷ events) zero e = refl
value_is (s ∷ states) (b ∷ events) (suc k) e = value_is states events k (omega arith)

pub event_is : (states : List ThresholdState) (events : List Bool) (k : ℕ) → length events ≡ length states
    → slice_index_or events k false ≡ (slice_index_or (sights_of states events) k (still (val.Bool false))).event
event_is [] [] k e = refl
event_is [] (b ∷ events) k e = absurd (omega arith)
event_is (s ∷ states) [] k e = absurd (omega arith)
event_is (s ∷ states) (b ∷ events) zero e = refl
event_is (s ∷ states) (b ∷ events) (suc k) e = event_is states events k (omega arith)
