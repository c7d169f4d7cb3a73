-- The drivers of a design, and the places of its objects.
use Rattle.std.specs.Prelude.{◌≡◌, ◌<◌, ℕ, Bool, true, ℤ, List, length, map}
use Rattle.std.specs.List.{list_any}
use Rattle.ams_value.specs.declared.val.Val.{Val}
use Rattle.flat_design.specs.declared.objects.Objects.{Objects}
use Rattle.flat_design.specs.Order.{unknown_count}
use Rattle.step_data.specs.declared.trans.Trans.{Trans}
use Rattle.step_data.specs.declared.breaks.ThresholdState.{ThresholdState}
use Rattle.threshold_set.specs.Crossed.{silenced, off}
use Rattle.cycle_meaning.specs.World.{drives, driven_of}

-- these are the driven signals, and the drivers have as many queues; each signal that a process drives is one of the design
pub record IsSound (objects : Objects) (driven : List ℕ) (queues : List (List Trans)) : Type 0 where
  pub driven_are : driven ≡ driven_of objects
  pub as_many : length queues ≡ length driven
  pub known : (i : ℕ) → list_any (drives i) objects.processes ≡ true → i < length objects.signals

-- a value for each signal and each unknown, and the thresholds of the design, whatever their values
pub record HasPlaces (objects : Objects) (values : List Val) (states : List ThresholdState) (events : List Bool) (x : List ℤ) : Type 0 where
  pub signals : length values ≡ length objects.signals
  pub unknowns : length x ≡ unknown_count objects
  pub thresholds : map silenced states ≡ map off objects.thresholds
  pub as_many : length events ≡ length states
  pub few : length states < 4294967296
