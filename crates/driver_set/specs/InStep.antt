-- Drivers with their agenda.
use Rattle.std.specs.Prelude.{◌≡◌, ℕ, List, Option}
use Rattle.waveform.specs.Waveform.{Waveform}
use Rattle.driver_set.specs.Queues.{queues_of, times_of, AreRising}

-- the agenda has the time of the first transaction of each driver
pub record IsInStep (drivers : List Waveform) (agenda : List (Option ℕ)) : Type 0 where
  pub times : agenda ≡ times_of (queues_of drivers)
  pub rising : AreRising (queues_of drivers)
