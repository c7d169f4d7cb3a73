-- The lists of the processes that wait on each signal of a design.
use Rattle.std.specs.Prelude.{◌≡◌, map, length}
use Rattle.flat_design.specs.declared.objects.Objects.{Objects}
use Rattle.resumption.specs.Sleeps.{waits_of}
use Rattle.resumption_calls.specs.Calls.{HaveCallers}
use Rattle.process_callers.specs.Callers.{Lists, callers_of, AreWithin}

-- these are lists of the design's processes, in which each stands at each signal that some wait of it names
pub record AreCallers (objects : Objects) (c : Lists) : Type 0 where
  pub callers : HaveCallers (callers_of (length objects.processes) c) (map waits_of objects.processes)
  pub within : AreWithin (length objects.processes) c
  pub signals : length c.signals ≡ length objects.signals
  pub thresholds : length c.thresholds ≡ length objects.thresholds
