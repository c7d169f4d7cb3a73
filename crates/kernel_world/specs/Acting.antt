-- The context of the process that runs, and what it changes.
use Rattle.std.specs.Prelude.{◌≡◌, refl}
use Rattle.design_meaning.specs.Readings.{Readings}
use Rattle.cycle_meaning.specs.World.{World as CycleWorld, Context, Local, readings_at}
use Rattle.threshold_set.specs.Crossed.{sights}
use Rattle.kernel_world.specs.Reading.{seens, domain_value}
use Rattle.kernel_world.specs.declared.world.World.{World}

abbrev pub context_of : World → Context
context_of w = record { objects = w.flat.now; process = w.process; t = w.time; n = w.delta; x = w.point }

abbrev pub world_of : World → CycleWorld
world_of w =
    record {
      signals = seens w.signals.values w.signals.events;
      thresholds = sights w.thresholds;
      domain = record { value = domain_value w.timed; event = w.to_time };
      queues = w.drivers;
      elements = w.elements;
      broke = w.broke;
      events = w.events;
    }

abbrev pub local_of : World → Local
local_of w = record { world = world_of w; variables = w.variables.items }

abbrev pub readings_of : World → Readings
readings_of w = readings_at (context_of w) (local_of w)

pub reads_so : (w : World) → readings_at (context_of w) (local_of w) ≡ readings_of w
reads_so w = refl
