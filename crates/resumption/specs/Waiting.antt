-- What a process that waits reads.
use Rattle.std.specs.Prelude.{◌≡◌, refl}
use Rattle.design_meaning.specs.Readings.{Readings}
use Rattle.cycle_meaning.specs.World.{Context, Local, readings_at}
use Rattle.kernel_world.specs.Acting.{world_of}
use Rattle.resumption.specs.Waits.{contexts_of}
use Rattle.resumption.specs.declared.sleeper.Sleeper.{Sleeper}

abbrev pub context_of : Sleeper → Context
context_of s = contexts_of s.world.now s.process

abbrev pub local_of : Sleeper → Local
local_of s = record { world = world_of s.world.now; variables = s.variables.now }

abbrev pub readings_of : Sleeper → Readings
readings_of s = readings_at (context_of s) (local_of s)

pub reads_so : (s : Sleeper) → readings_at (context_of s) (local_of s) ≡ readings_of s
reads_so s = refl
