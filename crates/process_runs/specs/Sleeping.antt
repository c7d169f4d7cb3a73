-- Processes that wait, as they are looked at before any runs.
use Rattle.std.specs.Prelude.{◌≡◌, List, map}
use Rattle.flat_design.specs.declared.objects.Process.{Process}
use Rattle.kernel_world.specs.declared.world.World.{World}
use Rattle.kernel_world.specs.Acting.{context_of, world_of}
use Rattle.resumption.specs.Sleeps.{Sleep, sleeps_of}
use Rattle.resumption.specs.Waits.{AreThere}
use Rattle.process_runs.specs.Kept.{Kept, states_kept, CanRun}

abbrev pub asleep : Kept → Sleep
asleep k = record { wait = k.wait; timeout = k.timeout; variables = k.variables }

pub record SleepsFollow : Type 0 where
  pub states : (w : World) (ps : List Process) (ks : List Kept) → CanRun (context_of w) (world_of w) ps ks → map asleep ks ≡ sleeps_of ps (states_kept ps ks)
  pub there : (w : World) (ps : List Process) (ks : List Kept) → CanRun (context_of w) (world_of w) ps ks → AreThere w (map asleep ks)
