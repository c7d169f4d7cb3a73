-- What the runs of processes change of a world.
use Rattle.std.specs.Prelude.{◌≡◌, ℕ, Bool, List}
use Rattle.flat_design.specs.declared.objects.Process.{Process}
use Rattle.step_model.specs.System.{System, ProcessState}
use Rattle.step_model.specs.Printing.{CanPrint}
use Rattle.cycle_meaning.specs.World.{World, Context}
use Rattle.cycle_meaning.specs.Cycles.{Ran_of, all_ran, one_refused, run_all, start_all}

-- the world behind the runs, or where one is refused
abbrev pub world_behind : Ran_of → World
world_behind (all_ran w states) = w
world_behind (one_refused w r) = w

-- signals, thresholds and DOMAIN stay with their events, and where the events before can be printed, so can those behind
pub record ChangesTo (before after : World) : Type 0 where
  pub signals : after.signals ≡ before.signals
  pub thresholds : after.thresholds ≡ before.thresholds
  pub domain : after.domain ≡ before.domain
  pub printable : (sys : System) → CanPrint sys before.events → CanPrint sys after.events

abbrev pub RunsChange : Type 0
RunsChange =
    (at : ℕ → Context) (k : ℕ) (ps : List Process) (states : List ProcessState) (resumed : List Bool) (w : World)
    → ChangesTo w (world_behind (run_all at k ps states resumed w))

abbrev pub StartsChange : Type 0
StartsChange = (at : ℕ → Context) (k : ℕ) (ps : List Process) (w : World) → ChangesTo w (world_behind (start_all at k ps w))
