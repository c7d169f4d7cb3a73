-- Events are only added to those before.
use Rattle.std.specs.Prelude.{ℕ, Bool, ℤ, List}
use Rattle.flat_design.specs.declared.objects.Objects.{Objects}
use Rattle.flat_design.specs.declared.objects.Process.{Process}
use Rattle.step_model.specs.System.{ProcessState, Digital}
use Rattle.cycle_meaning.specs.World.{World, Context}
use Rattle.cycle_meaning.specs.Cycles.{world_of, run_all, start_all, cycle}
use Rattle.proc_exec.specs.Running.{IsFront}
use Rattle.run_laws.specs.Changes.{world_behind}

-- by the runs of those that resume
abbrev pub RunsAddEvents : Type 0
RunsAddEvents =
    (at : ℕ → Context) (k : ℕ) (ps : List Process) (states : List ProcessState) (resumed : List Bool) (w : World)
    → IsFront w.events (world_behind (run_all at k ps states resumed w)).events

-- and by the first runs
abbrev pub StartsAddEvents : Type 0
StartsAddEvents = (at : ℕ → Context) (k : ℕ) (ps : List Process) (w : World) → IsFront w.events (world_behind (start_all at k ps w)).events

-- the events at the beginning are at the front of the cycle's, also where a condition or a process is refused
abbrev pub CyclesAddEvents : Type 0
CyclesAddEvents =
    (objects : Objects) (d : Digital) (t n : ℕ) (x : List ℤ) (to_time : Bool)
    → IsFront (world_of objects d t n x to_time).events (cycle objects d t n x to_time).events
