-- The state between cycles that the parts of a kernel stand for.
use Rattle.std.specs.Prelude.{◌≡◌, ◌<◌, ◌^◌, false, List, length, replicate}
use Rattle.flat_design.specs.declared.objects.Objects.{Objects}
use Rattle.step_model.specs.System.{ProcessState, Digital}
use Rattle.cycle_meaning.specs.Cycles.{digital_of, first_digital}
use Rattle.kernel_world.specs.Acting.{context_of, world_of}
use Rattle.next_cycle.specs.Next.{timeouts_of}
use Rattle.process_runs.specs.Kept.{states_kept, CanRun}
use Rattle.resumption.specs.Waits.{AreWaits}
use Rattle.kernel_state.specs.Lists.{AreCallers}
use Rattle.kernel_state.specs.declared.parts.KernelParts.{KernelParts}

-- the design
abbrev pub objects_of : KernelParts → Objects
objects_of k = (context_of k.world).objects

-- the states of the processes
abbrev pub states_of : KernelParts → List ProcessState
states_of k = states_kept (objects_of k).processes k.kept.items

-- what a cycle leaves is kept in place of the state before
abbrev pub state_of : KernelParts → Digital
state_of k = digital_of (first_digital (objects_of k)) (context_of k.world).t k.world.timed (world_of k.world) (states_of k)

-- what never changes: the waits and the lists of callers
pub record HasLists (k : KernelParts) : Type 0 where
  pub waits : AreWaits (objects_of k).processes k.waits
  pub callers : AreCallers (objects_of k) k.callers
  pub few : length (objects_of k).processes < 2 ^ 32

-- with these, no process is marked
pub record IsBuilt (k : KernelParts) : Type 0 where
  pub lists : HasLists k
  pub resumed : k.resumed.items ≡ replicate (length (objects_of k).processes) false

-- each process waits, and its timeout is in the agenda
pub record IsGoing (k : KernelParts) : Type 0 where
  pub built : IsBuilt k
  pub can : CanRun (context_of k.world) (world_of k.world) (objects_of k).processes k.kept.items
  pub timeouts : k.timeouts ≡ timeouts_of (states_of k)
