-- Nothing that a cycle leaves stands before its time (IEEE 1076, 14.7.5).
use Rattle.std.specs.Prelude.{◌≡◌, ◌≤◌, ℕ, Bool, ℤ, List, IfSome}
use Rattle.flat_design.specs.declared.objects.Process.{Process}
use Rattle.flat_design.specs.declared.objects.Objects.{Objects}
use Rattle.step_data.specs.declared.trans.Trans.{Trans}
use Rattle.step_data.specs.declared.outcome.Ran.TheVariants.{Done}
use Rattle.step_model.specs.System.{ProcessState, Digital}
use Rattle.cycle_meaning.specs.World.{World, Context}
use Rattle.cycle_meaning.specs.Cycles.{Ran_of, all_ran, one_refused, run_all, start_all, world_of, cycle, start, next_time}
use Rattle.driver_set.specs.Queues.{AreLate}
use Rattle.next_cycle.specs.Next.{timeouts_of, NoneIsEarlier}

-- no pending transaction stands before a time, and no timeout of a process
pub record NoneIsBefore (t : ℕ) (queues : List (List Trans)) (processes : List ProcessState) : Type 0 where
  pub transactions : AreLate t queues
  pub timeouts : NoneIsEarlier t (timeouts_of processes)

-- the same of what runs leave
abbrev pub LeavesLate : ℕ → Ran_of → Type 0
LeavesLate t (all_ran w states) = NoneIsBefore t w.queues states
LeavesLate t (one_refused w r) = AreLate t w.queues

-- at the beginning of a cycle, whatever was pending
abbrev pub BegunIsLate : Type 0
BegunIsLate = (objects : Objects) (d : Digital) (t n : ℕ) (x : List ℤ) (to_time : Bool) → AreLate t (world_of objects d t n x to_time).queues

-- the runs of those that resume, from such a world and timeouts
abbrev pub RunsAreLate : Type 0
RunsAreLate =
    (at : ℕ → Context) (t k : ℕ) (ps : List Process) (states : List ProcessState) (resumed : List Bool) (w : World)
    → ((j : ℕ) → (at j).t ≡ t) → NoneIsBefore t w.queues states → LeavesLate t (run_all at k ps states resumed w)

-- the first runs
abbrev pub StartsAreLate : Type 0
StartsAreLate =
    (at : ℕ → Context) (t k : ℕ) (ps : List Process) (w : World) → ((j : ℕ) → (at j).t ≡ t) → AreLate t w.queues → LeavesLate t (start_all at k ps w)

-- so it is of the state behind the start
abbrev pub StartIsLate : Type 0
StartIsLate =
    (objects : Objects) (x : List ℤ) (broke : Bool) → (start objects x).ran ≡ Done broke
    → NoneIsBefore (start objects x).digital.time (start objects x).digital.queues (start objects x).digital.processes

-- and behind a cycle that is no later than the timeouts before
abbrev pub CycleIsLate : Type 0
CycleIsLate =
    (objects : Objects) (d : Digital) (t n : ℕ) (x : List ℤ) (to_time broke : Bool) → NoneIsEarlier t (timeouts_of d.processes) → (cycle objects d t n x to_time).ran ≡ Done broke
    → NoneIsBefore t (cycle objects d t n x to_time).digital.queues (cycle objects d t n x to_time).digital.processes

-- then the next time isn't before it either
abbrev pub NextIsNotBefore : Type 0
NextIsNotBefore = (d : Digital) (t : ℕ) → NoneIsBefore t d.queues d.processes → IfSome (next_time d) (λ u. t ≤ u)
