-- How the start and a cycle end.
use Rattle.std.specs.Prelude.{◌≡◌, Bool, List, Result, Ok, Err}
use Rattle.step_data.specs.declared.outcome.Refusal.{Refusal}
use Rattle.step_data.specs.declared.outcome.Ran.TheVariants.{Done, Refused}
use Rattle.step_model.specs.System.{Digital, CycleOutcome}
use Rattle.cycle_meaning.specs.Cycles.{context_at, resumes, after_resumption}
use Rattle.statement_lists.specs.declared.fault.ListFault.{ListFault}
use Rattle.statement_lists.specs.declared.fault.ListFault.TheVariants as fault
use Rattle.proc_exec.specs.Running.{IsFront}
use Rattle.kernel_world.specs.Acting.{context_of, world_of}
use Rattle.kernel_state.specs.declared.parts.KernelParts.{KernelParts}
use Rattle.kernel_state.specs.State.{state_of, IsGoing}

-- each process waits again, in the state and with the events of the definition
pub record IsCycled (e : CycleOutcome) (k : KernelParts) : Type 0 where
  pub ran : e.ran ≡ Done (world_of k.world).broke
  pub digital : state_of k ≡ e.digital
  pub events : (world_of k.world).events ≡ e.events
  pub going : IsGoing k

-- or it is refused with the events before. Where there was no memory, the events are those at the front
abbrev pub CycleEnds : CycleOutcome → KernelParts → Result Unit ListFault → Type 0
CycleEnds e k (Ok _) = IsCycled e k
CycleEnds e k (Err (fault.Refused r)) = (e.ran ≡ Refused r) × ((world_of k.world).events ≡ e.events)
CycleEnds e k (Err fault.Memory) = IsFront (world_of k.world).events e.events

-- how the look at the processes that are called ends: those resume, and what else is left then, or a condition is refused
abbrev pub FindEnds : Result (List Bool) Refusal → List Bool → Type 0 → Result Unit ListFault → Type 0
FindEnds e resumed left (Ok _) = (e ≡ Ok resumed) × left
FindEnds e resumed left (Err (fault.Refused r)) = e ≡ Err r
FindEnds e resumed left (Err fault.Memory) = Unit {0}

-- what the cycle that began comes to, from the state before
abbrev pub begun_outcome : Digital → KernelParts → CycleOutcome
begun_outcome d k =
    let here = context_of k.world in
    after_resumption here.objects d here.t here.n here.x k.world.timed (world_of k.world)
    (resumes (context_at here.objects here.t here.n here.x) (world_of k.world) 0 here.objects.processes d.processes)
