-- What a start or a cycle hands on.
use Rattle.std.specs.Prelude.{◌≡◌, ◌++◌, [], Bool, List, Result, Ok, Err, OnOk, OnErr, IfOk, IsErr}
use Rattle.step_data.specs.declared.event.Event.{Event}
use Rattle.step_data.specs.declared.outcome.Ran.{Ran}
use Rattle.step_data.specs.declared.outcome.Ran.TheVariants.{Done, Refused}
use Rattle.step_model.specs.System.{CycleOutcome}
use Rattle.step_model.specs.Kernel.{AddsFront, stage_after}
use Rattle.step_model.specs.declared.kernel_stage.KernelStage.{KernelStage}
use Rattle.step_model.specs.declared.kernel_stage.KernelStage.TheVariants.{Going, Lost}
use Rattle.statement_lists.specs.declared.fault.ListFault.{ListFault}
use Rattle.statement_lists.specs.declared.fault.ListFault.TheVariants as fault
use Rattle.kernel_world.specs.Acting.{world_of}
use Rattle.kernel_state.specs.declared.parts.KernelParts.{KernelParts}
use Rattle.kernel_state.specs.State.{state_of, IsGoing}

-- where the kernel stands then
abbrev pub stage_left : {E : Type 0} → Result Ran E → KernelStage
stage_left (Ok ran) = stage_after ran
stage_left (Err e) = Lost

-- the state of the definition, with no event left in the world
pub record IsHanded (e : CycleOutcome) (k : KernelParts) : Type 0 where
  pub ran : e.ran ≡ Done (world_of k.world).broke
  pub digital : state_of k ≡ e.digital
  pub going : IsGoing k
  pub idle : (world_of k.world).events ≡ []

-- the events of the definition behind those of a list, or a front of them, and the state
pub record HandsOn {E : Type 0} (e : CycleOutcome) (k : KernelParts) (old new : List Event) (r : Result Ran E) : Type 0 where
  pub ran : IfOk r (λ ran. ran ≡ e.ran)
  pub given : OnOk r (new ≡ old ++ e.events)
  pub front : OnErr r (AddsFront old new e.events)
  pub left : stage_left r ≡ Going → IsHanded e k

-- the answer of what ended so
abbrev pub IsAnswer : {E : Type 0} → Result Unit ListFault → Bool → Result Ran E → Type 0
IsAnswer (Ok _) broke r = r ≡ Ok (Done broke)
IsAnswer (Err (fault.Refused refusal)) broke r = r ≡ Ok (Refused refusal)
IsAnswer (Err fault.Memory) broke r = IsErr r
