-- The digital side between two calls.
use Rattle.std.specs.Prelude.{◌≡◌, ℕ, Bool, ℤ, List, [], ◌++◌}
use Rattle.step_data.specs.declared.event.Event.{Event}
use Rattle.step_data.specs.declared.outcome.Refusal.{Refusal}
use Rattle.step_data.specs.declared.outcome.Ran.{Ran}
use Rattle.step_data.specs.declared.outcome.Ran.TheVariants.{Done, Refused}
use Rattle.step_model.specs.declared.kernel_stage.KernelStage.{KernelStage}
use Rattle.step_model.specs.declared.kernel_stage.KernelStage.TheVariants.{Unstarted, Going, Ended, Lost}
use Rattle.step_model.specs.System.{System, Digital, CycleOutcome}

pub record KernelState : Type 0 where
  pub stage : KernelStage
  pub digital : Digital

abbrev pub stage_after : Ran → KernelStage
stage_after (Done broke) = Going
stage_after (Refused refusal) = Ended refusal

-- nothing happens, and the answer is the refusal
abbrev pub refused_again : Digital → Refusal → CycleOutcome
refused_again d refusal = record { digital = d; events = []; ran = Refused refusal }

-- what a call of `cycle` gives: once a refusal came, that refusal and nothing else
abbrev pub cycle_by : KernelStage → System → Digital → ℕ → ℕ → List ℤ → Bool → CycleOutcome
cycle_by Unstarted sys d t n x to_time = sys.cycle d t n x to_time
cycle_by Going sys d t n x to_time = sys.cycle d t n x to_time
cycle_by (Ended refusal) sys d t n x to_time = refused_again d refusal
cycle_by Lost sys d t n x to_time = sys.cycle d t n x to_time

abbrev pub cycle_of : System → KernelState → ℕ → ℕ → List ℤ → Bool → CycleOutcome
cycle_of sys s t n x to_time = cycle_by s.stage sys s.digital t n x to_time

-- the second list goes on from the first
abbrev pub IsPrefixOf : List Event → List Event → Type 0
IsPrefixOf front whole = (rest : List Event) × (front ++ rest ≡ whole)

-- the new list is the old one and a front part of the added ones
pub record AddsFront (old new added : List Event) : Type 0 where
  pub front : List Event
  pub is_front : IsPrefixOf front added
  pub new_is : new ≡ old ++ front
