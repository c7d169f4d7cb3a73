-- What is kept of a process between two runs.
use Rattle.std.specs.Prelude.{◌≡◌, ◌<◌, ◌≤◌, ◌^◌, ℕ, false, List, [], ◌∷◌, map, length, Option, Some}
use Rattle.std.specs.List.{slice_get, All}
use Rattle.ams_value.specs.declared.val.Val.{Val}
use Rattle.flat_design.specs.declared.objects.Variable.{Variable}
use Rattle.flat_design.specs.declared.objects.Process.{Process}
use Rattle.flat_design.specs.declared.objects.Objects.{Objects}
use Rattle.step_model.specs.System.{ProcessState}
use Rattle.design_meaning.specs.Readings.{still}
use Rattle.design_meaning.specs.Reading.{quiescent_domain}
use Rattle.cycle_meaning.specs.World.{World, Context, Local}
use Rattle.cycle_meaning.specs.Processes.{state_of}
use Rattle.design_rules.specs.Design.{IsProcess}
use Rattle.process_place.specs.ProcessPlace.{ProcessPlace, tasks_at}
use Rattle.process_place.specs.Kept.{KeepsPlace}
use Rattle.process_stack.specs.Stacks.{Stacked, place_of}
use Rattle.proc_exec.specs.Running.{StandsReady}
use Rattle.process_rest.specs.Resting.{IsWorld, at_first}

-- the wait with the time of its timeout, the stack behind it, and the variables
pub record Kept : Type 0 where
  pub wait : ℕ
  pub timeout : Option ℕ
  pub stack : Stacked
  pub variables : List Val

abbrev pub place_kept : Process → Kept → ProcessPlace
place_kept p k = place_of p.statements k.stack

abbrev pub with_own : World → Kept → Local
with_own w k = record { world = w; variables = k.variables }

-- no expression is evaluated in it
abbrev pub no_world : World
no_world = record { signals = []; thresholds = []; domain = still quiescent_domain; queues = []; elements = []; broke = false; events = [] }

-- the state of the process, which is known from that
abbrev pub state_kept : Process → Kept → ProcessState
state_kept p k = state_of p.variables k.wait k.timeout (tasks_at p.statements (place_kept p k)) (with_own no_world k)

abbrev pub states_kept : List Process → List Kept → List ProcessState
states_kept [] ks = []
states_kept (p ∷ ps) [] = []
states_kept (p ∷ ps) (k ∷ ks) = state_kept p k ∷ states_kept ps ks

-- ---- the process with a number acts

abbrev pub numbered : Context → ℕ → Context
numbered here n = record here { process = n }

-- ---- a process that waits

-- place and variables are those of its state, and it can go on in any world of the design
pub record IsWaiting (objects : Objects) (number : ℕ) (p : Process) (k : Kept) : Type 0 where
  pub keeps : KeepsPlace p (state_kept p k) (place_kept p k) k.variables
  pub ready : (here : Context) (w : World) → here.objects ≡ objects → here.process ≡ number → IsWorld here w → StandsReady here (with_own w k) p.statements k.stack

-- each process of the design waits, and the world is one of the design
pub record CanRun (here : Context) (w : World) (ps : List Process) (ks : List Kept) : Type 0 where
  pub processes : ps ≡ here.objects.processes
  pub few : length ps < 2 ^ 32
  pub count : length ks ≡ length ps
  pub world : IsWorld here w
  pub waiting : (i : ℕ) (p : Process) (k : Kept) → slice_get ps i ≡ Some p → slice_get ks i ≡ Some k → IsWaiting here.objects i p k

-- ---- a process before its first run

pub record IsUnstarted (p : Process) (k : Kept) : Type 0 where
  pub stack : k.stack ≡ at_first
  pub variables : k.variables ≡ map (λ (x : Variable). x.initial) p.variables

pub record AreUnstarted (ps : List Process) (ks : List Kept) : Type 0 where
  pub count : length ks ≡ length ps
  pub each : (i : ℕ) (p : Process) (k : Kept) → slice_get ps i ≡ Some p → slice_get ks i ≡ Some k → IsUnstarted p k

-- the first so many processes wait, and the others haven't begun
pub record CanStart (n : ℕ) (here : Context) (w : World) (ps : List Process) (ks : List Kept) : Type 0 where
  pub processes : ps ≡ here.objects.processes
  pub few : length ps < 2 ^ 32
  pub count : length ks ≡ length ps
  pub rules : All (IsProcess here.objects) ps
  pub world : IsWorld here w
  pub waiting : (i : ℕ) (p : Process) (k : Kept) → i < n → slice_get ps i ≡ Some p → slice_get ks i ≡ Some k → IsWaiting here.objects i p k
  pub unstarted : (i : ℕ) (p : Process) (k : Kept) → n ≤ i → slice_get ps i ≡ Some p → slice_get ks i ≡ Some k → IsUnstarted p k
