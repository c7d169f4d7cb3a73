-- States between cycles from which every cycle can be run, as the start and each cycle leave them.
use Rattle.std.specs.Prelude.{◌≡◌, ◌≤◌, ℕ, ◌+◌, Bool, ℤ, IsTrue, List, [], ◌∷◌, length, IfSome}
use Rattle.fix_core.specs.Units.{most_ticks}
use Rattle.ams_value.specs.declared.val.Val.{Val}
use Rattle.flat_design.specs.declared.objects.Process.{Process}
use Rattle.flat_design.specs.declared.objects.Objects.{Objects}
use Rattle.flat_design.specs.Order.{unknown_count}
use Rattle.step_data.specs.declared.outcome.Ran.TheVariants.{Done}
use Rattle.step_model.specs.System.{System, ProcessState, Digital}
use Rattle.step_model.specs.Printing.{CanPrint}
use Rattle.cycle_meaning.specs.World.{World, Context}
use Rattle.cycle_meaning.specs.Cycles.{next_time, start, cycle}
use Rattle.design_rules.specs.Design.{IsDesign}
use Rattle.system_model.specs.System.{is_printable}
use Rattle.process_place.specs.Kept.{KeepsPlace}
use Rattle.process_stack.specs.Stacks.{Stacked, place_of}
use Rattle.proc_exec.specs.Running.{StandsReady}
use Rattle.process_rest.specs.Resting.{IsWorld}
use Rattle.run_laws.specs.Times.{NoneIsBefore}
use Rattle.run_laws.specs.Values.{ValuesFit, AreElements}

-- a process in this state stands at a place of its text with variables of their types, and can go on there in each world of the design
pub record IsResting (objects : Objects) (number : ℕ) (p : Process) (s : ProcessState) : Type 0 where
  pub stack : Stacked
  pub variables : List Val
  pub keeps : KeepsPlace p s (place_of p.statements stack) variables
  pub ready : (here : Context) (w : World) → here.objects ≡ objects → here.process ≡ number → IsWorld here w
      → StandsReady here (record { world = w; variables = variables }) p.statements stack

-- so does each of them, from a number on
abbrev pub AreResting : Objects → ℕ → List Process → List ProcessState → Type 0
AreResting objects k [] [] = Unit {0}
AreResting objects k [] (s ∷ states) = ⊥
AreResting objects k (p ∷ ps) [] = ⊥
AreResting objects k (p ∷ ps) (s ∷ states) = IsResting objects k p s × AreResting objects (k + 1) ps states

pub record IsSafe (objects : Objects) (d : Digital) : Type 0 where
  pub values : ValuesFit objects d.signals d.queues
  pub times : NoneIsBefore d.time d.queues d.processes
  pub processes : AreResting objects 0 objects.processes d.processes
  pub elements : AreElements objects d.broken

-- ---- the start and each cycle leave such a state

abbrev pub StartIsSafe : Type 0
StartIsSafe =
    (objects : Objects) (x : List ℤ) (broke : Bool) → IsDesign objects → length x ≡ unknown_count objects
    → (start objects x).ran ≡ Done broke → IsSafe objects (start objects x).digital

abbrev pub CycleIsSafe : Type 0
CycleIsSafe =
    (objects : Objects) (d : Digital) (t n : ℕ) (x : List ℤ) (to_time broke : Bool) → IsDesign objects → IsSafe objects d → length x ≡ unknown_count objects → t ≤ most_ticks
    → IfSome (next_time d) (λ u. t ≤ u) → (cycle objects d t n x to_time).ran ≡ Done broke → IsSafe objects (cycle objects d t n x to_time).digital

-- the next time isn't before that of the last cycle
abbrev pub NextIsLater : Type 0
NextIsLater = (objects : Objects) (d : Digital) → IsSafe objects d → IfSome (next_time d) (λ u. d.time ≤ u)

-- ---- their events can be printed, however they end

abbrev pub PrintsValues : Objects → System → Type 0
PrintsValues objects sys = (v : Val) → IsTrue (is_printable objects v) → IsTrue (sys.is_printable v)

abbrev pub StartIsPrintable : Type 0
StartIsPrintable = (objects : Objects) (sys : System) (x : List ℤ) → CanPrint sys (start objects x).events

abbrev pub CycleIsPrintable : Type 0
CycleIsPrintable =
    (objects : Objects) (sys : System) (d : Digital) (t n : ℕ) (x : List ℤ) (to_time : Bool) → PrintsValues objects sys → ValuesFit objects d.signals d.queues
    → CanPrint sys (cycle objects d t n x to_time).events
