-- Signals and their pending transactions have values of their types.
use Rattle.std.specs.Prelude.{◌≡◌, ◌≤◌, ℕ, Bool, ℤ, IsTrue, List, map, length, Some}
use Rattle.std.specs.List.{slice_get, All, AllZip}
use Rattle.fix_core.specs.Units.{most_ticks}
use Rattle.ams_value.specs.declared.val.Val.{Val}
use Rattle.ams_value.specs.Types.{type_of, is_in_range}
use Rattle.flat_design.specs.declared.objects.Signal.{Signal}
use Rattle.flat_design.specs.declared.objects.Objects.{Objects}
use Rattle.flat_design.specs.Order.{unknown_count}
use Rattle.flat_design.specs.Reads.{frame_of}
use Rattle.step_data.specs.declared.trans.Trans.{Trans}
use Rattle.step_data.specs.declared.breaks.Element.{Element}
use Rattle.step_model.specs.System.{Digital}
use Rattle.design_meaning.specs.Readings.{Seen}
use Rattle.design_meaning.specs.Typed.{IsOfType}
use Rattle.cycle_meaning.specs.World.{World, Context, driven_of}
use Rattle.cycle_meaning.specs.Cycles.{context_at, first_digital, first_world, world_of, frame}
use Rattle.design_rules.specs.Types.{sizes_of}
use Rattle.design_rules.specs.Design.{IsDesign}
use Rattle.system_model.specs.System.{are_values_of, is_element}
use Rattle.process_rest.specs.Resting.{IsWorld}

-- a value of the type of the signal with a number, in its range
abbrev pub IsOfSignal : Objects → ℕ → Val → Type 0
IsOfSignal objects i v = (s : Signal) → slice_get objects.signals i ≡ Some s → IsOfType (sizes_of objects) s.kind v

-- each pending transaction of the driver of a signal has such a value
abbrev pub IsQueueOf : Objects → ℕ → List Trans → Type 0
IsQueueOf objects i queue = All (λ (x : Trans). IsOfSignal objects i x.value) queue

-- the driven signals in order have the queues in order
abbrev pub QueuesFit : Objects → List (List Trans) → Type 0
QueuesFit objects queues = AllZip (IsQueueOf objects) (driven_of objects) queues

-- signals and queues between two cycles
pub record ValuesFit (objects : Objects) (values : List Val) (pending : List (List Trans)) : Type 0 where
  pub kinds : map type_of values ≡ map (λ (s : Signal). s.kind) objects.signals
  pub ranges : All (λ v. IsTrue (is_in_range (sizes_of objects) v)) values
  pub queues : QueuesFit objects pending

-- each selector is a differentiated quantity, and each quantity one of the design (IEEE 1076.1, break statement)
abbrev pub AreElements : Objects → List Element → Type 0
AreElements objects elements = All (λ (e : Element). IsTrue (is_element objects e)) elements

-- what processes read has the types of the design, pending transactions those of their signals, and break elements are of the design
pub record WorldFits (here : Context) (w : World) : Type 0 where
  pub world : IsWorld here w
  pub queues : QueuesFit here.objects w.queues
  pub elements : AreElements here.objects w.elements

-- ---- at the beginning

abbrev pub FirstFits : Type 0
FirstFits =
    (objects : Objects) (x : List ℤ) (process : ℕ) → IsDesign objects → length x ≡ unknown_count objects
    → WorldFits (context_at objects 0 0 x process) (first_world objects)

-- the world at the beginning of a cycle
abbrev pub BegunFits : Type 0
BegunFits =
    (objects : Objects) (d : Digital) (t n : ℕ) (x : List ℤ) (to_time : Bool) (process : ℕ)
    → IsDesign objects → ValuesFit objects d.signals d.queues → length x ≡ unknown_count objects → t ≤ most_ticks
    → WorldFits (context_at objects t n x process) (world_of objects d t n x to_time)

-- a world of which the same is read
abbrev pub WorldStays : Type 0
WorldStays = (here : Context) (w v : World) → v.signals ≡ w.signals → v.thresholds ≡ w.thresholds → v.domain ≡ w.domain → IsWorld here w → IsWorld here v

-- what is kept of such a world
abbrev pub KeptFits : Type 0
KeptFits = (here : Context) (w : World) → WorldFits here w → ValuesFit here.objects (map (λ (s : Seen). s.value) w.signals) w.queues

-- ---- the frame that equations read

abbrev pub FrameFits : Type 0
FrameFits = (objects : Objects) (d : Digital) → IsDesign objects → ValuesFit objects d.signals d.queues → IsTrue (are_values_of objects (frame_of objects) (frame objects d))

-- before the start
abbrev pub FirstFrameFits : Type 0
FirstFrameFits = (objects : Objects) → IsDesign objects → IsTrue (are_values_of objects (frame_of objects) (frame objects (first_digital objects)))
