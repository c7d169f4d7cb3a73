-- What is true between two moves of where a run stands.
use Rattle.std.specs.Prelude.{◌≡◌, ℕ, ◌+◌, ◌-◌, ◌≤◌, ◌<◌, Bool, true, false, ℤ, List, length, All, IsTrue, IfSome}
use Rattle.ams_value.specs.declared.val.Val.{Val}
use Rattle.step_data.specs.declared.breaks.Element.{Element}
use Rattle.step_data.specs.declared.tip.Tip.{Tip}
use Rattle.step_model.specs.declared.kernel_stage.KernelStage.{KernelStage}
use Rattle.step_model.specs.declared.kernel_stage.KernelStage.TheVariants.{Unstarted, Going, Ended, Lost}
use Rattle.step_model.specs.Answers.{IsStep}
use Rattle.step_model.specs.Kernel.{KernelState}
use Rattle.step_model.specs.StepLaws.{HasStep}
use Rattle.step_model.specs.System.{System, Digital}
use Rattle.lockstep_model.specs.Lockstep as l
use Rattle.lockstep_model.specs.Lockstep.{until_of}
use Rattle.above_events.specs.Locating.{Span}
use Rattle.run_place.specs.declared.place.RunPlace.{RunPlace}
use Rattle.run_place.specs.declared.place.Stage.{Stage}
use Rattle.run_place.specs.declared.place.Stage.TheVariants as stages
use Rattle.run_place.specs.Places.{state_of}
use Rattle.run_place.specs.Budgets.{run_budget}

abbrev pub digital_by : KernelStage → System → Digital → Digital
digital_by Unstarted sys d = sys.unstarted
digital_by Going sys d = d
digital_by (Ended refusal) sys d = d
digital_by Lost sys d = d

-- the digital side of a kernel; before the start each signal has its initial value
abbrev pub digital_at : System → KernelState → Digital
digital_at sys k = digital_by k.stage sys k.digital

-- the lengths and ranges of what a place has
pub record Fits (sys : System) (time : ℕ) (point : List ℤ) (tip : Tip) (at_hi : List ℤ) (solved : List Val) (gathered : List Element) (branches : List ℕ) : Type 0 where
  pub time_most : time ≤ sys.options.stop
  pub point_fits : length point ≡ sys.unknowns
  pub tip_fits : length tip.x ≡ sys.unknowns
  pub tip_most : tip.t ≤ sys.options.stop
  pub step : HasStep sys.options tip.h
  pub at_hi_fits : length at_hi ≡ sys.unknowns
  pub solved_fits : length solved ≡ sys.frame_len
  pub elements : All (λ e. IsTrue (sys.is_element e)) gathered
  pub branches_fit : length branches ≡ sys.choices

abbrev pub PlaceFits : System → RunPlace → Type 0
PlaceFits sys p = Fits sys p.time p.point p.tip p.at_hi p.solved p.gathered p.branches

-- the kernel goes on: the frame is its, DOMAIN too, and its last cycle wasn't later
pub record Goes (sys : System) (k : KernelState) (frame : List Val) (time : ℕ) (timed : Bool) : Type 0 where
  pub stage : k.stage ≡ Going
  pub frame_is : frame ≡ sys.frame k.digital
  pub domain_is : k.digital.timed ≡ timed
  pub began : k.digital.time ≤ time

pub record IsPlaced (sys : System) (k : KernelState) (frame : List Val) (time : ℕ) (timed : Bool) (tip : Tip) : Type 0 where
  pub goes : Goes sys k frame time timed
  pub now : k.digital.time ≡ time
  pub tip_before : tip.t ≤ time

pub record IsDelta (sys : System) (k : KernelState) (frame : List Val) (time : ℕ) (timed : Bool) (tip : Tip) (to_time : Bool) : Type 0 where
  pub goes : Goes sys k frame time timed
  pub next : IfSome (sys.next_time k.digital) (λ m. time ≤ m)
  pub domain : to_time ≡ true → timed ≡ false
  pub tip_before : tip.t ≤ time

pub record IsPhase (sys : System) (k : KernelState) (frame : List Val) (time : ℕ) (timed : Bool) (tip : Tip) : Type 0 where
  pub goes : Goes sys k frame time timed
  pub later : time < until_of (sys.next_time k.digital) sys.options.stop
  pub tip_before : tip.t ≤ until_of (sys.next_time k.digital) sys.options.stop

pub record IsSearch (sys : System) (k : KernelState) (frame : List Val) (time : ℕ) (timed : Bool) (tip : Tip) (s : Span) : Type 0 where
  pub goes : Goes sys k frame time timed
  pub distance : s.xres ≡ sys.options.xres
  pub tip_before : tip.t ≤ s.lo
  pub time_before : time ≤ s.lo
  pub order : s.lo < s.hi
  pub until : s.hi ≤ until_of (sys.next_time k.digital) sys.options.stop
  pub step : IsStep (s.hi - tip.t)

pub record IsFirst (sys : System) (k : KernelState) (frame : List Val) (p : RunPlace) : Type 0 where
  pub stage : k.stage ≡ Unstarted
  pub frame_is : frame ≡ sys.frame sys.unstarted
  pub cycles : p.cycles_left ≡ sys.cycles
  pub tries : p.tries_left ≡ sys.tries
  pub state : state_of sys.unstarted p ≡ l.unstarted_state sys

abbrev pub StandsBy : Stage → System → KernelState → List Val → RunPlace → Type 0
StandsBy stages.Unstarted sys k frame p = IsFirst sys k frame p
StandsBy stages.Placed sys k frame p = IsPlaced sys k frame p.time p.timed p.tip
StandsBy (stages.InDelta to_time) sys k frame p = IsDelta sys k frame p.time p.timed p.tip to_time
StandsBy (stages.InCycle to_time) sys k frame p = IsDelta sys k frame p.time p.timed p.tip to_time
StandsBy stages.InPhase sys k frame p = IsPhase sys k frame p.time p.timed p.tip
StandsBy stages.InSearch sys k frame p = IsSearch sys k frame p.time p.timed p.tip p.search
StandsBy (stages.Finished e) sys k frame p = Unit {0}

-- a cycle was begun that isn't made
abbrev pub pending : Stage → ℕ
pending stages.Unstarted = 0
pending stages.Placed = 0
pending (stages.InDelta to_time) = 1
pending (stages.InCycle to_time) = 1
pending stages.InPhase = 0
pending stages.InSearch = 0
pending (stages.Finished e) = 0

abbrev pub cycles_ahead : RunPlace → ℕ
cycles_ahead p = p.cycles_left + pending p.stage

-- what is true of a place between two works
pub record Stands (sys : System) (k : KernelState) (frame : List Val) (cycles : ℕ) (p : RunPlace) : Type 0 where
  pub fits : PlaceFits sys p
  pub stands : StandsBy p.stage sys k frame p
  pub few : cycles + cycles_ahead p ≤ run_budget
