-- Each point that a run gives meets its equations: by the lines of the trace alone, and by the set, the step and the method
-- by which it was found.
use Rattle.std.specs.Prelude.{◌≡◌, ◌≤◌, ℕ, ◌-◌, Bool, true, false, ℤ, unsigned_abs, if◌then◌else◌, List, [], ◌∷◌, ◌++◌, length, map, replicate, Some, None, IsOkAnd}
use Rattle.std.specs.List.{All, slice_index_or}
use Rattle.ams_value.specs.declared.val.Val.{Val}
use Rattle.ams_value.specs.declared.val.Val.TheVariants as val
use Rattle.flat_expr.specs.declared.expr.SignalName.{SignalName}
use Rattle.flat_expr.specs.declared.expr.SignalName.TheVariants as name
use Rattle.flat_design.specs.declared.objects.Signal.{Signal}
use Rattle.flat_design.specs.declared.objects.Threshold.{Threshold}
use Rattle.flat_design.specs.declared.objects.Objects.{Objects}
use Rattle.flat_design.specs.Reads.{frame_of}
use Rattle.step_data.specs.declared.breaks.Element.{Element}
use Rattle.step_data.specs.declared.event.Event.{Event}
use Rattle.step_data.specs.declared.event.Event.TheVariants as event
use Rattle.step_data.specs.declared.outcome.End.{End}
use Rattle.step_data.specs.declared.outcome.Options.{Options}
use Rattle.step_data.specs.declared.outcome.ChooseKind.{ChooseKind}
use Rattle.step_data.specs.declared.outcome.ChooseKind.TheVariants.{Quiet, Timed}
use Rattle.step_data.specs.declared.outcome.SetKind.{SetKind}
use Rattle.step_data.specs.declared.outcome.SetKind.TheVariants.{Quiescent, Discontinuity}
use Rattle.step_model.specs.System.{Landing}
use Rattle.lockstep_model.specs.RunStates.{RunState}
use Rattle.lockstep_model.specs.Works.{Work, Worked, Tried, events_of, events_of_work}
use Rattle.lockstep_model.specs.Works as kinds
use Rattle.design_meaning.specs.Equations.{Row, residual_of, common_rows}
use Rattle.design_meaning.specs.Reading.{quiescent_domain, time_domain, readings_of}
use Rattle.design_meaning.specs.Steps.{selections_of}
use Rattle.design_meaning.specs.Solutions.{LandsWithin, SettlesWithin}
use Rattle.cycle_meaning.specs.Cycles.{frame}
use Rattle.trace_text.specs.Trace.{trace_text}
use Rattle.system_model.specs.Trace.{run_of}
use Rattle.point_laws.specs.Told.{Told, told_over, EachPoint}

-- ---- what equations read, by what was told

-- before the first event: no branch; the initial value of each signal; every threshold signal FALSE; QUIESCENT_DOMAIN
abbrev pub first_told : Objects → Told
first_told objects =
    record {
      branches = replicate (length (selections_of objects.equations)) None;
      signals = map (λ (s : Signal). s.initial) objects.signals;
      thresholds = map (λ (k : Threshold). false) objects.thresholds;
      timed = false;
    }

abbrev pub told_value : Told → SignalName → Val
told_value told (name.Signal i) = slice_index_or told.signals i (val.Bool false)
told_value told (name.Threshold k) = val.Bool (slice_index_or told.thresholds k false)
told_value told name.Domain = if told.timed then time_domain else quiescent_domain

-- the values of the signals of the frame
abbrev pub told_frame : Objects → Told → List Val
told_frame objects told = map (told_value told) (frame_of objects)

abbrev pub domain_kind : Bool → ChooseKind
domain_kind false = Quiet
domain_kind true = Timed

-- ---- a point, by the events before it

-- the equation has a residual at the point, at the time of the point, which is within the tolerance
abbrev pub IsMet : Objects → Options → Told → ℕ → List ℤ → Row → Type 0
IsMet objects options told t x row =
    IsOkAnd (residual_of row (readings_of objects (told_frame objects told) (domain_kind told.timed) t x)) (λ z. unsigned_abs z ≤ options.tol)

-- a branch of each choice was named; the equations outside choices, those of the branches that were named last, the sum of
-- each node and each across difference are met
pub record PointMeets (objects : Objects) (options : Options) (told : Told) (t : ℕ) (x : List ℤ) : Type 0 where
  pub branches : List ℕ
  pub named : told.branches ≡ map Some branches
  pub meets : All (IsMet objects options told t x) (common_rows objects branches)

-- so does each point among some events of a run, from its first one on, by the events in front of it
abbrev pub EventsMeet : Objects → Options → List Event → Type 0
EventsMeet objects options events =
    (front behind : List Event) (t n : ℕ) (x : List ℤ) → events ≡ front ++ event.Solved t n x ∷ behind → PointMeets objects options (told_over (first_told objects) front) t x

-- each point of a run
abbrev pub PointsMeet : Objects → Options → Type 0
PointsMeet objects options = EventsMeet objects options (events_of (run_of objects options).works)

-- a text is a trace with these options whose points do
pub record TextMeets (objects : Objects) (top : List ℕ) (options : Options) (text : List ℕ) : Type 0 where
  pub events : List Event
  pub last : End
  pub text_is : text ≡ trace_text objects top options events last
  pub meets : EventsMeet objects options events

-- ---- a point, by the state in which its work begins

-- the branches that were named, and the frame of the state, which is the one that was told
pub record IsToldAt (objects : Objects) (p : RunState) (told : Told) (branches : List ℕ) : Type 0 where
  pub named : told.branches ≡ map Some branches
  pub frame_is : told_frame objects told ≡ frame objects p.digital
  pub domain_is : told.timed ≡ p.timed

-- the set of a solution at one time, and its break elements: in QUIESCENT_DOMAIN all so far, in TIME_DOMAIN those of the last cycle
abbrev pub set_in : Bool → SetKind
set_in false = Quiescent
set_in true = Discontinuity

abbrev pub elements_in : Bool → RunState → List Element
elements_in false p = p.gathered
elements_in true p = p.digital.broken

-- a solution at the time of the state: every equation of its set, with break elements and augmentation, is within the tolerance
pub record IsSolvedIn (objects : Objects) (options : Options) (p : RunState) (told : Told) (t : ℕ) (x : List ℤ) : Type 0 where
  pub branches : List ℕ
  pub told_is : IsToldAt objects p told branches
  pub time_is : t ≡ p.time
  pub settles : SettlesWithin objects options (frame objects p.digital) t (set_in p.timed) (elements_in p.timed p) p.point branches x

-- the end of a step from the tip in TIME_DOMAIN: every equation of its set, with the augmentation by backward Euler or the
-- trapezoidal rule, is within the tolerance, and so is the error of the step
pub record IsSteppedIn (objects : Objects) (options : Options) (p : RunState) (told : Told) (t : ℕ) (x : List ℤ) : Type 0 where
  pub branches : List ℕ
  pub told_is : IsToldAt objects p told branches
  pub timed_is : p.timed ≡ true
  pub later : p.tip.t ≤ t
  pub landing : Landing
  pub point_is : landing.x ≡ x
  pub lands : LandsWithin objects options (frame objects p.digital) p.tip (t - p.tip.t) branches landing

-- start and cycles give no points
abbrev pub WorkMeets : Objects → Options → Work → RunState → Told → ℕ → List ℤ → Type 0
WorkMeets objects options (Worked kinds.Start events renews s) p told t x = ⊥
WorkMeets objects options (Worked kinds.Solve events renews s) p told t x = IsSolvedIn objects options p told t x
WorkMeets objects options (Worked kinds.Cycle events renews s) p told t x = ⊥
WorkMeets objects options (Worked kinds.Side events renews s) p told t x = IsSteppedIn objects options p told t x
WorkMeets objects options (Worked kinds.Probe events renews s) p told t x = IsSteppedIn objects options p told t x
WorkMeets objects options (Tried tip frame until made crossing events) p told t x = IsSteppedIn objects options p told t x

abbrev pub WorksMeet : Objects → Options → Told → List Work → List RunState → Type 0
WorksMeet objects options told [] [] = Unit {0}
WorksMeet objects options told [] (p ∷ states) = ⊥
WorksMeet objects options told (w ∷ works) [] = ⊥
WorksMeet objects options told (w ∷ works) (p ∷ states) =
    EachPoint (WorkMeets objects options w p) told (events_of_work w) × WorksMeet objects options (told_over told (events_of_work w)) works states

-- each point of each work of a run
abbrev pub RunMeets : Objects → Options → Type 0
RunMeets objects options = WorksMeet objects options (first_told objects) (run_of objects options).works (run_of objects options).states
