-- A design whose steps, solutions and cycles are listed.
use Rattle.std.specs.Prelude.{◌≡◌, ℕ, ◌+◌, ◌==◌, ◌&&◌, ◌||◌, Bool, true, false, max, ℤ, pos, List, [], ◌∷◌, length, if◌then◌else◌, slice_get, Option, Some, None, Result, Ok, Err}
use Rattle.std.specs.List.{position}
use Rattle.ams_value.specs.declared.val.Val.{Val}
use Rattle.message_codes.specs.Codes as codes
use Rattle.step_data.specs.declared.tip.Tip.{Tip}
use Rattle.step_data.specs.declared.breaks.Element.{Element}
use Rattle.step_data.specs.declared.breaks.ThresholdState.{ThresholdState}
use Rattle.step_data.specs.declared.event.Event.{Event}
use Rattle.step_data.specs.declared.event.Event.TheVariants.{Domain, Cross, Signal, Broke}
use Rattle.step_data.specs.declared.outcome.Cause.{Cause}
use Rattle.step_data.specs.declared.outcome.ChooseKind.{ChooseKind}
use Rattle.step_data.specs.declared.outcome.Options.{Options}
use Rattle.step_data.specs.declared.outcome.SetKind.{SetKind}
use Rattle.step_data.specs.declared.outcome.Ran.{Ran}
use Rattle.step_data.specs.declared.outcome.Ran.TheVariants.{Done, Refused}
use Rattle.step_model.specs.System.{System, Digital, ProcessState, CycleOutcome, Landing}
use Rattle.listed_models.specs.declared.rows.StepRow.{StepRow}
use Rattle.listed_models.specs.declared.rows.StepAnswer.{StepAnswer}
use Rattle.listed_models.specs.declared.rows.StepAnswer.TheVariants as answers
use Rattle.listed_models.specs.declared.rows.SolutionRow.{SolutionRow}
use Rattle.listed_models.specs.declared.rows.CycleRow.{CycleRow}
use Rattle.listed_models.specs.declared.rows.Given.{Given}
use Rattle.listed_models.specs.declared.rows.Given.TheVariants as given

-- the cause of what isn't listed
abbrev pub not_listed : Cause
not_listed = record { code = codes.error_too_large; column = 0 }

abbrev pub is_step_of : ℕ → ℕ → StepRow → Bool
is_step_of t s row = row.from == t && row.size == s

abbrev pub landing_of : StepAnswer → Result Landing Cause
landing_of (answers.Landed value err) = Ok (record { x = value ∷ []; err = err })
landing_of (answers.Refused cause) = Err cause

abbrev pub landing_in : Option StepRow → Result Landing Cause
landing_in None = Err not_listed
landing_in (Some row) = landing_of row.answer

abbrev pub landing_at : List StepRow → Option ℕ → Result Landing Cause
landing_at steps None = Err not_listed
landing_at steps (Some i) = landing_in (slice_get steps i)

-- the first listed step from the time, of the size
abbrev pub step : List StepRow → ℕ → ℕ → Result Landing Cause
step steps t s = landing_at steps (position (is_step_of t s) steps)

abbrev pub is_solution_at : ℕ → SolutionRow → Bool
is_solution_at t row = row.at == t

abbrev pub value_in : Option SolutionRow → Result (List ℤ) Cause
value_in None = Err not_listed
value_in (Some row) = Ok (row.value ∷ [])

abbrev pub value_at : List SolutionRow → Option ℕ → Result (List ℤ) Cause
value_at solutions None = Err not_listed
value_at solutions (Some i) = value_in (slice_get solutions i)

abbrev pub solution : List SolutionRow → ℕ → Result (List ℤ) Cause
solution solutions t = value_at solutions (position (is_solution_at t) solutions)

-- a value as the list of all
abbrev pub values_of : Result ℤ Cause → Result (List ℤ) Cause
values_of (Ok value) = Ok (value ∷ [])
values_of (Err cause) = Err cause

-- the digital side stands behind the cycle of this number
abbrev pub digital_of : ℕ → Bool → ℕ → Digital
digital_of time timed at =
    record {
      time = time;
      timed = timed;
      kept = [];
      signals = [];
      queues = [];
      processes = record { wait = at; timeout = None; variables = []; loops = [] } ∷ [];
      ramps = [];
      broken = [];
    }

abbrev pub wait_of : List ProcessState → ℕ
wait_of [] = 0
wait_of (p ∷ ps) = p.wait

abbrev pub row_of : List CycleRow → Digital → Option CycleRow
row_of cycles d = slice_get cycles (wait_of d.processes)

abbrev pub elements_of : Option Element → List Element
elements_of None = []
elements_of (Some e) = e ∷ []

abbrev pub event_of : ℕ → ℕ → Given → Event
event_of t n given.Domain = Domain t n
event_of t n (given.Cross k on) = Cross t n k on
event_of t n (given.Signal value) = Signal t n 0 value
event_of t n (given.Broke element) = Broke t n (elements_of element)

abbrev pub events_of : ℕ → ℕ → List Given → List Event
events_of t n [] = []
events_of t n (g ∷ gs) = event_of t n g ∷ events_of t n gs

-- what a cycle gives: one behind the last that is listed is refused
abbrev pub events_at : ℕ → ℕ → Option CycleRow → List Event
events_at t n None = []
events_at t n (Some row) = events_of t n row.given.items

abbrev pub ran_of : Option CycleRow → Ran
ran_of None = Refused (record { code = codes.failure; detail = None })
ran_of (Some row) = Done row.broke

abbrev pub started : List CycleRow → List ℤ → CycleOutcome
started cycles x =
    record { digital = digital_of 0 false 0; events = events_at 0 0 (slice_get cycles 0); ran = ran_of (slice_get cycles 0) }

abbrev pub cycled : List CycleRow → Digital → ℕ → ℕ → List ℤ → Bool → CycleOutcome
cycled cycles d t n x to_time =
    record {
      digital = digital_of t (d.timed || to_time) (wait_of d.processes + 1);
      events = events_at t n (slice_get cycles (wait_of d.processes + 1));
      ran = ran_of (slice_get cycles (wait_of d.processes + 1));
    }

-- what is pending isn't before the time of the last cycle
abbrev pub not_before : ℕ → Option ℕ → Option ℕ
not_before time None = None
not_before time (Some t) = Some (max t time)

abbrev pub next_by : Option CycleRow → ℕ → Option ℕ
next_by None time = None
next_by (Some row) time = not_before time row.next

abbrev pub next_time : List CycleRow → Digital → Option ℕ
next_time cycles d = next_by (row_of cycles d) d.time

abbrev pub frame_by : Bool → Option CycleRow → List Val
frame_by reads None = []
frame_by reads (Some row) = if reads then row.value ∷ [] else []

abbrev pub thresholds_by : Option CycleRow → List ThresholdState
thresholds_by None = []
thresholds_by (Some row) = row.levels

abbrev pub breaks_by : Option CycleRow → List Element
breaks_by None = []
breaks_by (Some row) = row.breaks

abbrev pub frame_length : Bool → ℕ
frame_length reads = if reads then 1 else 0

abbrev pub system_of : List StepRow → List SolutionRow → List CycleRow → Bool → Options → System
system_of steps solutions cycles reads options =
    record {
      unknowns = 1;
      frame_len = frame_length reads;
      choices = 0;
      is_frame = λ frame. length frame == frame_length reads;
      is_element = λ e. true;
      is_printable = λ v. true;
      initial = pos 0 ∷ [];
      trial = λ frame tip s. step steps tip.t s;
      settle = λ frame t set elements x. solution solutions t;
      choose = λ frame t kind x. Ok [];
      unstarted = digital_of 0 false 0;
      start = started cycles;
      cycle = cycled cycles;
      next_time = next_time cycles;
      frame = λ d. frame_by reads (row_of cycles d);
      thresholds = λ d. thresholds_by (row_of cycles d);
      breaks = λ d. breaks_by (row_of cycles d);
      options = options;
      deltas = 1000;
      cycles = 200000;
      tries = 200000;
    }

-- a system has this analogue side
pub record SolvesAs (sys : System) (steps : List StepRow) (solutions : List SolutionRow) (reads : Bool) (options : Options) : Type 0 where
  pub unknowns : sys.unknowns ≡ 1
  pub frame_len : sys.frame_len ≡ frame_length reads
  pub choices : sys.choices ≡ 0
  pub initial : sys.initial ≡ pos 0 ∷ []
  pub trial : (frame : List Val) (tip : Tip) (s : ℕ) → sys.trial frame tip s ≡ step steps tip.t s
  pub settle : (frame : List Val) (t : ℕ) (set : SetKind) (elements : List Element) (x : List ℤ) → sys.settle frame t set elements x ≡ solution solutions t
  pub choose : (frame : List Val) (t : ℕ) (kind : ChooseKind) (x : List ℤ) → sys.choose frame t kind x ≡ Ok []
  pub options_are : sys.options ≡ options

-- and this digital side
pub record RunsAs (sys : System) (cycles : List CycleRow) (reads : Bool) : Type 0 where
  pub unknowns : sys.unknowns ≡ 1
  pub frame_len : sys.frame_len ≡ frame_length reads
  pub is_frame : (frame : List Val) → sys.is_frame frame ≡ (length frame == frame_length reads)
  pub is_element : (e : Element) → sys.is_element e ≡ true
  pub is_printable : (v : Val) → sys.is_printable v ≡ true
  pub unstarted : sys.unstarted ≡ digital_of 0 false 0
  pub start : sys.start ≡ started cycles
  pub cycle : sys.cycle ≡ cycled cycles
  pub next_time : sys.next_time ≡ next_time cycles
  pub frame : (d : Digital) → sys.frame d ≡ frame_by reads (row_of cycles d)
  pub thresholds : (d : Digital) → sys.thresholds d ≡ thresholds_by (row_of cycles d)
  pub breaks : (d : Digital) → sys.breaks d ≡ breaks_by (row_of cycles d)
