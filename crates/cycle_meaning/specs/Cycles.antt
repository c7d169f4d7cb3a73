-- The digital cycle (IEEE 1076, 14.7.5; the order of thresholds and DOMAIN is own), the start of a run, and what is read of
-- the state between cycles.
use Rattle.std.specs.Prelude.{ℕ, ◌+◌, Bool, true, false, not, ◌||◌, nat_eq, ℤ, if◌then◌else◌, List, [], ◌∷◌, ◌++◌, map, Option, Some, None, Result, Ok, Err}
use Rattle.std.specs.List.{slice_index_or, slice_get, list_any}
use Rattle.ams_value.specs.declared.val.Val.{Val}
use Rattle.ams_value.specs.declared.val.Val.TheVariants as val
use Rattle.ams_value.specs.Values.{equals}
use Rattle.flat_expr.specs.declared.expr.SignalName.{SignalName}
use Rattle.flat_expr.specs.declared.expr.SignalName.TheVariants as name
use Rattle.flat_expr.specs.declared.expr.FlatExpr.{FlatExpr}
use Rattle.flat_expr.specs.declared.statement.Statement.{Statement, out-Statement}
use Rattle.flat_expr.specs.declared.statement.Statement.TheOpen.{Statement-F}
use Rattle.flat_design.specs.declared.objects.PathStep.{PathStep}
use Rattle.flat_design.specs.declared.objects.WaitPlace.{WaitPlace}
use Rattle.flat_design.specs.declared.objects.Threshold.{Threshold}
use Rattle.flat_design.specs.declared.objects.Process.{Process}
use Rattle.flat_design.specs.declared.objects.Objects.{Objects}
use Rattle.flat_design.specs.Reads.{frame_of}
use Rattle.step_data.specs.declared.trans.Trans.{Trans}
use Rattle.step_data.specs.declared.breaks.ThresholdState.{ThresholdState}
use Rattle.step_data.specs.declared.breaks.Element.{Element}
use Rattle.step_data.specs.declared.event.Event.{Event}
use Rattle.step_data.specs.declared.event.Event.TheVariants as event
use Rattle.step_data.specs.declared.outcome.Refusal.{Refusal}
use Rattle.step_data.specs.declared.outcome.Ran.TheVariants.{Done, Refused}
use Rattle.step_data.specs.Pending.{due, advanced}
use Rattle.step_data.specs.Thresholds.{is_above}
use Rattle.step_data.specs.Times.{earliest_of}
use Rattle.step_model.specs.System.{ProcessState, Digital, CycleOutcome}
use Rattle.design_meaning.specs.Readings.{Seen, still, seen_of}
use Rattle.design_meaning.specs.Reading.{quiescent_domain, time_domain}
use Rattle.cycle_meaning.specs.Task.{statements, Layer, branch_body, alternative_body}
use Rattle.cycle_meaning.specs.World.{World, Context, Local, readings_at, holds, driven_of}
use Rattle.cycle_meaning.specs.Processes.{Stop, stopped, refused, run, statement_budget, state_of, left_behind, variables_at}

-- ---- a change of a signal is an event

abbrev pub changed : Seen → Val → Seen
changed s v = record { value = v; event = not (equals s.value v) }

-- the event of a signal that changed, as a list
abbrev pub event_if : Bool → Event → List Event
event_if true e = e ∷ []
event_if false e = []

-- ---- threshold signals, by number

abbrev pub with_thresholds : List ℤ → List Threshold → List Bool → List Seen
with_thresholds x [] kept = []
with_thresholds x (k ∷ more) [] = changed (still (val.Bool false)) (val.Bool (is_above x k.quantity k.level)) ∷ with_thresholds x more []
with_thresholds x (k ∷ more) (b ∷ kept) = changed (still (val.Bool b)) (val.Bool (is_above x k.quantity k.level)) ∷ with_thresholds x more kept

abbrev pub is_on : Val → Bool
is_on (val.Bool b) = b
is_on _ = false

abbrev pub crossings : ℕ → ℕ → ℕ → List Seen → List Event
crossings t n k [] = []
crossings t n k (s ∷ more) = event_if s.event (event.Cross t n k (is_on s.value)) ++ crossings t n (k + 1) more

-- ---- driving values: a driver is active where a transaction stands at the time

abbrev pub driving : Seen → Option Trans → Seen
driving s None = s
driving s (Some x) = changed s x.value

-- the queue of a signal, where it is driven: the driven signals in order have the queues in order
abbrev pub queue_in : ℕ → List ℕ → List (List Trans) → List Trans
queue_in i [] queues = []
queue_in i (j ∷ more) [] = []
queue_in i (j ∷ more) (q ∷ queues) = if nat_eq i j then q else queue_in i more queues

abbrev pub with_driving : ℕ → List ℕ → List (List Trans) → ℕ → List Val → List Seen
with_driving t driven queues i [] = []
with_driving t driven queues i (v ∷ more) =
    driving (still v) (due t (queue_in i driven queues)) ∷ with_driving t driven queues (i + 1) more

abbrev pub signal_events : ℕ → ℕ → ℕ → List Seen → List Event
signal_events t n i [] = []
signal_events t n i (s ∷ more) = event_if s.event (event.Signal t n i s.value) ++ signal_events t n (i + 1) more

-- ---- the world as the processes of a cycle find it

abbrev pub domain_in : Bool → Bool → Seen
domain_in timed to_time = record { value = if timed || to_time then time_domain else quiescent_domain; event = to_time }

abbrev pub world_of : Objects → Digital → ℕ → ℕ → List ℤ → Bool → World
world_of objects d t n x to_time =
    let thresholds : List Seen = with_thresholds x objects.thresholds d.kept in
    let signals : List Seen = with_driving t (driven_of objects) d.queues 0 d.signals in
    record {
      signals = signals;
      thresholds = thresholds;
      domain = domain_in d.timed to_time;
      queues = map (advanced t) d.queues;
      elements = [];
      broke = false;
      events = event_if to_time (event.Domain t n) ++ crossings t n 0 thresholds ++ signal_events t n 0 signals;
    }

-- ---- resumption

-- the sensitivity set and the condition of the wait that a way leads to
abbrev pub Waiting : Type 0
Waiting = List SignalName × Option FlatExpr

abbrev pub waiting_inside : (List Statement → Waiting) → ℕ → Layer → Waiting
waiting_inside inner b (Statement-F.If branches last) = inner (branch_body branches last b)
waiting_inside inner b (Statement-F.Case expression alternatives) = inner (alternative_body alternatives b)
waiting_inside inner b (Statement-F.Loop condition body) = inner body
waiting_inside inner b (Statement-F.For p left direction right body) = inner body
waiting_inside inner b (Statement-F.Wait number on condition timeout) = (on, condition)
waiting_inside inner b _ = ([], None)

abbrev pub waiting_in : (List Statement → Waiting) → ℕ → Option Statement → Waiting
waiting_in inner b None = ([], None)
waiting_in inner b (Some s) = waiting_inside inner b (out-Statement s)

unfoldable pub waiting_at : List PathStep → List Statement → Waiting
waiting_at [] body = ([], None)
waiting_at (step ∷ path) body = waiting_in (waiting_at path) step.branch (slice_get body step.statement)

abbrev pub waiting_for : Process → Option WaitPlace → Waiting
waiting_for p (Some w) = waiting_at w.path p.statements
waiting_for p None = ([], None)

abbrev pub waiting_of : Process → ProcessState → Waiting
waiting_of p s = waiting_for p (slice_get p.waits s.wait)

abbrev pub is_timed_out : ℕ → Option ℕ → Bool
is_timed_out t (Some at) = nat_eq t at
is_timed_out t None = false

abbrev pub local_of : World → Process → ProcessState → Local
local_of w p s = record { world = w; variables = variables_at p s }

abbrev pub condition_met : Bool → Result Bool Refusal → Result Bool Refusal
condition_met true condition = condition
condition_met false condition = Ok false

abbrev pub is_met_by : Bool → Result Bool Refusal → Result Bool Refusal
is_met_by true otherwise = Ok true
is_met_by false otherwise = otherwise

-- a wait is met at its timeout, without its condition, or where a signal of its sensitivity set had an event and the condition is TRUE
abbrev pub is_met : Context → World → Process → ProcessState → Result Bool Refusal
is_met here w p s =
    let l : Local = local_of w p s in
    is_met_by (is_timed_out here.t s.timeout)
    (condition_met (list_any (λ i. (seen_of (readings_at here l) i).event) (waiting_of p s).0) (holds here l (waiting_of p s).1))

abbrev pub context_at : Objects → ℕ → ℕ → List ℤ → ℕ → Context
context_at objects t n x process = record { objects = objects; process = process; t = t; n = n; x = x }

abbrev pub joined : Result Bool Refusal → Result (List Bool) Refusal → Result (List Bool) Refusal
joined (Ok b) (Ok bs) = Ok (b ∷ bs)
joined (Ok b) (Err r) = Err r
joined (Err r) others = Err r

-- which processes resume: all waits are looked at first, in process order
unfoldable pub resumes : (ℕ → Context) → World → ℕ → List Process → List ProcessState → Result (List Bool) Refusal
resumes at w k [] states = Ok []
resumes at w k (p ∷ ps) [] = Ok []
resumes at w k (p ∷ ps) (s ∷ states) = joined (is_met (at k) w p s) (resumes at w (k + 1) ps states)

-- ---- the processes that resume run in order

-- the world behind some processes and their states, or a refusal with the events before it
pub data Ran_of : Type 0 where
  all_ran : World → List ProcessState → Ran_of
  one_refused : World → Refusal → Ran_of

abbrev pub with_state : ProcessState → Ran_of → Ran_of
with_state s (all_ran w states) = all_ran w (s ∷ states)
with_state s (one_refused w r) = one_refused w r

abbrev pub after_stop : (World → Ran_of) → Process → Stop → Ran_of
after_stop others p (stopped number at rest l) = with_state (state_of p.variables number at rest l) (others l.world)
after_stop others p (refused l r) = one_refused l.world r

abbrev pub by_resumption : Bool → (World → Ran_of) → Context → World → Process → ProcessState → Ran_of
by_resumption true others here w p s = after_stop others p (run statement_budget here (local_of w p s) (left_behind p s))
by_resumption false others here w p s = with_state s (others w)

unfoldable pub run_all : (ℕ → Context) → ℕ → List Process → List ProcessState → List Bool → World → Ran_of
run_all at k [] states resumed w = all_ran w []
run_all at k (p ∷ ps) [] resumed w = all_ran w []
run_all at k (p ∷ ps) (s ∷ states) [] w = all_ran w (s ∷ states)
run_all at k (p ∷ ps) (s ∷ states) (b ∷ bs) w = by_resumption b (run_all at (k + 1) ps states bs) (at k) w p s

-- ---- a cycle

abbrev pub kept_in : World → List Bool
kept_in w = map (λ (s : Seen). is_on s.value) w.thresholds

abbrev pub digital_of : Digital → ℕ → Bool → World → List ProcessState → Digital
digital_of d t timed w states =
    record d {
      time = t;
      timed = timed;
      kept = kept_in w;
      signals = map (λ (s : Seen). s.value) w.signals;
      queues = w.queues;
      processes = states;
      broken = w.elements;
    }

abbrev pub ended : Digital → ℕ → Bool → Ran_of → CycleOutcome
ended d t timed (all_ran w states) = record { digital = digital_of d t timed w states; events = w.events; ran = Done w.broke }
ended d t timed (one_refused w r) = record { digital = d; events = w.events; ran = Refused r }

abbrev pub after_resumption : Objects → Digital → ℕ → ℕ → List ℤ → Bool → World → Result (List Bool) Refusal → CycleOutcome
after_resumption objects d t n x timed w (Ok resumed) =
    ended d t timed (run_all (context_at objects t n x) 0 objects.processes d.processes resumed w)
after_resumption objects d t n x timed w (Err r) = record { digital = d; events = w.events; ran = Refused r }

-- the cycle at a time and a delta, with these values of the unknowns; DOMAIN becomes TIME_DOMAIN in it where `to_time` says so
unfoldable pub cycle : Objects → Digital → ℕ → ℕ → List ℤ → Bool → CycleOutcome
cycle objects d t n x to_time =
    let w : World = world_of objects d t n x to_time in
    after_resumption objects d t n x (d.timed || to_time) w (resumes (context_at objects t n x) w 0 objects.processes d.processes)

-- ---- the start: every process runs once up to its wait

abbrev pub first_world : Objects → World
first_world objects =
    record {
      signals = map (λ s. still s.initial) objects.signals;
      thresholds = map (λ k. still (val.Bool false)) objects.thresholds;
      domain = still quiescent_domain;
      queues = map (λ i. []) (driven_of objects);
      elements = [];
      broke = false;
      events = [];
    }

abbrev pub first_digital : Objects → Digital
first_digital objects =
    record {
      time = 0;
      timed = false;
      kept = map (λ k. false) objects.thresholds;
      signals = map (λ s. s.initial) objects.signals;
      queues = map (λ i. []) (driven_of objects);
      processes = [];
      ramps = map (λ r. false) objects.ramps;
      broken = [];
    }

unfoldable pub start_all : (ℕ → Context) → ℕ → List Process → World → Ran_of
start_all at k [] w = all_ran w []
start_all at k (p ∷ ps) w =
    after_stop (start_all at (k + 1) ps) p
    (run statement_budget (at k) (record { world = w; variables = map (λ v. v.initial) p.variables }) (statements p.statements))

unfoldable pub start : Objects → List ℤ → CycleOutcome
start objects x = ended (first_digital objects) 0 false (start_all (context_at objects 0 0 x) 0 objects.processes (first_world objects))

-- ---- what is read between cycles

abbrev pub first_time : List Trans → Option ℕ
first_time [] = None
first_time (x ∷ later) = Some x.at

-- the least time at which a transaction or a timeout stands
abbrev pub next_time : Digital → Option ℕ
next_time d = earliest_of (map first_time d.queues ++ map (λ (s : ProcessState). s.timeout) d.processes)

abbrev pub value_in : Digital → SignalName → Val
value_in d (name.Signal i) = slice_index_or d.signals i (val.Bool false)
value_in d (name.Threshold k) = val.Bool (slice_index_or d.kept k false)
value_in d name.Domain = if d.timed then time_domain else quiescent_domain

-- the values of the signals of the frame
abbrev pub frame : Objects → Digital → List Val
frame objects d = map (value_in d) (frame_of objects)

abbrev pub threshold_states : List Threshold → List Bool → List ThresholdState
threshold_states [] kept = []
threshold_states (k ∷ more) [] = record { unknown = k.quantity; level = k.level; on = false } ∷ threshold_states more []
threshold_states (k ∷ more) (b ∷ kept) = record { unknown = k.quantity; level = k.level; on = b } ∷ threshold_states more kept

-- the thresholds with their kept values
abbrev pub thresholds : Objects → Digital → List ThresholdState
thresholds objects d = threshold_states objects.thresholds d.kept

-- the break elements that the last cycle executed
abbrev pub breaks : Digital → List Element
breaks d = d.broken
