-- A run as the list of its works.
use Rattle.std.specs.Prelude.{ℕ, Bool, true, false, List, [], ◌∷◌, ◌++◌, ◌+◌}
use Rattle.ams_value.specs.declared.val.Val.{Val}
use Rattle.step_data.specs.declared.tip.Tip.{Tip}
use Rattle.step_data.specs.declared.tip.Attempt.{Attempt}
use Rattle.step_data.specs.declared.event.Event.{Event}
use Rattle.step_data.specs.declared.outcome.End.{End}
use Rattle.lockstep_model.specs.RunStates.{RunState}

-- what a work is, apart from an attempt
pub data WorkKind : Type 0 where
  Start : WorkKind
  Solve : WorkKind
  Cycle : WorkKind
  Side : WorkKind
  Probe : WorkKind

-- a tip and a frame from which attempts are made
pub record Standing : Type 0 where
  pub tip : Tip
  pub frame : List Val

-- What lockstep does. A worked one gives events and leaves a tip and a frame; true where the attempts begin anew from
-- these. A tried one is an attempt from a tip under a frame, which had to end by a time; it may be a crossing, after
-- which the tip stays; and it gives events.
pub data Work : Type 0 where
  Worked : WorkKind → List Event → Bool → Standing → Work
  Tried : Tip → List Val → ℕ → Attempt → Bool → List Event → Work

-- the works in order, of each the state in which it begins, and the end
pub record Run : Type 0 where
  pub works : List Work
  pub states : List RunState
  pub end : End

abbrev pub before : RunState → Work → Run → Run
before p w r = record { works = w ∷ r.works; states = p ∷ r.states; end = r.end }

abbrev pub followed_by : List Work → List RunState → Run → Run
followed_by works states r = record { works = works ++ r.works; states = states ++ r.states; end = r.end }

abbrev pub over : End → Run
over e = record { works = []; states = []; end = e }

-- the events that the works give
abbrev pub events_of_work : Work → List Event
events_of_work (Worked kind events renews standing) = events
events_of_work (Tried tip frame until made crossing events) = events

abbrev pub events_of : List Work → List Event
events_of [] = []
events_of (w ∷ works) = events_of_work w ++ events_of works

-- how many works of a kind there are, by what each kind counts
abbrev pub starts_at : WorkKind → ℕ
starts_at Start = 1
starts_at Solve = 0
starts_at Cycle = 0
starts_at Side = 0
starts_at Probe = 0

abbrev pub solutions_at : WorkKind → ℕ
solutions_at Start = 0
solutions_at Solve = 1
solutions_at Cycle = 0
solutions_at Side = 0
solutions_at Probe = 0

abbrev pub cycles_at : WorkKind → ℕ
cycles_at Start = 0
cycles_at Solve = 0
cycles_at Cycle = 1
cycles_at Side = 0
cycles_at Probe = 0

abbrev pub side_steps_at : WorkKind → ℕ
side_steps_at Start = 0
side_steps_at Solve = 0
side_steps_at Cycle = 0
side_steps_at Side = 1
side_steps_at Probe = 0

abbrev pub probes_at : WorkKind → ℕ
probes_at Start = 0
probes_at Solve = 0
probes_at Cycle = 0
probes_at Side = 0
probes_at Probe = 1

abbrev pub steps_at : WorkKind → ℕ
steps_at Start = 0
steps_at Solve = 0
steps_at Cycle = 0
steps_at Side = 1
steps_at Probe = 1

-- the sum over the works that are no attempts
abbrev pub worked_in : (WorkKind → ℕ) → List Work → ℕ
worked_in counts [] = 0
worked_in counts (Worked kind events renews standing ∷ works) = counts kind + worked_in counts works
worked_in counts (Tried tip frame until made crossing events ∷ works) = worked_in counts works

-- the start is no cycle
abbrev pub cycles_in : List Work → ℕ
cycles_in works = worked_in cycles_at works

abbrev pub starts_in : List Work → ℕ
starts_in works = worked_in starts_at works

abbrev pub solutions_in : List Work → ℕ
solutions_in works = worked_in solutions_at works

abbrev pub side_steps_in : List Work → ℕ
side_steps_in works = worked_in side_steps_at works

abbrev pub probes_in : List Work → ℕ
probes_in works = worked_in probes_at works

-- attempts, side steps and probes together
abbrev pub tries_in : List Work → ℕ
tries_in [] = 0
tries_in (Worked kind events renews standing ∷ works) = steps_at kind + tries_in works
tries_in (Tried tip frame until made crossing events ∷ works) = 1 + tries_in works

-- how many attempts alone
abbrev pub attempts_in : List Work → ℕ
attempts_in [] = 0
attempts_in (Worked kind events renews standing ∷ works) = attempts_in works
attempts_in (Tried tip frame until made crossing events ∷ works) = attempts_in works + 1

-- from how many of the works the attempts begin anew
abbrev pub renewal_of : Bool → ℕ
renewal_of false = 0
renewal_of true = 1

abbrev pub renewals_in : List Work → ℕ
renewals_in [] = 0
renewals_in (Worked kind events renews standing ∷ works) = renewal_of renews + renewals_in works
renewals_in (Tried tip frame until made crossing events ∷ works) = renewals_in works
