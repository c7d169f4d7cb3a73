-- What an attempt that is used leaves and gives.
use Rattle.std.specs.Prelude.{ℕ, ◌&&◌, Bool, true, false, nat_lt, List, []}
use Rattle.step_data.specs.declared.breaks.ThresholdState.{ThresholdState}
use Rattle.step_data.specs.declared.event.Event.{Event}
use Rattle.step_data.specs.declared.tip.Attempt.{Attempt}
use Rattle.step_data.specs.Steps.{next, is_accepted, is_failed}
use Rattle.lockstep_model.specs.Crossing.{differs}
use Rattle.run_place.specs.declared.place.RunPlace.{RunPlace}
use Rattle.run_place.specs.Decisions.{chosen_at}
use Rattle.run_place.specs.Giving.{bound_at, point_at}
use Rattle.run_place.specs.Outcomes.{crossed_left, too_small}

-- an accepted point after the time
abbrev pub gives_at : ℕ → Attempt → Bool
gives_at time a = is_accepted a.kind && nat_lt time a.end

-- at which a threshold differs
abbrev pub crosses_at : Bool → Attempt → List ThresholdState → Bool
crosses_at gives a thresholds = gives && differs a.x thresholds

-- a crossing is searched before its end, with its values there
abbrev pub crossing_left : Attempt → ℕ → RunPlace → RunPlace
crossing_left a xres p = crossed_left a.end xres (record p { at_hi = a.x })

-- the branches of a point that is given
abbrev pub given_at : Bool → Bool → List ℕ → RunPlace → RunPlace
given_at true is_chosen branches p = chosen_at is_chosen branches p
given_at false is_chosen branches p = p

-- the run ends where it failed
abbrev pub ended_by : Bool → Attempt → RunPlace → RunPlace
ended_by true a p = too_small a.end a.cause.code p
ended_by false a p = p

-- behind one that is no crossing
abbrev pub passed_left : Bool → Attempt → Bool → List ℕ → RunPlace → RunPlace
passed_left gives a is_chosen branches p =
    ended_by (is_failed a.kind) a (record (given_at gives is_chosen branches p) { tip = next p.tip a })

abbrev pub used_left : Bool → Bool → Attempt → ℕ → Bool → List ℕ → RunPlace → RunPlace
used_left true gives a xres is_chosen branches p = crossing_left a xres p
used_left false gives a xres is_chosen branches p = passed_left gives a is_chosen branches p

abbrev pub passed_events : Bool → Attempt → Bool → List ℕ → RunPlace → List Event
passed_events true a is_chosen branches p = point_at p a.end 0 a.x is_chosen branches
passed_events false a is_chosen branches p = []

abbrev pub used_events : Bool → Bool → Attempt → ℕ → Bool → List ℕ → RunPlace → List Event
used_events true gives a xres is_chosen branches p = bound_at (crossing_left a xres p) is_chosen branches
used_events false gives a xres is_chosen branches p = passed_events gives a is_chosen branches p
