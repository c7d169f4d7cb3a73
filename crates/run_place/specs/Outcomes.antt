-- What each work leaves at a place.
use Rattle.std.specs.Prelude.{ℕ, ◌/◌, Bool, true, ◌||◌, ◌==◌, max, List, Option, Some, None, if◌then◌else◌}
use Rattle.ams_value.specs.declared.val.Val.{Val}
use Rattle.message_codes.specs.Codes as codes
use Rattle.step_data.specs.declared.outcome.Cause.{Cause}
use Rattle.step_data.specs.declared.outcome.End.TheVariants.{Refused}
use Rattle.step_data.specs.declared.outcome.Refusal.{Refusal}
use Rattle.run_place.specs.declared.place.RunPlace.{RunPlace}
use Rattle.run_place.specs.declared.place.Stage.TheVariants.{Placed, InCycle, InSearch, Finished}
use Rattle.run_place.specs.Decisions.{chosen_at, stepped_at, arrived_at}

abbrev pub too_small : ℕ → ℕ → RunPlace → RunPlace
too_small t code p =
    record p { stage = Finished (Refused t (record { code = codes.step_too_small; detail = Some code })) }

abbrev pub refused_left : Refusal → RunPlace → RunPlace
refused_left refusal p = record p { stage = Finished (Refused p.time refusal) }

abbrev pub renewed_at : ℕ → RunPlace → RunPlace
renewed_at h0 p = record p { tip = record { t = p.time; x = p.point; h = h0; fresh = true } }

-- in TIME_DOMAIN the tip is renewed, in QUIESCENT_DOMAIN the frame is kept
abbrev pub solved_left : ℕ → List Val → RunPlace → RunPlace
solved_left h0 frame p =
    if p.timed then renewed_at h0 p else record p { solved = frame; is_solved = true }

abbrev pub solution_left : Bool → ℕ → List Val → Bool → List ℕ → RunPlace → RunPlace
solution_left to_time h0 frame is_chosen branches p =
    solved_left h0 frame (record (chosen_at is_chosen branches p) { stage = InCycle to_time })

abbrev pub cycled_by : Bool → ℕ → RunPlace → RunPlace
cycled_by is_renewed h0 p = if is_renewed then renewed_at h0 p else p

abbrev pub cycled_left : Bool → ℕ → Bool → Bool → RunPlace → RunPlace
cycled_left to_time h0 broke is_renewed p =
    cycled_by is_renewed h0 (record p { stage = Placed; timed = p.timed || to_time; broke = broke })

abbrev pub crossed_left : ℕ → ℕ → RunPlace → RunPlace
crossed_left t xres p =
    record p { stage = InSearch; search = record { lo = max p.time p.tip.t; hi = t; xres = xres } }

abbrev pub halved_left : ℕ → RunPlace → RunPlace
halved_left step p = record p { tip = record p.tip { h = step / 2 } }

abbrev pub sided_left : ℕ → Option ℕ → Bool → List ℕ → RunPlace → RunPlace
sided_left t next is_chosen branches p = arrived_at next (stepped_at t is_chosen branches p)

-- a solution was refused; singular equations tell the column
abbrev pub unsolvable_left : Cause → RunPlace → RunPlace
unsolvable_left cause p =
    record p { stage = Finished (Refused p.time (record { code = cause.code; detail = if cause.code == codes.singular then Some cause.column else None })) }

-- the start was made
abbrev pub started_left : Bool → RunPlace → RunPlace
started_left broke p = record p { stage = Placed; broke = broke }
