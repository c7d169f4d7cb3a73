-- The decisions at a place as functions of it, and what a step leaves.
use Rattle.std.specs.Prelude.{ℕ, ◌+◌, ◌-◌, ◌==◌, Bool, true, false, not, ◌&&◌, ◌||◌, nat_le, List, Option, None, if◌then◌else◌}
use Rattle.ams_value.specs.declared.val.Val.{Val}
use Rattle.message_codes.specs.Codes as codes
use Rattle.step_data.specs.declared.outcome.End.TheVariants.{Reached, Refused}
use Rattle.lockstep_model.specs.Crossing.{is_near}
use Rattle.lockstep_model.specs.Lockstep.{stands, until_of, is_unsolved}
use Rattle.above_events.specs.Locating.{with_point}
use Rattle.run_place.specs.declared.place.RunPlace.{RunPlace}
use Rattle.run_place.specs.declared.place.Stage.TheVariants.{InDelta, InCycle, InPhase, Finished}
use Rattle.run_place.specs.Places.{solved_of}
use Rattle.run_place.specs.Budgets.{delta_budget}

abbrev pub end_with : ℕ → RunPlace → RunPlace
end_with code p = record p { stage = Finished (Refused p.time (record { code = code; detail = None })) }

abbrev pub needs_at : RunPlace → List Val → Bool
needs_at p frame = p.broke || (not p.timed && is_unsolved (solved_of p.is_solved p.solved) frame)

abbrev pub is_due_at : RunPlace → Option ℕ → List Val → Bool
is_due_at p next frame = stands next p.time || needs_at p frame

abbrev pub began : Bool → RunPlace → RunPlace
began to_time p =
    if p.cycles_left == 0 then end_with codes.cycle_limit p
    else record p { stage = InDelta to_time; cycles_left = p.cycles_left - 1 }

abbrev pub reached : RunPlace → RunPlace
reached p = record p { stage = Finished (Reached p.time) }

abbrev pub arrived_at : Option ℕ → RunPlace → RunPlace
arrived_at next p = if stands next p.time then began false p else reached p

abbrev pub deeper_at : Bool → RunPlace → RunPlace
deeper_at to_time p =
    if nat_le delta_budget p.delta then end_with codes.delta_limit p else began to_time (record p { delta = p.delta + 1 })

abbrev pub placed_by : Bool → ℕ → RunPlace → RunPlace
placed_by due stop p =
    if due || not p.timed then deeper_at (not due) p
    else if p.time == stop then reached p
    else record p { stage = InPhase }

abbrev pub placed_at : Option ℕ → List Val → ℕ → RunPlace → RunPlace
placed_at next frame stop p = placed_by (is_due_at p next frame) stop p

abbrev pub delta_at : Bool → List Val → RunPlace → RunPlace
delta_at to_time frame p = if needs_at p frame then p else record p { stage = InCycle to_time }

-- the tip's point at the next time
abbrev pub at_tip_at : ℕ → RunPlace → RunPlace
at_tip_at t p = record p { time = t; delta = 0; point = p.tip.x }

-- no step is made without tries
abbrev pub tried_at : RunPlace → RunPlace
tried_at p = if p.tries_left == 0 then end_with codes.attempt_limit p else p

abbrev pub phase_at : Option ℕ → ℕ → RunPlace → RunPlace
phase_at next stop p =
    if p.tip.t == until_of next stop then arrived_at next (at_tip_at (until_of next stop) p) else tried_at p

abbrev pub chosen_at : Bool → List ℕ → RunPlace → RunPlace
chosen_at is_chosen branches p = if is_chosen then record p { branches = branches; has_branches = true } else p

abbrev pub stepped_at : ℕ → Bool → List ℕ → RunPlace → RunPlace
stepped_at t is_chosen branches p =
    chosen_at is_chosen branches (record p { time = t; delta = 0; point = p.at_hi; at_hi = p.point })

abbrev pub search_at : Bool → List ℕ → RunPlace → RunPlace
search_at is_chosen branches p =
    if is_near p.search.xres (with_point p.search p.at_hi) then began false (stepped_at p.search.hi is_chosen branches p)
    else tried_at p
