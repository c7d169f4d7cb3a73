-- What a place stands for, beside the digital side.
use Rattle.std.specs.Prelude.{ℕ, Bool, true, false, ℤ, List, [], Option, Some, None}
use Rattle.ams_value.specs.declared.val.Val.{Val}
use Rattle.step_model.specs.System.{Digital}
use Rattle.lockstep_model.specs.RunStates.{RunState}
use Rattle.above_events.specs.Locating.{Span, with_point}
use Rattle.cycle_machine.specs.Held as h
use Rattle.cycle_machine.specs.Held.{Held}
use Rattle.run_place.specs.declared.place.RunPlace.{RunPlace}
use Rattle.run_place.specs.declared.place.Stage.{Stage}
use Rattle.run_place.specs.declared.place.Stage.TheVariants as stages

abbrev pub stage_of : Stage → Span → List ℤ → h.Stage
stage_of stages.Unstarted s x = h.Unstarted
stage_of stages.Placed s x = h.Placed
stage_of (stages.InDelta to_time) s x = h.InDelta to_time
stage_of (stages.InCycle to_time) s x = h.InCycle to_time
stage_of stages.InPhase s x = h.InPhase
stage_of stages.InSearch s x = h.InSearch (with_point s x)
stage_of (stages.Finished e) s x = h.Finished e

-- what is there only where something was
abbrev pub solved_of : Bool → List Val → Option (List Val)
solved_of false frame = None
solved_of true frame = Some frame

abbrev pub branches_of : Bool → List ℕ → List ℕ
branches_of false branches = []
branches_of true branches = branches

abbrev pub state_of : Digital → RunPlace → RunState
state_of d p =
    record {
      digital = d;
      time = p.time;
      delta = p.delta;
      timed = p.timed;
      broke = p.broke;
      point = p.point;
      tip = p.tip;
      solved = solved_of p.is_solved p.solved;
      gathered = p.gathered;
      branches = branches_of p.has_branches p.branches;
    }

abbrev pub held_of : Digital → RunPlace → Held
held_of d p =
    record {
      stage = stage_of p.stage p.search p.at_hi;
      cycles = p.cycles_left;
      tries = p.tries_left;
      state = state_of d p;
    }
