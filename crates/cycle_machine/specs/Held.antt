-- Where the engine stands within a run: what it holds, the run that is left from there, and what it does next.
use Rattle.std.specs.Prelude.{ℕ, zero, suc, ◌==◌, Bool, true, false, not, nat_le, ℤ, List, [], Result, Ok, Err}
use Rattle.step_data.specs.declared.tip.Attempt.{Attempt}
use Rattle.step_data.specs.declared.outcome.Cause.{Cause}
use Rattle.step_data.specs.declared.outcome.End.{End}
use Rattle.step_data.specs.declared.outcome.End.TheVariants.{Reached, Refused}
use Rattle.step_data.specs.declared.outcome.Ran.{Ran}
use Rattle.step_data.specs.declared.outcome.Ran.TheVariants as rans
use Rattle.step_data.specs.Steps.{is_failed}
use Rattle.step_model.specs.System.{System, Landing}
use Rattle.lockstep_model.specs.RunStates.{RunState}
use Rattle.lockstep_model.specs.Works.{Run, Work, Worked, before, over}
use Rattle.lockstep_model.specs.Works as kinds
use Rattle.lockstep_model.specs.Crossing.{Bounds, differs, is_near}
use Rattle.lockstep_model.specs.Lockstep as l
use Rattle.lockstep_model.specs.Lockstep.{AttemptEnd, PhaseStep, Following}

-- what comes next: the start; what follows at a place; a delta, which is solved first where it has to be; its cycle; a
-- step of the phase up to the next time; a probe between these bounds; or nothing, since the run has ended
pub data Stage : Type 0 where
  Unstarted : Stage
  Placed : Stage
  InDelta : Bool → Stage
  InCycle : Bool → Stage
  InPhase : Stage
  InSearch : Bounds → Stage
  Finished : End → Stage

-- that, the cycles and the tries that are left, and the state of the run
pub record Held : Type 0 where
  pub stage : Stage
  pub cycles : ℕ
  pub tries : ℕ
  pub state : RunState

abbrev pub at : Stage → ℕ → ℕ → RunState → Held
at stage c n p = record { stage = stage; cycles = c; tries = n; state = p }

abbrev pub first_held : System → Held
first_held sys = at Unstarted sys.cycles sys.tries (l.unstarted_state sys)

-- ---- the run that is left

-- a delta that was begun, unless no cycle is left
abbrev pub begun : System → ℕ → ℕ → Bool → RunState → Run
begun sys zero n to_time p = l.too_many_cycles p
begun sys (suc c) n to_time p = l.delta_run sys (l.goes_on sys c n) to_time p

-- what comes at a crossing
abbrev pub crossed : System → ℕ → ℕ → RunState → Run
crossed sys c n p = begun sys c n false p

abbrev pub rest_by : Stage → System → ℕ → ℕ → RunState → Run
rest_by Unstarted sys c n p = l.lockstep sys
rest_by Placed sys c n p = l.goes_on sys c n p
rest_by (InDelta to_time) sys c n p = l.delta_run sys (l.goes_on sys c n) to_time p
rest_by (InCycle to_time) sys c n p = l.cycle_run sys (l.goes_on sys c n) to_time p
rest_by InPhase sys c n p = l.phase_from sys (crossed sys c) n p
rest_by (InSearch b) sys c n p = l.locate sys (crossed sys c) n p b
rest_by (Finished e) sys c n p = over e

-- the works that are still to come and the end
abbrev pub rest_of : System → Held → Run
rest_of sys h = rest_by h.stage sys h.cycles h.tries h.state

-- ---- what it does next

-- a decision without a work, or a work that begins in a state, and what it holds then; or nothing, since the run has ended
pub data Step : Type 0 where
  Decides : Held → Step
  Makes : RunState → Work → Held → Step
  Stops : End → Step

abbrev pub run_of : System → Step → Run
run_of sys (Decides h) = rest_of sys h
run_of sys (Makes p w h) = before p w (rest_of sys h)
run_of sys (Stops e) = over e

-- the run has ended as that of no works does
abbrev pub ended : Run → ℕ → ℕ → RunState → Held
ended r c n p = at (Finished r.end) c n p

-- a delta, with one cycle less left
abbrev pub begin : ℕ → ℕ → Bool → RunState → Held
begin zero n to_time p = ended (l.too_many_cycles p) zero n p
begin (suc c) n to_time p = at (InDelta to_time) c n p

-- at the next time: a delta where digital work stands, else the end
abbrev pub arrived_by : Bool → ℕ → ℕ → RunState → Held
arrived_by true c n p = begin c n false p
arrived_by false c n p = at (Finished (Reached p.time)) c n p

abbrev pub arrived : System → ℕ → ℕ → RunState → Held
arrived sys c n p = arrived_by (l.stands (sys.next_time p.digital) p.time) c n p

abbrev pub deeper_by : Bool → ℕ → ℕ → Bool → RunState → Held
deeper_by true c n to_time p = ended (l.too_many_deltas p) c n p
deeper_by false c n to_time p = begin c n to_time (l.deeper p)

abbrev pub placed_by : Following → System → ℕ → ℕ → RunState → Held
placed_by l.NextDelta sys c n p = deeper_by (nat_le sys.deltas p.delta) c n (not (l.is_due sys p)) p
placed_by l.StopTime sys c n p = at (Finished (Reached p.time)) c n p
placed_by l.NextPhase sys c n p = at InPhase c n p

abbrev pub placed : System → ℕ → ℕ → RunState → Held
placed sys c n p = placed_by (l.following (l.begins_delta sys p) (p.time == sys.options.stop)) sys c n p

abbrev pub started_by : Ran → System → Step
started_by (rans.Done broke) sys =
    Makes (l.unstarted_state sys) (Worked kinds.Start (l.first_cycle sys).events false (l.standing sys (l.first_place sys broke)))
    (at Placed sys.cycles sys.tries (l.first_place sys broke))
started_by (rans.Refused refusal) sys =
    Makes (l.unstarted_state sys) (Worked kinds.Start (l.first_cycle sys).events false (l.first_standing sys))
    (at (Finished (Refused 0 refusal)) sys.cycles sys.tries (l.unstarted_state sys))

abbrev pub solved_by : Result (List ℤ) Cause → System → Bool → ℕ → ℕ → RunState → Step
solved_by (Ok x) sys to_time c n p = Makes p (l.solution_work sys p x) (at (InCycle to_time) c n (l.solved_at sys p x))
solved_by (Err e) sys to_time c n p = Makes p (Worked kinds.Solve [] false (l.standing sys p)) (ended (l.unsolvable p e) c n p)

abbrev pub delta_by : Bool → System → Bool → ℕ → ℕ → RunState → Step
delta_by true sys to_time c n p = solved_by (l.solution sys p) sys to_time c n p
delta_by false sys to_time c n p = Decides (at (InCycle to_time) c n p)

abbrev pub cycled_by : Ran → System → Bool → ℕ → ℕ → RunState → Step
cycled_by (rans.Done broke) sys to_time c n p =
    Makes p (l.cycle_work sys to_time p broke) (at Placed c n (l.cycled sys to_time p broke))
cycled_by (rans.Refused refusal) sys to_time c n p =
    Makes p (Worked kinds.Cycle (l.cycle_at sys to_time p).events false (l.standing sys p))
    (at (Finished (Refused p.time refusal)) c n p)

abbrev pub behind_by : AttemptEnd → System → ℕ → ℕ → RunState → Attempt → Held
behind_by l.Crossing sys c n p a = at (InSearch (l.attempt_bounds p a)) c n p
behind_by l.Failure sys c n p a = ended (l.step_too_small a.end a.cause) c n p
behind_by l.Further sys c n p a = at InPhase c n (l.behind sys p a)

-- an attempt, with so many tries left behind it
abbrev pub attempted : System → ℕ → ℕ → RunState → Attempt → Step
attempted sys c n p a =
    Makes p (l.attempt_work sys p a) (behind_by (l.attempt_end (l.is_crossing sys p a) (is_failed a.kind)) sys c n p a)

abbrev pub refused_by : Bool → System → ℕ → ℕ → RunState → Cause → Step
refused_by true sys c n p e =
    Makes p (Worked kinds.Side [] false (l.standing sys p)) (ended (l.step_too_small (l.until sys p) e) c n p)
refused_by false sys c n p e =
    Makes p (Worked kinds.Side [] true (l.standing sys (l.side_refused sys p))) (at InPhase c n (l.side_refused sys p))

abbrev pub accepted_by : Bool → System → ℕ → ℕ → RunState → Landing → Step
accepted_by true sys c n p s =
    Makes p (Worked kinds.Side (l.bound_events sys p (l.side_bounds sys p s)) false (l.standing sys p))
    (at (InSearch (l.side_bounds sys p s)) c n p)
accepted_by false sys c n p s =
    Makes p (Worked kinds.Side (l.point_events (l.until sys p) 0 s.x (l.step_branches sys p) p.branches) false (l.standing sys (l.side_arrived sys p s)))
    (arrived sys c n (l.side_arrived sys p s))

-- a side step, with so many tries left behind it
abbrev pub sided : Result Landing Cause → System → ℕ → ℕ → RunState → Step
sided (Err e) sys c n p = refused_by (l.is_too_small sys p) sys c n p e
sided (Ok s) sys c n p = accepted_by (differs s.x (l.thresholds_at sys p)) sys c n p s

abbrev pub phase_by : PhaseStep → System → ℕ → ℕ → RunState → Step
phase_by l.Arrival sys c n p = Decides (arrived sys c n (l.at_tip sys p))
phase_by l.Attempted sys c zero p = Decides (ended (l.too_many_tries p) c zero p)
phase_by l.Attempted sys c (suc n) p = attempted sys c n p (l.attempt_at sys p)
phase_by l.SideStep sys c zero p = Decides (ended (l.too_many_tries p) c zero p)
phase_by l.SideStep sys c (suc n) p = sided (l.side_at sys p) sys c n p

abbrev pub phase_next : System → ℕ → ℕ → RunState → Step
phase_next sys c n p = phase_by (l.phase_step (l.is_there sys p) (l.ends_in_time sys p)) sys c n p

abbrev pub search_by : Bool → System → ℕ → ℕ → RunState → Bounds → Step
search_by true sys c n p b = Decides (begin c n false (l.stepped_to sys p b.hi b.x))
search_by false sys c zero p b = Decides (ended (l.too_many_tries p) c zero p)
search_by false sys c (suc n) p b =
    Makes p (Worked kinds.Probe (l.bound_events sys p (l.probed sys p b)) false (l.standing sys p))
    (at (InSearch (l.probed sys p b)) c n p)

abbrev pub next_by : Stage → System → ℕ → ℕ → RunState → Step
next_by Unstarted sys c n p = started_by (l.first_cycle sys).ran sys
next_by Placed sys c n p = Decides (placed sys c n p)
next_by (InDelta to_time) sys c n p = delta_by (l.needs_solution sys p) sys to_time c n p
next_by (InCycle to_time) sys c n p = cycled_by (l.cycle_at sys to_time p).ran sys to_time c n p
next_by InPhase sys c n p = phase_next sys c n p
next_by (InSearch b) sys c n p = search_by (is_near sys.options.xres b) sys c n p b
next_by (Finished e) sys c n p = Stops e

-- what it does next
abbrev pub next_of : System → Held → Step
next_of sys h = next_by h.stage sys h.cycles h.tries h.state

-- how many decisions come before a work or the end, at most
abbrev pub decisions_at : Stage → ℕ
decisions_at Unstarted = 0
decisions_at Placed = 3
decisions_at (InDelta to_time) = 1
decisions_at (InCycle to_time) = 0
decisions_at InPhase = 2
decisions_at (InSearch b) = 2
decisions_at (Finished e) = 0
