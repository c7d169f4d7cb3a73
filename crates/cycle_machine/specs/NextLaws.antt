-- What the engine does next is the next thing of the run that is left.
use Rattle.std.specs.Prelude.{◌≡◌, ℕ, zero, suc, ◌==◌, Bool, true, false, not, nat_le, ℤ, List, Result, Ok, Err, refl}
use Rattle.std.proofs.Common.{ap}
use Rattle.step_data.specs.declared.tip.Attempt.{Attempt}
use Rattle.step_data.specs.declared.outcome.Cause.{Cause}
use Rattle.step_data.specs.declared.outcome.Ran.{Ran}
use Rattle.step_data.specs.declared.outcome.Ran.TheVariants as rans
use Rattle.step_data.specs.Steps.{is_failed}
use Rattle.step_model.specs.System.{System, Landing}
use Rattle.lockstep_model.specs.RunStates.{RunState}
use Rattle.lockstep_model.specs.Works.{Run, Worked, before}
use Rattle.lockstep_model.specs.Works as kinds
use Rattle.lockstep_model.specs.Crossing.{Bounds, differs, is_near}
use Rattle.lockstep_model.specs.Lockstep as l
use Rattle.lockstep_model.specs.Lockstep.{AttemptEnd, PhaseStep, Following, goes_on, phase, locate}
use Rattle.cycle_machine.specs.Held as h
use Rattle.cycle_machine.specs.Held.{Stage, Held, begun, crossed, rest_of, rest_by, run_of, next_of, next_by}

begin-is : (sys : System) (c n : ℕ) (to_time : Bool) (p : RunState) → begun sys c n to_time p ≡ rest_of sys (h.begin c n to_time p)
begin-is sys zero n to_time p = refl
begin-is sys (suc c) n to_time p = refl

arrived-is : (sys : System) (c n : ℕ) (p : RunState) → l.at_time sys (crossed sys c) n p ≡ rest_of sys (h.arrived sys c n p)
arrived-is sys c n p =
    elim (l.stands (sys.next_time p.digital) p.time) as
    (λ b. l.at_time_by b (crossed sys c n) p ≡ rest_of sys (h.arrived_by b c n p)) [
      | true ↦ begin-is sys c n false p
      | false ↦ refl
    ]

deeper-is : (sys : System) (many : Bool) (c n : ℕ) (to_time : Bool) (p : RunState) → l.next_delta_by many (begun sys c n to_time) p ≡ rest_of sys (h.deeper_by many c n to_time p)
deeper-is sys true c n to_time p = refl
deeper-is sys false c n to_time p = begin-is sys c n to_time (l.deeper p)

placed_by-is : (sys : System) (f : Following) (c n : ℕ) (p : RunState) →
    l.from_place_by f (l.next_delta sys (begun sys c) n (not (l.is_due sys p))) (l.phase_from sys (crossed sys c) n) p
    ≡ rest_of sys (h.placed_by f sys c n p)
placed_by-is sys l.NextDelta c n p = deeper-is sys (nat_le sys.deltas p.delta) c n (not (l.is_due sys p)) p
placed_by-is sys l.StopTime c n p = refl
placed_by-is sys l.NextPhase c n p = refl

placed-is : (sys : System) (c n : ℕ) (p : RunState) → goes_on sys c n p ≡ rest_of sys (h.placed sys c n p)
unfolding goes_on
placed-is sys zero n p =
    placed_by-is sys (l.following (l.begins_delta sys p) (p.time == sys.options.stop)) zero n p
placed-is sys (suc c) n p =
    placed_by-is sys (l.following (l.begins_delta sys p) (p.time == sys.options.stop)) (suc c) n p

started-is : (sys : System) (ran : Ran) → l.started_run sys ran ≡ run_of sys (h.started_by ran sys)
started-is sys (rans.Done broke) = refl
started-is sys (rans.Refused refusal) = refl

solved-is : (sys : System) (o : Result (List ℤ) Cause) (to_time : Bool) (c n : ℕ) (p : RunState) →
    l.solved_run sys (l.cycle_run sys (goes_on sys c n) to_time) p o ≡ run_of sys (h.solved_by o sys to_time c n p)
solved-is sys (Ok x) to_time c n p = refl
solved-is sys (Err e) to_time c n p = refl

delta-is : (sys : System) (needs to_time : Bool) (c n : ℕ) (p : RunState) →
    l.delta_by needs sys (l.cycle_run sys (goes_on sys c n) to_time) p ≡ run_of sys (h.delta_by needs sys to_time c n p)
delta-is sys true to_time c n p = solved-is sys (l.solution sys p) to_time c n p
delta-is sys false to_time c n p = refl

cycled-is : (sys : System) (ran : Ran) (to_time : Bool) (c n : ℕ) (p : RunState) →
    l.cycled_run sys (goes_on sys c n) to_time p ran ≡ run_of sys (h.cycled_by ran sys to_time c n p)
cycled-is sys (rans.Done broke) to_time c n p = refl
cycled-is sys (rans.Refused refusal) to_time c n p = refl

-- the phase and the search with what comes at a crossing and at the next time
abbrev phase_of : System → ℕ → ℕ → RunState → Run
phase_of sys c n p = phase sys (crossed sys c) (l.at_time sys (crossed sys c)) n p

abbrev search_of : System → ℕ → ℕ → RunState → Bounds → Run
search_of sys c n p b = locate sys (crossed sys c) n p b

behind-is : (sys : System) (e : AttemptEnd) (c n : ℕ) (p : RunState) (a : Attempt) →
    l.after_attempt e sys (search_of sys c n p) (phase_of sys c n) p a ≡ rest_of sys (h.behind_by e sys c n p a)
behind-is sys l.Crossing c n p a = refl
behind-is sys l.Failure c n p a = refl
behind-is sys l.Further c n p a = refl

attempted-is : (sys : System) (c n : ℕ) (p : RunState) (a : Attempt) →
    l.tried sys (search_of sys c n p) (phase_of sys c n) p a ≡ run_of sys (h.attempted sys c n p a)
attempted-is sys c n p a =
    ap (λ (r : Run). before p (l.attempt_work sys p a) r)
    (behind-is sys (l.attempt_end (l.is_crossing sys p a) (is_failed a.kind)) c n p a)

refused-is : (sys : System) (small : Bool) (c n : ℕ) (p : RunState) (e : Cause) →
    l.refused_side small sys (phase_of sys c n) p e ≡ run_of sys (h.refused_by small sys c n p e)
refused-is sys true c n p e = refl
refused-is sys false c n p e = refl

accepted-is : (sys : System) (crosses : Bool) (c n : ℕ) (p : RunState) (s : Landing) →
    l.accepted_side crosses sys (search_of sys c n p) (l.at_time sys (crossed sys c) n) p s ≡ run_of sys (h.accepted_by crosses sys c n p s)
accepted-is sys true c n p s = refl
accepted-is sys false c n p s =
    ap (λ (r : Run). before p (Worked kinds.Side (l.point_events (l.until sys p) 0 s.x (l.step_branches sys p) p.branches) false (l.standing sys (l.side_arrived sys p s))) r)
    (arrived-is sys c n (l.side_arrived sys p s))

sided-is : (sys : System) (o : Result Landing Cause) (c n : ℕ) (p : RunState) →
    l.sided sys (search_of sys c n p) (phase_of sys c n) (l.at_time sys (crossed sys c) n) p o ≡ run_of sys (h.sided o sys c n p)
sided-is sys (Err e) c n p = refused-is sys (l.is_too_small sys p) c n p e
sided-is sys (Ok s) c n p = accepted-is sys (differs s.x (l.thresholds_at sys p)) c n p s

no_tries-is : (sys : System) (s : PhaseStep) (c : ℕ) (p : RunState) →
    l.phase_by s sys (l.at_time sys (crossed sys c) zero) l.too_many_tries l.too_many_tries p ≡ run_of sys (h.phase_by s sys c zero p)
no_tries-is sys l.Arrival c p = arrived-is sys c zero (l.at_tip sys p)
no_tries-is sys l.Attempted c p = refl
no_tries-is sys l.SideStep c p = refl

tries-is : (sys : System) (s : PhaseStep) (c n : ℕ) (p : RunState) →
    l.phase_by s sys (l.at_time sys (crossed sys c) (suc n))
    (λ q. l.tried sys (search_of sys c n q) (phase_of sys c n) q (l.attempt_at sys q))
    (λ q. l.sided sys (search_of sys c n q) (phase_of sys c n) (l.at_time sys (crossed sys c) n) q (l.side_at sys q)) p
    ≡ run_of sys (h.phase_by s sys c (suc n) p)
tries-is sys l.Arrival c n p = arrived-is sys c (suc n) (l.at_tip sys p)
tries-is sys l.Attempted c n p = attempted-is sys c n p (l.attempt_at sys p)
tries-is sys l.SideStep c n p = sided-is sys (l.side_at sys p) c n p

phase-is : (sys : System) (c n : ℕ) (p : RunState) → phase_of sys c n p ≡ run_of sys (h.phase_next sys c n p)
unfolding phase
phase-is sys c zero p = no_tries-is sys (l.phase_step (l.is_there sys p) (l.ends_in_time sys p)) c p
phase-is sys c (suc n) p = tries-is sys (l.phase_step (l.is_there sys p) (l.ends_in_time sys p)) c n p

searched_none-is : (sys : System) (near : Bool) (c : ℕ) (p : RunState) (b : Bounds) →
    l.searched near sys (crossed sys c zero) (λ b'. l.too_many_tries p) p b ≡ run_of sys (h.search_by near sys c zero p b)
searched_none-is sys true c p b = begin-is sys c zero false (l.stepped_to sys p b.hi b.x)
searched_none-is sys false c p b = refl

searched-is : (sys : System) (near : Bool) (c n : ℕ) (p : RunState) (b : Bounds) →
    l.searched near sys (crossed sys c (suc n)) (l.probe_run sys p (search_of sys c n p)) p b ≡ run_of sys (h.search_by near sys c (suc n) p b)
searched-is sys true c n p b = begin-is sys c (suc n) false (l.stepped_to sys p b.hi b.x)
searched-is sys false c n p b = refl

search-is : (sys : System) (c n : ℕ) (p : RunState) (b : Bounds) →
    search_of sys c n p b ≡ run_of sys (h.search_by (is_near sys.options.xres b) sys c n p b)
unfolding locate
search-is sys c zero p b = searched_none-is sys (is_near sys.options.xres b) c p b
search-is sys c (suc n) p b = searched-is sys (is_near sys.options.xres b) c n p b

next_by-is : (sys : System) (stage : Stage) (c n : ℕ) (p : RunState) → rest_by stage sys c n p ≡ run_of sys (next_by stage sys c n p)
next_by-is sys h.Unstarted c n p = started-is sys (l.first_cycle sys).ran
next_by-is sys h.Placed c n p = placed-is sys c n p
next_by-is sys (h.InDelta to_time) c n p = delta-is sys (l.needs_solution sys p) to_time c n p
next_by-is sys (h.InCycle to_time) c n p = cycled-is sys (l.cycle_at sys to_time p).ran to_time c n p
next_by-is sys h.InPhase c n p = phase-is sys c n p
next_by-is sys (h.InSearch b) c n p = search-is sys c n p b
next_by-is sys (h.Finished e) c n p = refl

-- the run that is left is what comes next, and then the run that is left from what is held then
pub next_is : (sys : System) (held : Held) → rest_of sys held ≡ run_of sys (next_of sys held)
next_is sys held = next_by-is sys held.stage held.cycles held.tries held.state
