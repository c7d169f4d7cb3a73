-- A run has at most one solution more than cycles, so its moves are few.
use Rattle.std.specs.Prelude.{◌≡◌, ℕ, zero, suc, ◌+◌, ◌*◌, ◌≤◌, ◌==◌, Bool, true, false, not, nat_le, ℤ, List, [], ◌∷◌, Result, Ok, Err, refl}
use Rattle.std.proofs.Common.{arith}
use Rattle.step_data.specs.declared.tip.Attempt.{Attempt}
use Rattle.step_data.specs.declared.event.Event.{Event}
use Rattle.step_data.specs.declared.outcome.Cause.{Cause}
use Rattle.step_data.specs.declared.outcome.Ran.{Ran}
use Rattle.step_data.specs.declared.outcome.Ran.TheVariants as rans
use Rattle.step_data.specs.declared.outcome.End.TheVariants.{Reached}
use Rattle.step_data.specs.Steps.{is_failed}
use Rattle.step_model.specs.System.{System, Landing}
use Rattle.lockstep_model.specs.Works.{Work, WorkKind, Worked, Tried, Run, Standing, before, over, cycles_in, solutions_in, side_steps_in, probes_in, tries_in, attempts_in, cycles_at, solutions_at, side_steps_at, probes_at, steps_at}
use Rattle.lockstep_model.specs.Works as kinds
use Rattle.lockstep_model.specs.Crossing.{Bounds, is_near, differs}
use Rattle.lockstep_model.specs.Lockstep as l
use Rattle.lockstep_model.specs.RunStates.{RunState}
use Rattle.lockstep_model.specs.Lockstep.{PhaseStep, Following, AttemptEnd, phase, locate, goes_on, lockstep}
use Rattle.lockstep_model.specs.Walk.{moves_left, first_walk}
use Rattle.lockstep_model.specs.LookLaws.{moves_of_run}
use Rattle.lockstep_model.specs.Budgets.{lockstep_within}

-- at most so many solutions more than cycles
abbrev pub SolvesAtMost : ℕ → Run → Type 0
SolvesAtMost n r = solutions_in r.works ≤ cycles_in r.works + n

abbrev Few : Run → Type 0
Few r = SolvesAtMost 1 r

ends-few : (n : ℕ) (r : Run) → r.works ≡ [] → SolvesAtMost n r
ends-few n r e = rw e (omega arith)

-- a work that is no solution
before-few : (kind : WorkKind) (p : RunState) (events : List Event) (renews : Bool) (s : Standing) (r : Run) → solutions_at kind ≡ 0 → Few r → Few (before p (Worked kind events renews s) r)
before-few kind p events renews s r none h = omega arith

locate-few : (sys : System) (cross : ℕ → RunState → Run) → ((m : ℕ) (q : RunState) → Few (cross m q)) → (n : ℕ) (p : RunState) (b : Bounds) → Few (locate sys cross n p b)
unfolding locate
locate-few sys cross h zero p b =
    elim (is_near sys.options.xres b) as (λ t. Few (l.searched t sys (cross zero) (λ b'. l.too_many_tries p) p b)) [
      | true ↦ h zero (l.stepped_to sys p b.hi b.x)
      | false ↦ ends-few 1 (l.too_many_tries p) refl
    ]
locate-few sys cross h (suc n) p b =
    elim (is_near sys.options.xres b) as
    (λ t. Few (l.searched t sys (cross (suc n)) (l.probe_run sys p (locate sys cross n p)) p b)) [
      | true ↦ h (suc n) (l.stepped_to sys p b.hi b.x)
      | false ↦
          before-few kinds.Probe p (l.bound_events sys p (l.probed sys p b)) false (l.standing sys p)
          (locate sys cross n p (l.probed sys p b)) refl (locate-few sys cross h n p (l.probed sys p b))
    ]

after_attempt-few : (e : AttemptEnd) (sys : System) (crossing : Bounds → Run) (later : RunState → Run) (p : RunState) (a : Attempt) → ((b : Bounds) → Few (crossing b)) → ((q : RunState) → Few (later q)) → Few (l.after_attempt e sys crossing later p a)
after_attempt-few l.Crossing sys crossing later p a hc hl = hc (l.attempt_bounds p a)
after_attempt-few l.Failure sys crossing later p a hc hl = ends-few 1 (l.step_too_small a.end a.cause) refl
after_attempt-few l.Further sys crossing later p a hc hl = hl (l.behind sys p a)

tried-few : (sys : System) (crossing : Bounds → Run) (later : RunState → Run) (p : RunState) (a : Attempt) → ((b : Bounds) → Few (crossing b)) → ((q : RunState) → Few (later q)) → Few (l.tried sys crossing later p a)
tried-few sys crossing later p a hc hl =
    after_attempt-few (l.attempt_end (l.is_crossing sys p a) (is_failed a.kind)) sys crossing later p a hc hl

refused_side-few : (small : Bool) (sys : System) (refused : RunState → Run) (p : RunState) (e : Cause) → ((q : RunState) → Few (refused q)) → Few (l.refused_side small sys refused p e)
refused_side-few true sys refused p e h =
    before-few kinds.Side p [] false (l.standing sys p) (l.step_too_small (l.until sys p) e) refl
    (ends-few 1 (l.step_too_small (l.until sys p) e) refl)
refused_side-few false sys refused p e h =
    before-few kinds.Side p [] true (l.standing sys (l.side_refused sys p)) (refused (l.side_refused sys p)) refl
    (h (l.side_refused sys p))

accepted_side-few : (crossed : Bool) (sys : System) (crossing : Bounds → Run) (arrive : RunState → Run) (p : RunState) (s : Landing) → ((b : Bounds) → Few (crossing b)) → ((q : RunState) → Few (arrive q)) → Few (l.accepted_side crossed sys crossing arrive p s)
accepted_side-few true sys crossing arrive p s hc ha =
    before-few kinds.Side p (l.bound_events sys p (l.side_bounds sys p s)) false (l.standing sys p)
    (crossing (l.side_bounds sys p s)) refl (hc (l.side_bounds sys p s))
accepted_side-few false sys crossing arrive p s hc ha =
    before-few kinds.Side p (l.point_events (l.until sys p) 0 s.x (l.step_branches sys p) p.branches) false
    (l.standing sys (l.side_arrived sys p s)) (arrive (l.side_arrived sys p s)) refl (ha (l.side_arrived sys p s))

sided-few : (sys : System) (crossing : Bounds → Run) (refused arrive : RunState → Run) (p : RunState) (o : Result Landing Cause) → ((b : Bounds) → Few (crossing b)) → ((q : RunState) → Few (refused q)) → ((q : RunState) → Few (arrive q)) → Few (l.sided sys crossing refused arrive p o)
sided-few sys crossing refused arrive p (Err e) hc hr ha =
    refused_side-few (l.is_too_small sys p) sys refused p e hr
sided-few sys crossing refused arrive p (Ok s) hc hr ha =
    accepted_side-few (differs s.x (l.thresholds_at sys p)) sys crossing arrive p s hc ha

phase_by-few : (step : PhaseStep) (sys : System) (arrive attempt side : RunState → Run) (p : RunState) → ((q : RunState) → Few (arrive q)) → ((q : RunState) → Few (attempt q)) → ((q : RunState) → Few (side q)) → Few (l.phase_by step sys arrive attempt side p)
phase_by-few l.Arrival sys arrive attempt side p ha ht hs = ha (l.at_tip sys p)
phase_by-few l.Attempted sys arrive attempt side p ha ht hs = ht p
phase_by-few l.SideStep sys arrive attempt side p ha ht hs = hs p

no_tries-few : (q : RunState) → Few (l.too_many_tries q)
no_tries-few q = ends-few 1 (l.too_many_tries q) refl

phase-few : (sys : System) (cross arrive : ℕ → RunState → Run) → ((m : ℕ) (q : RunState) → Few (cross m q)) → ((m : ℕ) (q : RunState) → Few (arrive m q)) → (n : ℕ) (p : RunState) → Few (phase sys cross arrive n p)
unfolding phase
phase-few sys cross arrive hc ha zero p =
    phase_by-few (l.phase_step (l.is_there sys p) (l.ends_in_time sys p)) sys (arrive zero) l.too_many_tries l.too_many_tries p
    (ha zero) no_tries-few no_tries-few
phase-few sys cross arrive hc ha (suc n) p =
    phase_by-few (l.phase_step (l.is_there sys p) (l.ends_in_time sys p)) sys (arrive (suc n))
    (λ q. l.tried sys (locate sys cross n q) (phase sys cross arrive n) q (l.attempt_at sys q))
    (λ q. l.sided sys (locate sys cross n q) (phase sys cross arrive n) (arrive n) q (l.side_at sys q)) p
    (ha (suc n))
    (λ q. tried-few sys (locate sys cross n q) (phase sys cross arrive n) q (l.attempt_at sys q) (locate-few sys cross hc n q) (phase-few sys cross arrive hc ha n))
    (λ q. sided-few sys (locate sys cross n q) (phase sys cross arrive n) (arrive n) q (l.side_at sys q) (locate-few sys cross hc n q) (phase-few sys cross arrive hc ha n) (ha n))

at_time_by-few : (stands : Bool) (cycle : RunState → Run) (p : RunState) → ((q : RunState) → Few (cycle q)) → Few (l.at_time_by stands cycle p)
at_time_by-few true cycle p h = h p
at_time_by-few false cycle p h = ends-few 1 (over (Reached p.time)) refl

next_delta_by-few : (many : Bool) (begin : RunState → Run) (p : RunState) → ((q : RunState) → Few (begin q)) → Few (l.next_delta_by many begin p)
next_delta_by-few true begin p h = ends-few 1 (l.too_many_deltas p) refl
next_delta_by-few false begin p h = h (l.deeper p)

from_place_by-few : (next : Following) (begin further : RunState → Run) (p : RunState) → ((q : RunState) → Few (begin q)) → ((q : RunState) → Few (further q)) → Few (l.from_place_by next begin further p)
from_place_by-few l.NextDelta begin further p hb hf = hb p
from_place_by-few l.StopTime begin further p hb hf = ends-few 1 (over (Reached p.time)) refl
from_place_by-few l.NextPhase begin further p hb hf = hf p

from_place-few : (sys : System) (begin : ℕ → Bool → RunState → Run) → ((m : ℕ) (b : Bool) (q : RunState) → Few (begin m b q)) → (n : ℕ) (p : RunState) → Few (l.from_place sys begin n p)
from_place-few sys begin h n p =
    let cycle : ℕ → RunState → Run = λ m q. begin m false q in
    from_place_by-few (l.following (l.begins_delta sys p) (p.time == sys.options.stop))
    (l.next_delta sys begin n (not (l.is_due sys p))) (l.phase_from sys cycle n) p
    (λ q. next_delta_by-few (nat_le sys.deltas q.delta) (begin n (not (l.is_due sys p))) q (h n (not (l.is_due sys p))))
    (phase-few sys cycle (l.at_time sys cycle) (λ m q. h m false q)
    (λ m q. at_time_by-few (l.stands (sys.next_time q.digital) q.time) (cycle m) q (λ r. h m false r)) n)

-- behind a cycle there are at most as many solutions as cycles, that one with them
cycled_run-few : (sys : System) (rest : RunState → Run) → ((q : RunState) → Few (rest q)) → (to_time : Bool) (p : RunState) (ran : Ran) → SolvesAtMost 0 (l.cycled_run sys rest to_time p ran)
cycled_run-few sys rest h to_time p (rans.Done broke) = let low = h (l.cycled sys to_time p broke) in omega arith
cycled_run-few sys rest h to_time p (rans.Refused refusal) = omega arith

solved_run-few : (sys : System) (cycle : RunState → Run) → ((q : RunState) → SolvesAtMost 0 (cycle q)) → (p : RunState) (o : Result (List ℤ) Cause) → Few (l.solved_run sys cycle p o)
solved_run-few sys cycle h p (Ok x) = let low = h (l.solved_at sys p x) in omega arith
solved_run-few sys cycle h p (Err e) = omega arith

delta_by-few : (needs : Bool) (sys : System) (cycle : RunState → Run) (p : RunState) → ((q : RunState) → SolvesAtMost 0 (cycle q)) → Few (l.delta_by needs sys cycle p)
delta_by-few true sys cycle p h = solved_run-few sys cycle h p (l.solution sys p)
delta_by-few false sys cycle p h = let low = h p in omega arith

delta_run-few : (sys : System) (rest : RunState → Run) → ((q : RunState) → Few (rest q)) → (to_time : Bool) (p : RunState) → Few (l.delta_run sys rest to_time p)
delta_run-few sys rest h to_time p =
    delta_by-few (l.needs_solution sys p) sys (l.cycle_run sys rest to_time) p
    (λ q. cycled_run-few sys rest h to_time q (l.cycle_at sys to_time q).ran)

goes_on-few : (sys : System) (c n : ℕ) (p : RunState) → Few (goes_on sys c n p)
unfolding goes_on
goes_on-few sys zero n p =
    from_place-few sys (λ m b q. l.too_many_cycles q) (λ m b q. ends-few 1 (l.too_many_cycles q) refl) n p
goes_on-few sys (suc c) n p =
    from_place-few sys (λ m b q. l.delta_run sys (goes_on sys c m) b q)
    (λ m b q. delta_run-few sys (goes_on sys c m) (goes_on-few sys c m) b q) n p

started_run-few : (sys : System) (ran : Ran) → Few (l.started_run sys ran)
started_run-few sys (rans.Done broke) =
    let rest = goes_on-few sys sys.cycles sys.tries (l.first_place sys broke) in omega arith
started_run-few sys (rans.Refused refusal) = omega arith

pub lockstep_solves : (sys : System) → SolvesAtMost 1 (lockstep sys)
lockstep_solves sys = started_run-few sys (l.first_cycle sys).ran

-- tries by their kinds
kind-tries : (kind : WorkKind) → steps_at kind ≡ side_steps_at kind + probes_at kind
kind-tries kinds.Start = refl
kind-tries kinds.Solve = refl
kind-tries kinds.Cycle = refl
kind-tries kinds.Side = refl
kind-tries kinds.Probe = refl

tries_are : (works : List Work) → tries_in works ≡ side_steps_in works + probes_in works + attempts_in works
tries_are [] = refl
tries_are (Worked kind events renews standing ∷ works) =
    let one = kind-tries kind in let rest = tries_are works in omega arith
tries_are (Tried tip frame until made crossing events ∷ works) = let rest = tries_are works in omega arith

-- the attempts of a run are within its budget, and its moves within this bound
pub record HasFewMoves (sys : System) : Type 0 where
  pub moves : moves_left (first_walk sys) ≤ 3 + 2 * sys.cycles + 3 * sys.tries
  pub attempts : attempts_in (lockstep sys).works ≤ sys.tries

abbrev pub RunsHaveFewMoves : Type 0
RunsHaveFewMoves = (sys : System) → HasFewMoves sys

pub runs_have_few_moves : RunsHaveFewMoves
runs_have_few_moves sys =
    let all = moves_of_run sys in
    let within = lockstep_within sys in
    let cycles = within.cycles in
    let tries = within.tries in
    let solves = lockstep_solves sys in
    let kinds = tries_are (lockstep sys).works in
    record { moves = omega arith; attempts = omega arith }
