-- Each point that a run gives is a solution: of the state in which the work begins, or of a step from its tip.
use Rattle.std.specs.Prelude.{◌≡◌, ℕ, zero, suc, ◌+◌, ◌-◌, ◌/◌, ◌==◌, Bool, true, false, not, cond, nat_le, nat_lt, ◌&&◌, ℤ, List, [], ◌∷◌, ◌++◌, Result, Ok, Err, refl}
use Rattle.std.proofs.Common.{arith, ap, ◌∙◌}
use Rattle.step_data.specs.declared.tip.Attempt.{Attempt}
use Rattle.step_data.specs.declared.event.Event.{Event}
use Rattle.step_data.specs.declared.event.Event.TheVariants.{Solved}
use Rattle.step_data.specs.declared.outcome.Cause.{Cause}
use Rattle.step_data.specs.declared.outcome.Ran.{Ran}
use Rattle.step_data.specs.declared.outcome.Ran.TheVariants as rans
use Rattle.step_data.specs.Steps.{is_accepted, is_failed}
use Rattle.step_model.specs.System.{System, Landing, attempt, attempt_by, rejected_by, failed_by}
use Rattle.lockstep_model.specs.RunStates.{RunState}
use Rattle.lockstep_model.specs.Works.{Work, Worked, Tried, Run, before, over}
use Rattle.lockstep_model.specs.Works as kinds
use Rattle.lockstep_model.specs.Crossing.{Bounds, is_near, differs, narrowed, middle, lower_half, upper_half}
use Rattle.lockstep_model.specs.Lockstep as l
use Rattle.lockstep_model.specs.Lockstep.{PhaseStep, Following, phase, locate, goes_on, lockstep, frame_at, branch_event, branch_events}

-- each point among some events, with its time
abbrev pub PointsAre : (ℕ → List ℤ → Type 0) → List Event → Type 0
PointsAre P [] = Unit {0}
PointsAre P (Solved t n x ∷ events) = P t x × PointsAre P events
PointsAre P (_ ∷ events) = PointsAre P events

-- the step from the tip to the time is accepted with this point
pub record IsReached (sys : System) (p : RunState) (t : ℕ) (x : List ℤ) : Type 0 where
  pub landing : Landing
  pub step_is : sys.trial (frame_at sys p) p.tip (t - p.tip.t) ≡ Ok landing
  pub point_is : landing.x ≡ x

-- the solution at the time of the state
pub record IsSolution (sys : System) (p : RunState) (t : ℕ) (x : List ℤ) : Type 0 where
  pub time_is : t ≡ p.time
  pub solution_is : l.solution sys p ≡ Ok x

-- the points of a work that begins in a state; start and cycles give what the digital side gives
abbrev pub IsSolved : System → Work → RunState → Type 0
IsSolved sys (Worked kinds.Start events renews s) p = Unit {0}
IsSolved sys (Worked kinds.Solve events renews s) p = PointsAre (IsSolution sys p) events
IsSolved sys (Worked kinds.Cycle events renews s) p = Unit {0}
IsSolved sys (Worked kinds.Side events renews s) p = PointsAre (IsReached sys p) events
IsSolved sys (Worked kinds.Probe events renews s) p = PointsAre (IsReached sys p) events
IsSolved sys (Tried tip frame until made crossing events) p = PointsAre (IsReached sys p) events

abbrev pub AreSolved : System → List Work → List RunState → Type 0
AreSolved sys [] [] = Unit {0}
AreSolved sys [] (p ∷ states) = ⊥
AreSolved sys (w ∷ works) [] = ⊥
AreSolved sys (w ∷ works) (p ∷ states) = IsSolved sys w p × AreSolved sys works states

abbrev Solves : System → Run → Type 0
Solves sys r = AreSolved sys r.works r.states

abbrev FromAll : System → (RunState → Run) → Type 0
FromAll sys rest = (q : RunState) → Solves sys (rest q)

-- the point behind its branches
behind-branches : (P : ℕ → List ℤ → Type 0) (t n k : ℕ) (bs olds : List ℕ) (x : List ℤ) → P t x → PointsAre P (branch_events t n k bs olds ++ Solved t n x ∷ [])
unfolding branch_events
behind-branches P t n k [] olds x h = (h, tt)
behind-branches P t n k (b ∷ bs) [] x h = behind-branches P t n (k + 1) bs [] x h
behind-branches P t n k (b ∷ bs) (old ∷ olds) x h =
    elim (b == old) as
    (λ c. PointsAre P (branch_event c t n k b ++ branch_events t n (k + 1) bs olds ++ Solved t n x ∷ [])) [
      | true ↦ behind-branches P t n (k + 1) bs olds x h
      | false ↦ behind-branches P t n (k + 1) bs olds x h
    ]

point-is : (P : ℕ → List ℤ → Type 0) (t n : ℕ) (x : List ℤ) (bs olds : List ℕ) → P t x → PointsAre P (l.point_events t n x bs olds)
point-is P t n x bs olds h = behind-branches P t n 0 bs olds x h

bound-is : (sys : System) (p : RunState) (b : Bounds) → IsReached sys p b.hi b.x → PointsAre (IsReached sys p) (l.bound_events sys p b)
bound-is sys p b h =
    elim (is_near sys.options.xres b) as
    (λ t. PointsAre (IsReached sys p) (cond t (l.point_events b.hi 0 b.x (l.step_branches sys p) p.branches) [])) [
      | true ↦ point-is (IsReached sys p) b.hi 0 b.x (l.step_branches sys p) p.branches h
      | false ↦ tt
    ]

-- the later bound stays reached
narrowed-reached : (sys : System) (p : RunState) (b : Bounds) (o : Result Landing Cause) → sys.trial (frame_at sys p) p.tip (middle b - p.tip.t) ≡ o → IsReached sys p b.hi b.x → IsReached sys p (narrowed (l.thresholds_at sys p) b o).hi (narrowed (l.thresholds_at sys p) b o).x
narrowed-reached sys p b (Err c) e h = h
narrowed-reached sys p b (Ok s) e h =
    elim (differs s.x (l.thresholds_at sys p)) as
    (λ t. IsReached sys p (cond t (lower_half b s.x) (upper_half b)).hi (cond t (lower_half b s.x) (upper_half b)).x) [
      | true ↦ record { landing = s; step_is = e; point_is = refl }
      | false ↦ h
    ]

locate-solves : (sys : System) (cross : ℕ → RunState → Run) → ((m : ℕ) → FromAll sys (cross m)) → (n : ℕ) (p : RunState) (b : Bounds) → IsReached sys p b.hi b.x → Solves sys (locate sys cross n p b)
unfolding locate
locate-solves sys cross h zero p b at =
    elim (is_near sys.options.xres b) as
    (λ t. Solves sys (l.searched t sys (cross zero) (λ b'. l.too_many_tries p) p b)) [
      | true ↦ h zero (l.stepped_to sys p b.hi b.x)
      | false ↦ tt
    ]
locate-solves sys cross h (suc n) p b at =
    elim (is_near sys.options.xres b) as
    (λ t. Solves sys (l.searched t sys (cross (suc n)) (l.probe_run sys p (locate sys cross n p)) p b)) [
      | true ↦ h (suc n) (l.stepped_to sys p b.hi b.x)
      | false ↦
          let next : IsReached sys p (l.probed sys p b).hi (l.probed sys p b).x =
          narrowed-reached sys p b (sys.trial (frame_at sys p) p.tip (middle b - p.tip.t)) refl at in
          (bound-is sys p (l.probed sys p b) next, locate-solves sys cross h n p (l.probed sys p b) next)
    ]

abbrev Searches : System → RunState → (Bounds → Run) → Type 0
Searches sys p crossing = (b : Bounds) → IsReached sys p b.hi b.x → Solves sys (crossing b)

back : (t h : ℕ) → t + h - t ≡ h
back t h = omega arith

-- an accepted attempt reached its end
accepted-reached : (sys : System) (p : RunState) (o : Result Landing Cause) → sys.trial (frame_at sys p) p.tip p.tip.h ≡ o → is_accepted (attempt_by sys.options p.tip o).kind ≡ true → IsReached sys p (attempt_by sys.options p.tip o).end (attempt_by sys.options p.tip o).x
accepted-reached sys p (Ok s) e accepted =
    record { landing = s; step_is = ap (λ h. sys.trial (frame_at sys p) p.tip h) (back p.tip.t p.tip.h) ∙ e; point_is = refl }
accepted-reached sys p (Err c) e accepted =
    absurd (refused (nat_le sys.options.hmin (p.tip.h / 2)) accepted)
  where
    refused : (b : Bool) → is_accepted (cond b (rejected_by p.tip c) (failed_by p.tip c)).kind ≡ true → ⊥
    refused true h = cc
    refused false h = cc

attempt-reached : (sys : System) (p : RunState) → is_accepted (l.attempt_at sys p).kind ≡ true → IsReached sys p (l.attempt_at sys p).end (l.attempt_at sys p).x
unfolding attempt
attempt-reached sys p accepted =
    accepted-reached sys p (sys.trial (frame_at sys p) p.tip p.tip.h) refl accepted

and_first : (x y : Bool) → (x && y) ≡ true → x ≡ true
and_first true y e = refl
and_first false y e = e

tried-solves : (sys : System) (crossing : Bounds → Run) (later : RunState → Run) (p : RunState) (a : Attempt) → (is_accepted a.kind ≡ true → IsReached sys p a.end a.x) → Searches sys p crossing → FromAll sys later → Solves sys (l.tried sys crossing later p a)
tried-solves sys crossing later p a reached hc hl =
    elim (l.is_crossing sys p a) as
    (λ t. l.is_crossing sys p a ≡ t → PointsAre (IsReached sys p) (cond t (l.bound_events sys p (l.attempt_bounds p a)) (cond (l.gives_point p a) (l.point_events a.end 0 a.x (l.step_branches sys p) p.branches) [])) × Solves sys (l.after_attempt (l.attempt_end t (is_failed a.kind)) sys crossing later p a)) [
      | true ↦
          λ e.
          let at = reached (given (and_first (l.gives_point p a) (differs a.x (l.thresholds_at sys p)) e)) in
          (bound-is sys p (l.attempt_bounds p a) at, hc (l.attempt_bounds p a) at)
      | false ↦ λ e. (points, rest)
    ] refl
  where
    given : l.gives_point p a ≡ true → is_accepted a.kind ≡ true
    given e = and_first (is_accepted a.kind) (nat_lt p.time a.end) e

    points : PointsAre (IsReached sys p) (cond (l.gives_point p a) (l.point_events a.end 0 a.x (l.step_branches sys p) p.branches) [])
    points =
        elim (l.gives_point p a) as
        (λ t. l.gives_point p a ≡ t → PointsAre (IsReached sys p) (cond t (l.point_events a.end 0 a.x (l.step_branches sys p) p.branches) [])) [
          | true ↦ λ e. point-is (IsReached sys p) a.end 0 a.x (l.step_branches sys p) p.branches (reached (given e))
          | false ↦ λ e. tt
        ] refl

    rest : Solves sys (l.after_attempt (l.attempt_end false (is_failed a.kind)) sys crossing later p a)
    rest =
        elim (is_failed a.kind) as (λ t. Solves sys (l.after_attempt (l.attempt_end false t) sys crossing later p a)) [
          | true ↦ tt
          | false ↦ hl (l.behind sys p a)
        ]

refused_side-solves : (small : Bool) (sys : System) (refused : RunState → Run) (p : RunState) (c : Cause) → FromAll sys refused → Solves sys (l.refused_side small sys refused p c)
refused_side-solves true sys refused p c hr = (tt, tt)
refused_side-solves false sys refused p c hr = (tt, hr (l.side_refused sys p))

accepted_side-solves : (crossed : Bool) (sys : System) (crossing : Bounds → Run) (arrive : RunState → Run) (p : RunState) (s : Landing) → IsReached sys p (l.until sys p) s.x → Searches sys p crossing → FromAll sys arrive → Solves sys (l.accepted_side crossed sys crossing arrive p s)
accepted_side-solves true sys crossing arrive p s at hc ha = (bound-is sys p (l.side_bounds sys p s) at, hc (l.side_bounds sys p s) at)
accepted_side-solves false sys crossing arrive p s at hc ha =
    (point-is (IsReached sys p) (l.until sys p) 0 s.x (l.step_branches sys p) p.branches at, ha (l.side_arrived sys p s))

sided-solves : (sys : System) (crossing : Bounds → Run) (refused arrive : RunState → Run) (p : RunState) (o : Result Landing Cause) → l.side_at sys p ≡ o → Searches sys p crossing → FromAll sys refused → FromAll sys arrive → Solves sys (l.sided sys crossing refused arrive p o)
sided-solves sys crossing refused arrive p (Err c) e hc hr ha = refused_side-solves (l.is_too_small sys p) sys refused p c hr
sided-solves sys crossing refused arrive p (Ok s) e hc hr ha =
    accepted_side-solves (differs s.x (l.thresholds_at sys p)) sys crossing arrive p s
    (record { landing = s; step_is = e; point_is = refl }) hc ha

phase_by-solves : (step : PhaseStep) (sys : System) (arrive attempt side : RunState → Run) → FromAll sys arrive → FromAll sys attempt → FromAll sys side → FromAll sys (l.phase_by step sys arrive attempt side)
phase_by-solves l.Arrival sys arrive attempt side ha ht hs p = ha (l.at_tip sys p)
phase_by-solves l.Attempted sys arrive attempt side ha ht hs p = ht p
phase_by-solves l.SideStep sys arrive attempt side ha ht hs p = hs p

phase-solves : (sys : System) (cross arrive : ℕ → RunState → Run) → ((m : ℕ) → FromAll sys (cross m)) → ((m : ℕ) → FromAll sys (arrive m)) → (n : ℕ) → FromAll sys (phase sys cross arrive n)
unfolding phase
phase-solves sys cross arrive hc ha zero p =
    phase_by-solves (l.phase_step (l.is_there sys p) (l.ends_in_time sys p)) sys (arrive zero) l.too_many_tries l.too_many_tries
    (ha zero) (λ q. tt) (λ q. tt) p
phase-solves sys cross arrive hc ha (suc n) p =
    phase_by-solves (l.phase_step (l.is_there sys p) (l.ends_in_time sys p)) sys (arrive (suc n))
    (λ q. l.tried sys (locate sys cross n q) (phase sys cross arrive n) q (l.attempt_at sys q))
    (λ q. l.sided sys (locate sys cross n q) (phase sys cross arrive n) (arrive n) q (l.side_at sys q))
    (ha (suc n))
    (λ q. tried-solves sys (locate sys cross n q) (phase sys cross arrive n) q (l.attempt_at sys q) (attempt-reached sys q)
    (locate-solves sys cross hc n q) (phase-solves sys cross arrive hc ha n))
    (λ q. sided-solves sys (locate sys cross n q) (phase sys cross arrive n) (arrive n) q (l.side_at sys q) refl
    (locate-solves sys cross hc n q) (phase-solves sys cross arrive hc ha n) (ha n)) p

at_time_by-solves : (stands : Bool) (sys : System) (cycle : RunState → Run) → FromAll sys cycle → FromAll sys (l.at_time_by stands cycle)
at_time_by-solves true sys cycle h p = h p
at_time_by-solves false sys cycle h p = tt

next_delta_by-solves : (many : Bool) (sys : System) (begin : RunState → Run) → FromAll sys begin → FromAll sys (l.next_delta_by many begin)
next_delta_by-solves true sys begin h p = tt
next_delta_by-solves false sys begin h p = h (l.deeper p)

from_place_by-solves : (next : Following) (sys : System) (delta further : RunState → Run) → FromAll sys delta → FromAll sys further → FromAll sys (l.from_place_by next delta further)
from_place_by-solves l.NextDelta sys delta further hd hf p = hd p
from_place_by-solves l.StopTime sys delta further hd hf p = tt
from_place_by-solves l.NextPhase sys delta further hd hf p = hf p

from_place-solves : (sys : System) (begin : ℕ → Bool → RunState → Run) → ((m : ℕ) (b : Bool) → FromAll sys (begin m b)) → (n : ℕ) → FromAll sys (l.from_place sys begin n)
from_place-solves sys begin h n p =
    let cycle : ℕ → RunState → Run = λ m q. begin m false q in
    from_place_by-solves (l.following (l.begins_delta sys p) (p.time == sys.options.stop)) sys
    (l.next_delta sys begin n (not (l.is_due sys p))) (l.phase_from sys cycle n)
    (λ q. next_delta_by-solves (nat_le sys.deltas q.delta) sys (begin n (not (l.is_due sys p))) (h n (not (l.is_due sys p))) q)
    (phase-solves sys cycle (l.at_time sys cycle) (λ m. h m false)
    (λ m q. at_time_by-solves (l.stands (sys.next_time q.digital) q.time) sys (cycle m) (h m false) q) n) p

cycled_run-solves : (sys : System) (rest : RunState → Run) → FromAll sys rest → (to_time : Bool) (p : RunState) (ran : Ran) → Solves sys (l.cycled_run sys rest to_time p ran)
cycled_run-solves sys rest h to_time p (rans.Done broke) = (tt, h (l.cycled sys to_time p broke))
cycled_run-solves sys rest h to_time p (rans.Refused refusal) = (tt, tt)

solved_run-solves : (sys : System) (cycle : RunState → Run) → FromAll sys cycle → (p : RunState) (o : Result (List ℤ) Cause) → l.solution sys p ≡ o → Solves sys (l.solved_run sys cycle p o)
solved_run-solves sys cycle h p (Ok x) e =
    (point-is (IsSolution sys p) p.time p.delta x (l.solution_branches sys p) p.branches (record { time_is = refl; solution_is = e }), h (l.solved_at sys p x))
solved_run-solves sys cycle h p (Err c) e = (tt, tt)

delta_by-solves : (needs : Bool) (sys : System) (cycle : RunState → Run) → FromAll sys cycle → FromAll sys (l.delta_by needs sys cycle)
delta_by-solves true sys cycle h p = solved_run-solves sys cycle h p (l.solution sys p) refl
delta_by-solves false sys cycle h p = h p

delta_run-solves : (sys : System) (rest : RunState → Run) → FromAll sys rest → (to_time : Bool) → FromAll sys (l.delta_run sys rest to_time)
delta_run-solves sys rest h to_time p =
    delta_by-solves (l.needs_solution sys p) sys (l.cycle_run sys rest to_time)
    (λ q. cycled_run-solves sys rest h to_time q (l.cycle_at sys to_time q).ran) p

goes_on-solves : (sys : System) (c n : ℕ) → FromAll sys (goes_on sys c n)
unfolding goes_on
goes_on-solves sys zero n p =
    from_place-solves sys (λ m b q. l.too_many_cycles q) (λ m b q. tt) n p
goes_on-solves sys (suc c) n p =
    from_place-solves sys (λ m b q. l.delta_run sys (goes_on sys c m) b q)
    (λ m b q. delta_run-solves sys (goes_on sys c m) (goes_on-solves sys c m) b q) n p

started_run-solves : (sys : System) (ran : Ran) → Solves sys (l.started_run sys ran)
started_run-solves sys (rans.Done broke) = (tt, goes_on-solves sys sys.cycles sys.tries (l.first_place sys broke))
started_run-solves sys (rans.Refused refusal) = (tt, tt)

-- each point of a run is a solution
pub lockstep_solves : (sys : System) → AreSolved sys (lockstep sys).works (lockstep sys).states
lockstep_solves sys = started_run-solves sys (l.first_cycle sys).ran
