-- Each work of a run begins where the one before left, and with allowed options each step lies from one tick to 10^12.
use Rattle.std.specs.Prelude.{◌≡◌, ℕ, zero, suc, ◌+◌, ◌-◌, ◌/◌, ◌≤◌, ◌==◌, Bool, true, false, not, nat_lt, nat_le, if◌then◌else◌, ℤ, List, [], ◌∷◌, Result, Ok, Err, refl}
use Rattle.std.proofs.Common.{arith}
use Rattle.std.proofs.lemmas.Bool.Decides.{leb_tells}
use Rattle.step_data.specs.declared.tip.Tip.{Tip}
use Rattle.step_data.specs.declared.tip.Attempt.{Attempt}
use Rattle.step_data.specs.declared.event.Event.{Event}
use Rattle.step_data.specs.declared.outcome.Cause.{Cause}
use Rattle.step_data.specs.declared.outcome.Ran.{Ran}
use Rattle.step_data.specs.declared.outcome.Ran.TheVariants as rans
use Rattle.step_data.specs.declared.outcome.End.TheVariants.{Refused}
use Rattle.step_data.specs.Options.{IsAllowed}
use Rattle.step_data.specs.Steps.{next, is_failed}
use Rattle.step_model.specs.System.{System, Landing, attempt}
use Rattle.step_model.specs.Answers.{IsStep}
use Rattle.step_model.specs.StepLaws.{HasStep, attempt_from, allowed_step}
use Rattle.lockstep_model.specs.RunStates.{RunState}
use Rattle.lockstep_model.specs.Works.{Work, WorkKind, Worked, Tried, Run, Standing, before, over}
use Rattle.lockstep_model.specs.Works as kinds
use Rattle.lockstep_model.specs.Crossing.{Bounds, is_near, differs}
use Rattle.lockstep_model.specs.Lockstep as l
use Rattle.lockstep_model.specs.Lockstep.{PhaseStep, Following, phase, locate, goes_on, lockstep, standing, frame_at}

-- the tip and frame that a work leaves: an attempt that was a crossing leaves the tip as it was
abbrev pub left_behind : Work → Standing
left_behind (Worked kind events renews s) = s
left_behind (Tried tip frame until made true events) = record { tip = tip; frame = frame }
left_behind (Tried tip frame until made false events) = record { tip = next tip made; frame = frame }

-- a tried one's tip and frame are those with which it begins, and it is the attempt from there
abbrev pub IsMadeAt : System → Work → RunState → Type 0
IsMadeAt sys (Worked kind events renews s) p = Unit {0}
IsMadeAt sys (Tried tip frame until made crossing events) p =
    (tip ≡ p.tip) × (frame ≡ frame_at sys p) × (made ≡ attempt sys frame tip)

-- a work begins with the tip and the frame that were left
pub record BeginsWith (sys : System) (left : Standing) (w : Work) (p : RunState) : Type 0 where
  pub left_is : left ≡ standing sys p
  pub made_is : IsMadeAt sys w p
  pub step : HasStep sys.options p.tip.h

abbrev pub Continues : System → Standing → List Work → List RunState → Type 0
Continues sys left [] [] = Unit {0}
Continues sys left [] (p ∷ states) = ⊥
Continues sys left (w ∷ works) [] = ⊥
Continues sys left (w ∷ works) (p ∷ states) = BeginsWith sys left w p × Continues sys (left_behind w) works states

abbrev GoesOnFrom : System → RunState → Run → Type 0
GoesOnFrom sys p r = Continues sys (standing sys p) r.works r.states

abbrev Steady : System → RunState → Type 0
Steady sys p = HasStep sys.options p.tip.h

-- what goes on from every steady place
abbrev FromAll : System → (RunState → Run) → Type 0
FromAll sys rest = (q : RunState) → Steady sys q → GoesOnFrom sys q (rest q)

worked : (sys : System) (kind : WorkKind) (events : List Event) (renews : Bool) (p q : RunState) (r : Run) → Steady sys p → GoesOnFrom sys q r → GoesOnFrom sys p (before p (Worked kind events renews (standing sys q)) r)
worked sys kind events renews p q r step rest = (record { left_is = refl; made_is = tt; step = step }, rest)

locate-continues : (sys : System) (cross : ℕ → RunState → Run) → ((m : ℕ) → FromAll sys (cross m)) → (n : ℕ) (p : RunState) → Steady sys p → (b : Bounds) → GoesOnFrom sys p (locate sys cross n p b)
unfolding locate
locate-continues sys cross h zero p step b =
    elim (is_near sys.options.xres b) as
    (λ t. GoesOnFrom sys p (l.searched t sys (cross zero) (λ b'. l.too_many_tries p) p b)) [
      | true ↦ h zero (l.stepped_to sys p b.hi b.x) step
      | false ↦ tt
    ]
locate-continues sys cross h (suc n) p step b =
    elim (is_near sys.options.xres b) as
    (λ t. GoesOnFrom sys p (l.searched t sys (cross (suc n)) (l.probe_run sys p (locate sys cross n p)) p b)) [
      | true ↦ h (suc n) (l.stepped_to sys p b.hi b.x) step
      | false ↦
          worked sys kinds.Probe (l.bound_events sys p (l.probed sys p b)) false p p (locate sys cross n p (l.probed sys p b)) step
          (locate-continues sys cross h n p step (l.probed sys p b))
    ]

-- where a search goes on from the place
abbrev Searches : System → RunState → (Bounds → Run) → Type 0
Searches sys p crossing = (b : Bounds) → GoesOnFrom sys p (crossing b)

-- an attempt, and what follows it
tried-continues : (sys : System) (crossing : Bounds → Run) (later : RunState → Run) (p : RunState) → Steady sys p → Searches sys p crossing → FromAll sys later → GoesOnFrom sys p (l.tried sys crossing later p (l.attempt_at sys p))
tried-continues sys crossing later p step hc hl =
    let a : Attempt = l.attempt_at sys p in
    elim (l.is_crossing sys p a) as
    (λ t. BeginsWith sys (standing sys p) (Tried p.tip (frame_at sys p) (l.until sys p) a t (l.attempt_events sys p a)) p × Continues sys (left_behind (Tried p.tip (frame_at sys p) (l.until sys p) a t (l.attempt_events sys p a))) (l.after_attempt (l.attempt_end t (is_failed a.kind)) sys crossing later p a).works (l.after_attempt (l.attempt_end t (is_failed a.kind)) sys crossing later p a).states) [
      | true ↦ (record { left_is = refl; made_is = (refl, refl, refl); step = step }, hc (l.attempt_bounds p a))
      | false ↦ (
        record { left_is = refl; made_is = (refl, refl, refl); step = step },
        elim (is_failed a.kind) as (λ t. Continues sys (standing sys (l.behind sys p a)) (l.after_attempt (l.attempt_end false t) sys crossing later p a).works (l.after_attempt (l.attempt_end false t) sys crossing later p a).states) [
          | true ↦ tt
          | false ↦ hl (l.behind sys p a) (attempt_from sys (frame_at sys p) p.tip step).behind
        ],
      )
    ]

-- half of a side step that isn't too small
half-steady : (sys : System) (p : RunState) → Steady sys p → l.ends_in_time sys p ≡ false → l.is_too_small sys p ≡ false → Steady sys (l.side_refused sys p)
half-steady sys p step far large =
    record {
      least = not_below (l.side_step sys p / 2) sys.options.hmin large;
      most = half (l.until sys p) p.tip.t p.tip.h sys.options.hmax far step.most;
    }
  where
    not_below : (a b : ℕ) → nat_lt a b ≡ false → b ≤ a
    not_below a b e = grind (arith, leb_tells)

    half : (u t h most : ℕ) → nat_le (t + h) u ≡ false → h ≤ most → (u - t) / 2 ≤ most
    half u t h most far top = grind (arith, leb_tells)

refused_side-continues : (sys : System) (refused : RunState → Run) (p : RunState) (c : Cause) → Steady sys p → l.ends_in_time sys p ≡ false → FromAll sys refused → GoesOnFrom sys p (l.refused_side (l.is_too_small sys p) sys refused p c)
refused_side-continues sys refused p c step far hr =
    elim (l.is_too_small sys p) as
    (λ t. l.is_too_small sys p ≡ t → GoesOnFrom sys p (l.refused_side t sys refused p c)) [
      | true ↦ λ e. worked sys kinds.Side [] false p p (l.step_too_small (l.until sys p) c) step tt
      | false ↦
          λ e.
          worked sys kinds.Side [] true p (l.side_refused sys p) (refused (l.side_refused sys p)) step
          (hr (l.side_refused sys p) (half-steady sys p step far e))
    ] refl

accepted_side-continues : (crossed : Bool) (sys : System) (crossing : Bounds → Run) (arrive : RunState → Run) (p : RunState) (s : Landing) → Steady sys p → Searches sys p crossing → FromAll sys arrive → GoesOnFrom sys p (l.accepted_side crossed sys crossing arrive p s)
accepted_side-continues true sys crossing arrive p s step hc ha =
    worked sys kinds.Side (l.bound_events sys p (l.side_bounds sys p s)) false p p (crossing (l.side_bounds sys p s)) step (hc (l.side_bounds sys p s))
accepted_side-continues false sys crossing arrive p s step hc ha =
    worked sys kinds.Side (l.point_events (l.until sys p) 0 s.x (l.step_branches sys p) p.branches) false p (l.side_arrived sys p s)
    (arrive (l.side_arrived sys p s)) step (ha (l.side_arrived sys p s) step)

sided-continues : (sys : System) (crossing : Bounds → Run) (refused arrive : RunState → Run) (p : RunState) (o : Result Landing Cause) → Steady sys p → l.ends_in_time sys p ≡ false → Searches sys p crossing → FromAll sys refused → FromAll sys arrive → GoesOnFrom sys p (l.sided sys crossing refused arrive p o)
sided-continues sys crossing refused arrive p (Err c) step far hc hr ha = refused_side-continues sys refused p c step far hr
sided-continues sys crossing refused arrive p (Ok s) step far hc hr ha =
    accepted_side-continues (differs s.x (l.thresholds_at sys p)) sys crossing arrive p s step hc ha

phase_by-continues : (sys : System) (arrive attempt side : RunState → Run) (p : RunState) → GoesOnFrom sys p (arrive (l.at_tip sys p)) → GoesOnFrom sys p (attempt p) → (l.ends_in_time sys p ≡ false → GoesOnFrom sys p (side p)) → GoesOnFrom sys p (l.phase_by (l.phase_step (l.is_there sys p) (l.ends_in_time sys p)) sys arrive attempt side p)
phase_by-continues sys arrive attempt side p ha ht hs =
    elim (l.is_there sys p) as
    (λ t. GoesOnFrom sys p (l.phase_by (l.phase_step t (l.ends_in_time sys p)) sys arrive attempt side p)) [
      | true ↦ ha
      | false ↦
          elim (l.ends_in_time sys p) as
          (λ t. l.ends_in_time sys p ≡ t → GoesOnFrom sys p (l.phase_by (l.phase_step false t) sys arrive attempt side p)) [
            | true ↦ λ e. ht
            | false ↦ hs
          ] refl
    ]

phase-continues : (sys : System) (cross arrive : ℕ → RunState → Run) → ((m : ℕ) → FromAll sys (cross m)) → ((m : ℕ) → FromAll sys (arrive m)) → (n : ℕ) → FromAll sys (phase sys cross arrive n)
unfolding phase
phase-continues sys cross arrive hc ha zero p step =
    phase_by-continues sys (arrive zero) l.too_many_tries l.too_many_tries p (ha zero (l.at_tip sys p) step) tt (λ far. tt)
phase-continues sys cross arrive hc ha (suc n) p step =
    phase_by-continues sys (arrive (suc n))
    (λ q. l.tried sys (locate sys cross n q) (phase sys cross arrive n) q (l.attempt_at sys q))
    (λ q. l.sided sys (locate sys cross n q) (phase sys cross arrive n) (arrive n) q (l.side_at sys q)) p
    (ha (suc n) (l.at_tip sys p) step)
    (tried-continues sys (locate sys cross n p) (phase sys cross arrive n) p step (locate-continues sys cross hc n p step)
    (phase-continues sys cross arrive hc ha n))
    (λ far. sided-continues sys (locate sys cross n p) (phase sys cross arrive n) (arrive n) p (l.side_at sys p) step far
    (locate-continues sys cross hc n p step) (phase-continues sys cross arrive hc ha n) (ha n))

at_time_by-continues : (stands : Bool) (sys : System) (cycle : RunState → Run) → FromAll sys cycle → FromAll sys (l.at_time_by stands cycle)
at_time_by-continues true sys cycle h p step = h p step
at_time_by-continues false sys cycle h p step = tt

next_delta_by-continues : (many : Bool) (sys : System) (begin : RunState → Run) → FromAll sys begin → FromAll sys (l.next_delta_by many begin)
next_delta_by-continues true sys begin h p step = tt
next_delta_by-continues false sys begin h p step = h (l.deeper p) step

from_place_by-continues : (following : Following) (sys : System) (delta further : RunState → Run) (p : RunState) → GoesOnFrom sys p (delta p) → GoesOnFrom sys p (further p) → GoesOnFrom sys p (l.from_place_by following delta further p)
from_place_by-continues l.NextDelta sys delta further p hd hf = hd
from_place_by-continues l.StopTime sys delta further p hd hf = tt
from_place_by-continues l.NextPhase sys delta further p hd hf = hf

from_place-continues : (sys : System) (begin : ℕ → Bool → RunState → Run) → ((m : ℕ) (b : Bool) → FromAll sys (begin m b)) → (n : ℕ) → FromAll sys (l.from_place sys begin n)
from_place-continues sys begin h n p step =
    let cycle : ℕ → RunState → Run = λ m q. begin m false q in
    from_place_by-continues (l.following (l.begins_delta sys p) (p.time == sys.options.stop)) sys
    (l.next_delta sys begin n (not (l.is_due sys p))) (l.phase_from sys cycle n) p
    (next_delta_by-continues (nat_le sys.deltas p.delta) sys (begin n (not (l.is_due sys p))) (h n (not (l.is_due sys p))) p step)
    (phase-continues sys cycle (l.at_time sys cycle) (λ m. h m false)
    (λ m q. at_time_by-continues (l.stands (sys.next_time q.digital) q.time) sys (cycle m) (h m false) q) n p step)

-- a renewed tip has the first step
new_tip-steady : (sys : System) (renewed : Bool) (t : ℕ) (x : List ℤ) (tip : Tip) → IsAllowed sys.options → HasStep sys.options tip.h → HasStep sys.options (if renewed then l.new_tip sys t x else tip).h
new_tip-steady sys true t x tip o step = record { least = o.h0_least; most = o.h0_most }
new_tip-steady sys false t x tip o step = step

cycled_run-continues : (sys : System) (rest : RunState → Run) → IsAllowed sys.options → FromAll sys rest → (to_time : Bool) (p : RunState) (ran : Ran) → Steady sys p → GoesOnFrom sys p (l.cycled_run sys rest to_time p ran)
cycled_run-continues sys rest o h to_time p (rans.Done broke) step =
    worked sys kinds.Cycle (l.cycle_at sys to_time p).events (l.renews sys to_time p broke) p (l.cycled sys to_time p broke)
    (rest (l.cycled sys to_time p broke)) step
    (h (l.cycled sys to_time p broke) (new_tip-steady sys (l.renews sys to_time p broke) p.time p.point p.tip o step))
cycled_run-continues sys rest o h to_time p (rans.Refused refusal) step =
    worked sys kinds.Cycle (l.cycle_at sys to_time p).events false p p (over (Refused p.time refusal)) step tt

solved_run-continues : (sys : System) (cycle : RunState → Run) → IsAllowed sys.options → FromAll sys cycle → (p : RunState) (r : Result (List ℤ) Cause) → Steady sys p → GoesOnFrom sys p (l.solved_run sys cycle p r)
solved_run-continues sys cycle o h p (Ok x) step =
    worked sys kinds.Solve (l.point_events p.time p.delta x (l.solution_branches sys p) p.branches) p.timed p (l.solved_at sys p x)
    (cycle (l.solved_at sys p x)) step (h (l.solved_at sys p x) (new_tip-steady sys p.timed p.time x p.tip o step))
solved_run-continues sys cycle o h p (Err c) step =
    worked sys kinds.Solve [] false p p (l.unsolvable p c) step tt

delta_by-continues : (needs : Bool) (sys : System) (cycle : RunState → Run) → IsAllowed sys.options → FromAll sys cycle → FromAll sys (l.delta_by needs sys cycle)
delta_by-continues true sys cycle o h p step = solved_run-continues sys cycle o h p (l.solution sys p) step
delta_by-continues false sys cycle o h p step = h p step

delta_run-continues : (sys : System) (rest : RunState → Run) → IsAllowed sys.options → FromAll sys rest → (to_time : Bool) → FromAll sys (l.delta_run sys rest to_time)
delta_run-continues sys rest o h to_time p step =
    delta_by-continues (l.needs_solution sys p) sys (l.cycle_run sys rest to_time) o
    (λ q at. cycled_run-continues sys rest o h to_time q (l.cycle_at sys to_time q).ran at) p step

goes_on-continues : (sys : System) → IsAllowed sys.options → (c n : ℕ) → FromAll sys (goes_on sys c n)
unfolding goes_on
goes_on-continues sys o zero n p step =
    from_place-continues sys (λ m b q. l.too_many_cycles q) (λ m b q at. tt) n p step
goes_on-continues sys o (suc c) n p step =
    from_place-continues sys (λ m b q. l.delta_run sys (goes_on sys c m) b q)
    (λ m b q at. delta_run-continues sys (goes_on sys c m) o (goes_on-continues sys o c m) b q at) n p step

first-steady : (sys : System) → IsAllowed sys.options → HasStep sys.options sys.options.h0
first-steady sys o = record { least = o.h0_least; most = o.h0_most }

started_run-continues : (sys : System) → IsAllowed sys.options → (ran : Ran) → GoesOnFrom sys (l.unstarted_state sys) (l.started_run sys ran)
started_run-continues sys o (rans.Done broke) =
    worked sys kinds.Start (l.first_cycle sys).events false (l.unstarted_state sys) (l.first_place sys broke)
    (goes_on sys sys.cycles sys.tries (l.first_place sys broke)) (first-steady sys o)
    (goes_on-continues sys o sys.cycles sys.tries (l.first_place sys broke) (first-steady sys o))
started_run-continues sys o (rans.Refused refusal) =
    worked sys kinds.Start (l.first_cycle sys).events false (l.unstarted_state sys) (l.unstarted_state sys) (over (Refused 0 refusal)) (first-steady sys o) tt

-- each work of a run begins where the one before left
pub lockstep_continues : (sys : System) → IsAllowed sys.options → Continues sys (l.first_standing sys) (lockstep sys).works (lockstep sys).states
lockstep_continues sys o = started_run-continues sys o (l.first_cycle sys).ran

-- the step of the tip with which each work begins lies from one tick to 10^12
abbrev pub StepsFit : List RunState → Type 0
StepsFit [] = Unit {0}
StepsFit (p ∷ states) = IsStep p.tip.h × StepsFit states

continues-fit : (sys : System) → IsAllowed sys.options → (left : Standing) (works : List Work) (states : List RunState) → Continues sys left works states → StepsFit states
continues-fit sys o left [] [] h = tt
continues-fit sys o left [] (p ∷ states) h = absurd h
continues-fit sys o left (w ∷ works) [] h = absurd h
continues-fit sys o left (w ∷ works) (p ∷ states) h =
    (allowed_step sys.options p.tip.h o h.0.step, continues-fit sys o (left_behind w) works states h.1)

pub lockstep_steps : (sys : System) → IsAllowed sys.options → StepsFit (lockstep sys).states
lockstep_steps sys o =
    continues-fit sys o (l.first_standing sys) (lockstep sys).works (lockstep sys).states (lockstep_continues sys o)
