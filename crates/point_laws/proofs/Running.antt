-- The points of a run are given as `Giving` says, by the definition of lockstep.
use Rattle.std.proofs.Common.{◌≡◌, refl, sym, ap, ◌∙◌, subst, ℕ, zero, suc, ◌+◌, ◌-◌, ◌≤◌, ◌<◌, ◌==◌, ◌&&◌, ◌||◌, Bool, true, false, not, List, [], length, arith}
use Rattle.std.specs.Prelude.{◌/◌, ℤ, cond, nat_le, nat_lt, Option, Some, None, Result, Ok, Err}
use Rattle.std.proofs.lemmas.Bool.Decides.{leb_tells}
use Rattle.step_data.specs.declared.tip.Tip.{Tip}
use Rattle.step_data.specs.declared.tip.Attempt.{Attempt}
use Rattle.step_data.specs.declared.event.Event.{Event}
use Rattle.step_data.specs.declared.outcome.Cause.{Cause}
use Rattle.step_data.specs.declared.outcome.Ran.{Ran}
use Rattle.step_data.specs.declared.outcome.Ran.TheVariants as rans
use Rattle.step_data.specs.declared.outcome.Kind.{Kind}
use Rattle.step_data.specs.declared.outcome.Kind.TheVariants.{Accepted, Rejected, Failed}
use Rattle.step_data.specs.Steps.{end_of, next_by, is_accepted, is_failed}
use Rattle.step_model.specs.System.{System, Landing, attempt, attempt_by, rejected_by, failed_by}
use Rattle.lockstep_model.specs.RunStates.{RunState}
use Rattle.lockstep_model.specs.Works.{Run}
use Rattle.lockstep_model.specs.Crossing.{Bounds, is_near, differs, narrowed, middle, lower_half, upper_half}
use Rattle.lockstep_model.specs.Lockstep as l
use Rattle.lockstep_model.specs.Lockstep.{PhaseStep, Following, phase, locate, goes_on, lockstep, frame_at, attempt_end, phase_step, following}
use Rattle.lockstep_model.specs.Solutions.{IsReached}
use Rattle.point_laws.specs.Told.{Told, told_over, EachPoint}
use Rattle.point_laws.proofs.Telling.{named, point_holds}
use Rattle.point_laws.proofs.Giving.{Tells, IsChosen, Speaks, IsSettled, IsStepped, AreGiven, Gives, Agrees, IsPlaced, InPhase, Arrives, GoesOn, IsBetween, Point, step_point, agrees_behind, chosen_branches}

module _ (sys : System) (n : ℕ) (speaks : Speaks sys n) where
  -- ---- the search of a crossing

  at_bounds : (told : Told) (p : RunState) (b : Bounds) → InPhase sys n told p → IsBetween sys p b → Point (IsStepped sys n p) sys n told p.digital p.timed (l.step_branches sys p) (l.point_events b.hi 0 b.x (l.step_branches sys p) p.branches)
  at_bounds told p b h between =
      let order = between.order in
      let tip = between.tip in
      step_point sys n told p b.hi 0 b.x speaks h.agrees h.timed_is (omega arith) between.reached

  -- the point of bounds that are near
  bound_events-hold : (told : Told) (p : RunState) (b : Bounds) → InPhase sys n told p → IsBetween sys p b → EachPoint (IsStepped sys n p) told (l.bound_events sys p b)
  bound_events-hold told p b h between =
      elim (is_near sys.options.xres b) as
      (λ t. EachPoint (IsStepped sys n p) told (cond t (l.point_events b.hi 0 b.x (l.step_branches sys p) p.branches) [])) [
        | true ↦ (at_bounds told p b h between).holds
        | false ↦ tt
      ]

  crossed : (cross : RunState → Run) → Arrives sys n cross → (told : Told) (p : RunState) (b : Bounds) → InPhase sys n told p → IsBetween sys p b → is_near sys.options.xres b ≡ true
      → Gives sys n (told_over told (l.bound_events sys p b)) (cross (l.stepped_to sys p b.hi b.x))
  crossed cross arrives told p b h between near =
      let order = between.order in
      let tip = between.tip in
      let events : l.bound_events sys p b ≡ l.point_events b.hi 0 b.x (l.step_branches sys p) p.branches = ap (λ t. cond t (l.point_events b.hi 0 b.x (l.step_branches sys p) p.branches) []) near in
      let P : List Event → Type 0 = λ es. Gives sys n (told_over told es) (cross (l.stepped_to sys p b.hi b.x)) in
      subst P (sym events)
      (arrives (told_over told (l.point_events b.hi 0 b.x (l.step_branches sys p) p.branches)) (l.stepped_to sys p b.hi b.x)
      (record { agrees = (at_bounds told p b h between).agrees; tip = omega arith; within = between.within }))

  uncrossed : (told : Told) (p : RunState) (b : Bounds) (r : Run) → is_near sys.options.xres b ≡ false → Gives sys n told r → Gives sys n (told_over told (l.bound_events sys p b)) r
  uncrossed told p b r far h =
      let events : l.bound_events sys p b ≡ [] = ap (λ t. cond t (l.point_events b.hi 0 b.x (l.step_branches sys p) p.branches) []) far in
      let P : List Event → Type 0 = λ es. Gives sys n (told_over told es) r in
      subst P (sym events) h

  -- the bounds behind a probe
  narrowed-between : (p : RunState) (b : Bounds) (o : Result Landing Cause) → sys.trial (frame_at sys p) p.tip (middle b - p.tip.t) ≡ o → IsBetween sys p b → IsBetween sys p (narrowed (l.thresholds_at sys p) b o)
  narrowed-between p b (Err c) e h =
      let order = h.order in
      let tip = h.tip in
      record { order = omega arith; tip = omega arith; within = h.within; reached = h.reached }
  narrowed-between p b (Ok s) e h =
      let order = h.order in
      let tip = h.tip in
      let within = h.within in
      elim (differs s.x (l.thresholds_at sys p)) as (λ t. IsBetween sys p (cond t (lower_half b s.x) (upper_half b))) [
        | true ↦ record { order = omega arith; tip = h.tip; within = omega arith; reached = record { landing = s; step_is = e; point_is = refl } }
        | false ↦ record { order = omega arith; tip = omega arith; within = h.within; reached = h.reached }
      ]

  locate-gives : (cross : ℕ → RunState → Run) → ((m : ℕ) → Arrives sys n (cross m)) → (m : ℕ) (told : Told) (p : RunState) (b : Bounds) → InPhase sys n told p → IsBetween sys p b
      → Gives sys n (told_over told (l.bound_events sys p b)) (locate sys cross m p b)
  unfolding locate
  locate-gives cross arrives zero told p b h between =
      elim (is_near sys.options.xres b) as
      (λ t. is_near sys.options.xres b ≡ t → Gives sys n (told_over told (l.bound_events sys p b)) (l.searched t sys (cross zero) (λ b'. l.too_many_tries p) p b)) [
        | true ↦ λ near. crossed (cross zero) (arrives zero) told p b h between near
        | false ↦ λ far. tt
      ] refl
  locate-gives cross arrives (suc m) told p b h between =
      elim (is_near sys.options.xres b) as
      (λ t. is_near sys.options.xres b ≡ t → Gives sys n (told_over told (l.bound_events sys p b)) (l.searched t sys (cross (suc m)) (l.probe_run sys p (locate sys cross m p)) p b)) [
        | true ↦ λ near. crossed (cross (suc m)) (arrives (suc m)) told p b h between near
        | false ↦ λ far.
            let next : IsBetween sys p (l.probed sys p b) = narrowed-between p b (sys.trial (frame_at sys p) p.tip (middle b - p.tip.t)) refl between in
            uncrossed told p b (l.probe_run sys p (locate sys cross m p) b) far
            (bound_events-hold told p (l.probed sys p b) h next, locate-gives cross arrives m told p (l.probed sys p b) h next)
      ] refl

  abbrev Searches : Told → RunState → (Bounds → Run) → Type 0
  Searches told p crossing = (b : Bounds) → IsBetween sys p b → Gives sys n (told_over told (l.bound_events sys p b)) (crossing b)

  -- ---- attempts

  and_first : (x y : Bool) → (x && y) ≡ true → x ≡ true
  and_first true y e = refl
  and_first false y e = e

  and_second : (x y : Bool) → (x && y) ≡ true → y ≡ true
  and_second true y e = e
  and_second false y e = cc

  at_most : (a b : ℕ) → nat_le a b ≡ true → a ≤ b
  at_most a b e = grind (arith, leb_tells)

  later_than : (a b : ℕ) → nat_lt a b ≡ true → a < b
  later_than a b e = grind (arith, leb_tells)

  -- an attempt ends where the step does, and what it reached where it was accepted
  record IsTried (p : RunState) (a : Attempt) : Type 0 where
    end : a.end ≡ end_of p.tip
    reached : is_accepted a.kind ≡ true → IsReached sys p a.end a.x

  back : (t h : ℕ) → t + h - t ≡ h
  back t h = omega arith

  tried_by : (p : RunState) (o : Result Landing Cause) → sys.trial (frame_at sys p) p.tip p.tip.h ≡ o → IsTried p (attempt_by sys.options p.tip o)
  tried_by p (Ok s) e =
      record {
        end = refl;
        reached = λ _. record { landing = s; step_is = ap (λ h. sys.trial (frame_at sys p) p.tip h) (back p.tip.t p.tip.h) ∙ e; point_is = refl };
      }
  tried_by p (Err c) e =
      elim (nat_le sys.options.hmin (p.tip.h / 2)) as (λ b. IsTried p (cond b (rejected_by p.tip c) (failed_by p.tip c))) [
        | true ↦ record { end = refl; reached = λ h. cc }
        | false ↦ record { end = refl; reached = λ h. cc }
      ]

  tried_at : (p : RunState) → IsTried p (l.attempt_at sys p)
  unfolding attempt
  tried_at p = tried_by p (sys.trial (frame_at sys p) p.tip p.tip.h) refl

  next-within : (kind : Kind) (tip : Tip) (a : Attempt) (u : ℕ) → tip.t ≤ u → a.end ≤ u → (next_by kind tip a).t ≤ u
  next-within Accepted tip a u h k = k
  next-within Rejected tip a u h k = h
  next-within Failed tip a u h k = h

  -- a point that an attempt gives, if it does
  given-point : (told : Told) (p : RunState) (a : Attempt) → InPhase sys n told p → IsTried p a
      → Point (IsStepped sys n p) sys n told p.digital p.timed (cond (l.gives_point p a) (l.step_branches sys p) p.branches) (cond (l.gives_point p a) (l.point_events a.end 0 a.x (l.step_branches sys p) p.branches) [])
  given-point told p a h tried =
      elim (l.gives_point p a) as
      (λ t. l.gives_point p a ≡ t → Point (IsStepped sys n p) sys n told p.digital p.timed (cond t (l.step_branches sys p) p.branches) (cond t (l.point_events a.end 0 a.x (l.step_branches sys p) p.branches) [])) [
        | true ↦ λ e.
            let end = tried.end in
            step_point sys n told p a.end 0 a.x speaks h.agrees h.timed_is (omega arith) (tried.reached (and_first (is_accepted a.kind) (nat_lt p.time a.end) e))
        | false ↦ λ e. record { holds = tt; agrees = h.agrees }
      ] refl

  attempt-between : (told : Told) (p : RunState) (a : Attempt) → InPhase sys n told p → IsTried p a → end_of p.tip ≤ l.until sys p → l.gives_point p a ≡ true → IsBetween sys p (l.attempt_bounds p a)
  attempt-between told p a h tried ends e =
      let after = later_than p.time a.end (and_second (is_accepted a.kind) (nat_lt p.time a.end) e) in
      let end = tried.end in
      let within = h.within in
      record { order = omega arith; tip = omega arith; within = omega arith; reached = tried.reached (and_first (is_accepted a.kind) (nat_lt p.time a.end) e) }

  behind-in : (told now : Told) (p : RunState) (a : Attempt) → InPhase sys n told p → a.end ≤ l.until sys p → Agrees sys n now p.digital p.timed (cond (l.gives_point p a) (l.step_branches sys p) p.branches) → InPhase sys n now (l.behind sys p a)
  behind-in told now p a h ends agrees =
      record { agrees = agrees; timed_is = h.timed_is; before = h.before; tip = next-within a.kind p.tip a (l.until sys p) h.tip ends; within = h.within }

  -- what follows an attempt that was no crossing
  further : (failed : Bool) (crossing : Bounds → Run) (later : RunState → Run) (told : Told) (p : RunState) (a : Attempt) → GoesOn sys n later → InPhase sys n told (l.behind sys p a)
      → Gives sys n told (l.after_attempt (attempt_end false failed) sys crossing later p a)
  further true crossing later told p a goes h = tt
  further false crossing later told p a goes h = goes told (l.behind sys p a) h

  tried-gives : (crossing : Bounds → Run) (later : RunState → Run) (told : Told) (p : RunState) (a : Attempt) → InPhase sys n told p → IsTried p a → end_of p.tip ≤ l.until sys p → Searches told p crossing → GoesOn sys n later
      → Gives sys n told (l.tried sys crossing later p a)
  tried-gives crossing later told p a h tried ends searches goes =
      elim (l.is_crossing sys p a) as
      (λ t. l.is_crossing sys p a ≡ t → EachPoint (IsStepped sys n p) told (cond t (l.bound_events sys p (l.attempt_bounds p a)) points) × Gives sys n (told_over told (cond t (l.bound_events sys p (l.attempt_bounds p a)) points)) (l.after_attempt (attempt_end t (is_failed a.kind)) sys crossing later p a)) [
        | true ↦ λ e.
            let between = attempt-between told p a h tried ends (and_first (l.gives_point p a) (differs a.x (l.thresholds_at sys p)) e) in
            (bound_events-hold told p (l.attempt_bounds p a) h between, searches (l.attempt_bounds p a) between)
        | false ↦ λ e.
            let point = given-point told p a h tried in
            let end = tried.end in
            (point.holds, further (is_failed a.kind) crossing later (told_over told points) p a goes (behind-in told (told_over told points) p a h (omega arith) point.agrees))
      ] refl
    where
      points : List Event
      points = cond (l.gives_point p a) (l.point_events a.end 0 a.x (l.step_branches sys p) p.branches) []

  -- ---- side steps

  refused_side-gives : (small : Bool) (refused : RunState → Run) (told : Told) (p : RunState) (c : Cause) → InPhase sys n told p → GoesOn sys n refused → Gives sys n told (l.refused_side small sys refused p c)
  refused_side-gives true refused told p c h goes = (tt, tt)
  refused_side-gives false refused told p c h goes =
      (tt, goes told (l.side_refused sys p) (record { agrees = h.agrees; timed_is = h.timed_is; before = h.before; tip = h.tip; within = h.within }))

  accepted_side-gives : (crossed : Bool) (crossing : Bounds → Run) (arrive : RunState → Run) (told : Told) (p : RunState) (s : Landing) → InPhase sys n told p → IsReached sys p (l.until sys p) s.x → Searches told p crossing → Arrives sys n arrive
      → Gives sys n told (l.accepted_side crossed sys crossing arrive p s)
  accepted_side-gives true crossing arrive told p s h reached searches arrives =
      let before = h.before in
      let tip = h.tip in
      let between : IsBetween sys p (l.side_bounds sys p s) = record { order = omega arith; tip = omega arith; within = h.within; reached = reached } in
      (bound_events-hold told p (l.side_bounds sys p s) h between, searches (l.side_bounds sys p s) between)
  accepted_side-gives false crossing arrive told p s h reached searches arrives =
      let point = step_point sys n told p (l.until sys p) 0 s.x speaks h.agrees h.timed_is h.tip reached in
      (point.holds, arrives (told_over told (l.point_events (l.until sys p) 0 s.x (l.step_branches sys p) p.branches)) (l.side_arrived sys p s) (record { agrees = point.agrees; tip = h.tip; within = h.within }))

  sided-gives : (crossing : Bounds → Run) (refused arrive : RunState → Run) (told : Told) (p : RunState) (o : Result Landing Cause) → l.side_at sys p ≡ o → InPhase sys n told p → Searches told p crossing → GoesOn sys n refused → Arrives sys n arrive
      → Gives sys n told (l.sided sys crossing refused arrive p o)
  sided-gives crossing refused arrive told p (Err c) e h searches goes arrives = refused_side-gives (l.is_too_small sys p) refused told p c h goes
  sided-gives crossing refused arrive told p (Ok s) e h searches goes arrives =
      accepted_side-gives (differs s.x (l.thresholds_at sys p)) crossing arrive told p s h (record { landing = s; step_is = e; point_is = refl }) searches arrives

  -- ---- a phase

  at_tip-placed : (told : Told) (p : RunState) → InPhase sys n told p → IsPlaced sys n told (l.at_tip sys p)
  at_tip-placed told p h = record { agrees = h.agrees; tip = h.tip; within = h.within }

  phase_by-gives : (arrive attempted side : RunState → Run) (told : Told) (p : RunState) → Gives sys n told (arrive (l.at_tip sys p)) → (l.ends_in_time sys p ≡ true → Gives sys n told (attempted p)) → Gives sys n told (side p)
      → Gives sys n told (l.phase_by (phase_step (l.is_there sys p) (l.ends_in_time sys p)) sys arrive attempted side p)
  phase_by-gives arrive attempted side told p ha ht hs =
      elim (l.is_there sys p) as (λ t. Gives sys n told (l.phase_by (phase_step t (l.ends_in_time sys p)) sys arrive attempted side p)) [
        | true ↦ ha
        | false ↦
            elim (l.ends_in_time sys p) as (λ t. l.ends_in_time sys p ≡ t → Gives sys n told (l.phase_by (phase_step false t) sys arrive attempted side p)) [
              | true ↦ ht
              | false ↦ λ e. hs
            ] refl
      ]

  phase-gives : (cross arrive : ℕ → RunState → Run) → ((m : ℕ) → Arrives sys n (cross m)) → ((m : ℕ) → Arrives sys n (arrive m)) → (m : ℕ) → GoesOn sys n (phase sys cross arrive m)
  unfolding phase
  phase-gives cross arrive crosses arrives zero told p h =
      phase_by-gives (arrive zero) l.too_many_tries l.too_many_tries told p (arrives zero told (l.at_tip sys p) (at_tip-placed told p h)) (λ e. tt) tt
  phase-gives cross arrive crosses arrives (suc m) told p h =
      phase_by-gives (arrive (suc m))
      (λ q. l.tried sys (locate sys cross m q) (phase sys cross arrive m) q (l.attempt_at sys q))
      (λ q. l.sided sys (locate sys cross m q) (phase sys cross arrive m) (arrive m) q (l.side_at sys q)) told p
      (arrives (suc m) told (l.at_tip sys p) (at_tip-placed told p h))
      (λ e. tried-gives (locate sys cross m p) (phase sys cross arrive m) told p (l.attempt_at sys p) h (tried_at p) (at_most (end_of p.tip) (l.until sys p) e)
      (λ b between. locate-gives cross crosses m told p b h between) (phase-gives cross arrive crosses arrives m))
      (sided-gives (locate sys cross m p) (phase sys cross arrive m) (arrive m) told p (l.side_at sys p) refl h
      (λ b between. locate-gives cross crosses m told p b h between) (phase-gives cross arrive crosses arrives m) (arrives m))

  -- ---- a place

  not_standing : (next : Option ℕ) (t stop : ℕ) → l.stands next t ≡ false → t ≤ stop → t ≤ l.until_of next stop
  not_standing None t stop e low = low
  not_standing (Some m) t stop e low = let later : t < m = past m t e in omega arith
    where
      past : (a b : ℕ) → nat_le a b ≡ false → b < a
      past a b e = grind (arith, leb_tells)

  until-within : (next : Option ℕ) (stop : ℕ) → l.until_of next stop ≤ stop
  until-within None stop = omega arith
  until-within (Some m) stop = omega arith

  or_first : (x y : Bool) → (x || y) ≡ false → x ≡ false
  or_first true y e = cc
  or_first false y e = refl

  or_second : (x y : Bool) → (x || y) ≡ false → y ≡ false
  or_second true y e = cc
  or_second false y e = e

  is_so : (x : Bool) → not x ≡ false → x ≡ true
  is_so true e = refl
  is_so false e = cc

  place-in : (told : Told) (p : RunState) → IsPlaced sys n told p → l.begins_delta sys p ≡ false → InPhase sys n told p
  place-in told p h none =
      let due : l.is_due sys p ≡ false = or_first (l.is_due sys p) (not p.timed) none in
      let before : p.time ≤ l.until sys p = not_standing (sys.next_time p.digital) p.time sys.options.stop (or_first (l.stands (sys.next_time p.digital) p.time) (l.needs_solution sys p) due) h.within in
      let tip = h.tip in
      record {
        agrees = h.agrees;
        timed_is = is_so p.timed (or_second (l.is_due sys p) (not p.timed) none);
        before = before;
        tip = omega arith;
        within = until-within (sys.next_time p.digital) sys.options.stop;
      }

  at_time-gives : (cycle : ℕ → RunState → Run) → ((m : ℕ) → Arrives sys n (cycle m)) → (m : ℕ) → Arrives sys n (l.at_time sys cycle m)
  at_time-gives cycle arrives m told p placed =
      elim (l.stands (sys.next_time p.digital) p.time) as (λ t. Gives sys n told (l.at_time_by t (cycle m) p)) [
        | true ↦ arrives m told p placed
        | false ↦ tt
      ]

  next_delta-gives : (many : Bool) (begin : RunState → Run) → Arrives sys n begin → Arrives sys n (l.next_delta_by many begin)
  next_delta-gives true begin arrives told p placed = tt
  next_delta-gives false begin arrives told p placed = arrives told (l.deeper p) (record { agrees = placed.agrees; tip = placed.tip; within = placed.within })

  from_place_by-gives : (delta onward : RunState → Run) (told : Told) (p : RunState) → Gives sys n told (delta p) → (l.begins_delta sys p ≡ false → Gives sys n told (onward p))
      → Gives sys n told (l.from_place_by (following (l.begins_delta sys p) (p.time == sys.options.stop)) delta onward p)
  from_place_by-gives delta onward told p hd hf =
      elim (l.begins_delta sys p) as (λ t. l.begins_delta sys p ≡ t → Gives sys n told (l.from_place_by (following t (p.time == sys.options.stop)) delta onward p)) [
        | true ↦ λ e. hd
        | false ↦ λ none.
            elim (p.time == sys.options.stop) as (λ t. Gives sys n told (l.from_place_by (following false t) delta onward p)) [
              | true ↦ tt
              | false ↦ hf none
            ]
      ] refl

  from_place-gives : (begin : ℕ → Bool → RunState → Run) → ((m : ℕ) (b : Bool) → Arrives sys n (begin m b)) → (m : ℕ) → Arrives sys n (l.from_place sys begin m)
  from_place-gives begin arrives m told p placed =
      let cycle : ℕ → RunState → Run = λ k q. begin k false q in
      from_place_by-gives (l.next_delta sys begin m (not (l.is_due sys p))) (l.phase_from sys cycle m) told p
      (next_delta-gives (nat_le sys.deltas p.delta) (begin m (not (l.is_due sys p))) (arrives m (not (l.is_due sys p))) told p placed)
      (λ none. phase-gives cycle (l.at_time sys cycle) (λ k. arrives k false) (at_time-gives cycle (λ k. arrives k false)) m told p (place-in told p placed none))

  -- ---- cycles and solutions

  tip-within : (b : Bool) (p : RunState) (x : List ℤ) → p.tip.t ≤ p.time → (cond b (l.new_tip sys p.time x) p.tip).t ≤ p.time
  tip-within true p x h = omega arith
  tip-within false p x h = h

  cycled_run-gives : (rest : RunState → Run) → Arrives sys n rest → (to_time : Bool) (told : Told) (p : RunState) (ran : Ran) → (l.cycle_at sys to_time p).ran ≡ ran → IsPlaced sys n told p → Gives sys n told (l.cycled_run sys rest to_time p ran)
  cycled_run-gives rest arrives to_time told p (rans.Done broke) e placed =
      let comes = speaks.cycled told p.digital p.time p.delta p.point to_time broke placed.agrees.tells e in (
        speaks.cycles told p.digital p.time p.delta p.point to_time placed.agrees.tells,
        arrives (told_over told (l.cycle_at sys to_time p).events) (l.cycled sys to_time p broke)
            (record {
              agrees = record {
                tells = comes.tells;
                timed_is = comes.timed_is ∙ ap (λ b. b || to_time) placed.agrees.timed_is;
                branches_are = comes.branches ∙ placed.agrees.branches_are;
              };
              tip = tip-within (l.renews sys to_time p broke) p p.point placed.tip;
              within = placed.within;
            }),
      )
  cycled_run-gives rest arrives to_time told p (rans.Refused refusal) e placed =
      (speaks.cycles told p.digital p.time p.delta p.point to_time placed.agrees.tells, tt)

  solution-chosen : (timed : Bool) (p : RunState) (x : List ℤ) → l.solution_by timed sys p ≡ Ok x → IsChosen sys (frame_at sys p) p.time (l.solution_kind timed) p.point
  solution-chosen false p x e = speaks.quiet (frame_at sys p) p.time p.gathered p.point x e
  solution-chosen true p x e = speaks.timed (frame_at sys p) p.time (sys.breaks p.digital) p.point x e

  settled-point : (told : Told) (p : RunState) (x : List ℤ) → Agrees sys n told p.digital p.timed p.branches → l.solution sys p ≡ Ok x
      → Point (IsSettled sys n p) sys n told p.digital p.timed (l.solution_branches sys p) (l.point_events p.time p.delta x (l.solution_branches sys p) p.branches)
  settled-point told p x a e =
      let c : IsChosen sys (frame_at sys p) p.time (l.solution_kind p.timed) p.point = solution-chosen p.timed p x e in
      let are : l.solution_branches sys p ≡ c.branches = chosen_branches sys (frame_at sys p) p.time (l.solution_kind p.timed) p.point p.branches c in
      let count : length (l.solution_branches sys p) ≡ sys.choices = ap (λ (bs : List ℕ). length bs) are ∙ c.count in
      record {
        holds = point_holds (IsSettled sys n p) told p.time p.delta x (l.solution_branches sys p) p.branches (a.branches_are ∙ ap (λ m. named m p.branches) (sym count))
            (record {
              tells = record { signals = a.tells.signals; thresholds_are = a.tells.thresholds_are; count = a.tells.count; domain = a.tells.domain };
              timed_is = a.tells.domain ∙ a.timed_is;
              branches = l.solution_branches sys p;
              named_are = refl;
              chosen = c.chosen ∙ ap (λ (bs : List ℕ). Ok bs) (sym are);
              solution = record { time_is = refl; solution_is = e };
            });
        agrees = agrees_behind sys n told p.digital p.timed p.time p.delta x (l.solution_branches sys p) p.branches a count;
      }

  solved_run-gives : (cycle : RunState → Run) → Arrives sys n cycle → (told : Told) (p : RunState) (o : Result (List ℤ) Cause) → l.solution sys p ≡ o → IsPlaced sys n told p → Gives sys n told (l.solved_run sys cycle p o)
  solved_run-gives cycle arrives told p (Ok x) e placed =
      let point = settled-point told p x placed.agrees e in (
        point.holds,
        arrives (told_over told (l.point_events p.time p.delta x (l.solution_branches sys p) p.branches)) (l.solved_at sys p x)
            (record { agrees = point.agrees; tip = tip-within p.timed p x placed.tip; within = placed.within }),
      )
  solved_run-gives cycle arrives told p (Err c) e placed = (tt, tt)

  delta_by-gives : (needs : Bool) (cycle : RunState → Run) → Arrives sys n cycle → Arrives sys n (l.delta_by needs sys cycle)
  delta_by-gives true cycle arrives told p placed = solved_run-gives cycle arrives told p (l.solution sys p) refl placed
  delta_by-gives false cycle arrives told p placed = arrives told p placed

  delta_run-gives : (rest : RunState → Run) → Arrives sys n rest → (to_time : Bool) → Arrives sys n (l.delta_run sys rest to_time)
  delta_run-gives rest arrives to_time told p placed =
      delta_by-gives (l.needs_solution sys p) (l.cycle_run sys rest to_time)
      (λ u q at. cycled_run-gives rest arrives to_time u q (l.cycle_at sys to_time q).ran refl at) told p placed

  goes_on-gives : (c m : ℕ) → Arrives sys n (goes_on sys c m)
  unfolding goes_on
  goes_on-gives zero m told p placed = from_place-gives (λ k b q. l.too_many_cycles q) (λ k b u q at. tt) m told p placed
  goes_on-gives (suc c) m told p placed =
      from_place-gives (λ k b q. l.delta_run sys (goes_on sys c k) b q) (λ k b. delta_run-gives (goes_on sys c k) (goes_on-gives c k) b) m told p placed

  -- ---- the run

  started_run-gives : (told : Told) (ran : Ran) → (l.first_cycle sys).ran ≡ ran → Tells n told sys.unstarted → told.branches ≡ named sys.choices [] → Gives sys n told (l.started_run sys ran)
  started_run-gives told (rans.Done broke) e tells none =
      let comes = speaks.started told broke tells e in (
        speaks.starts told tells,
        goes_on-gives sys.cycles sys.tries (told_over told (l.first_cycle sys).events) (l.first_place sys broke)
            (record {
              agrees = record { tells = comes.tells; timed_is = comes.timed_is; branches_are = comes.branches ∙ none };
              tip = omega arith;
              within = omega arith;
            }),
      )
  started_run-gives told (rans.Refused refusal) e tells none = (speaks.starts told tells, tt)

  -- each point of a run is given as `IsGiven` says
  pub lockstep_gives : (told : Told) → Tells n told sys.unstarted → told.branches ≡ named sys.choices [] → AreGiven sys n told (lockstep sys).works (lockstep sys).states
  lockstep_gives told tells none = started_run-gives told (l.first_cycle sys).ran refl tells none
