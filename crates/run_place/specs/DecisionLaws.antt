-- A decision at a place is the decision of the machine that it stands for.
use Rattle.std.specs.Prelude.{◌≡◌, ℕ, zero, suc, ◌+◌, ◌-◌, ◌==◌, Bool, true, false, not, cond, nat_le, ℤ, List, Result, Ok, Err, refl}
use Rattle.std.proofs.Common.{ap, sym, ◌∙◌, arith}
use Rattle.std.proofs.lemmas.Bool.Decides.{nat_tests}
use Rattle.step_data.specs.declared.outcome.Cause.{Cause}
use Rattle.step_data.specs.declared.outcome.End.{End}
use Rattle.step_data.specs.declared.outcome.Ran.{Ran}
use Rattle.step_data.specs.declared.outcome.Ran.TheVariants as rans
use Rattle.step_model.specs.System.{System, Digital, Landing}
use Rattle.lockstep_model.specs.Crossing.{differs, is_near}
use Rattle.lockstep_model.specs.Lockstep as l
use Rattle.lockstep_model.specs.RunStates.{RunState}
use Rattle.above_events.specs.Locating.{with_point}
use Rattle.cycle_machine.specs.Held as h
use Rattle.cycle_machine.specs.Held.{Held, Step, next_by}
use Rattle.cycle_machine.specs.Ready.{after, decided}
use Rattle.run_place.specs.declared.place.RunPlace.{RunPlace}
use Rattle.run_place.specs.declared.place.Stage.{Stage}
use Rattle.run_place.specs.declared.place.Stage.TheVariants as stages
use Rattle.run_place.specs.Places.{stage_of, state_of, held_of}
use Rattle.run_place.specs.Giving.{chosen_of, olds_of}
use Rattle.run_place.specs.Decisions as c
use Rattle.run_place.specs.Budgets.{delta_budget}
use Rattle.message_codes.specs.Codes as codes

less_one : (n : ℕ) → suc n - 1 ≡ n
less_one n = omega arith

some-left : (n : ℕ) → (suc n == 0) ≡ false
some-left n = grind (arith, nat_tests)

began-c : (n : ℕ) (to_time : Bool) (d : Digital) (p : RunPlace) → held_of d (c.began to_time (record p { cycles_left = n })) ≡ h.begin n p.tries_left to_time (state_of d p)
began-c zero to_time d p = refl
began-c (suc n) to_time d p =
    ap (λ b. held_of d (cond b (c.end_with codes.cycle_limit (record p { cycles_left = suc n })) (record p { stage = stages.InDelta to_time; cycles_left = suc n - 1 }))) (some-left n)
    ∙ ap (λ k. h.at (h.InDelta to_time) k p.tries_left (state_of d p)) (less_one n)

pub began_is : (to_time : Bool) (d : Digital) (p : RunPlace) → held_of d (c.began to_time p) ≡ h.begin p.cycles_left p.tries_left to_time (state_of d p)
began_is to_time d p = began-c p.cycles_left to_time d p

pub arrived_is : (sys : System) (d : Digital) (p : RunPlace) → held_of d (c.arrived_at (sys.next_time d) p) ≡ h.arrived sys p.cycles_left p.tries_left (state_of d p)
arrived_is sys d p =
    elim (l.stands (sys.next_time d) p.time) as
    (λ b. held_of d (cond b (c.began false p) (c.reached p)) ≡ h.arrived_by b p.cycles_left p.tries_left (state_of d p)) [
      | true ↦ began_is false d p
      | false ↦ refl
    ]

deeper-is : (sys : System) (to_time : Bool) (d : Digital) (p : RunPlace) → sys.deltas ≡ delta_budget → held_of d (c.deeper_at to_time p) ≡ h.deeper_by (nat_le sys.deltas p.delta) p.cycles_left p.tries_left to_time (state_of d p)
deeper-is sys to_time d p budget =
    elim (nat_le delta_budget p.delta) as
    (λ b. held_of d (cond b (c.end_with codes.delta_limit p) (c.began to_time (record p { delta = p.delta + 1 }))) ≡ h.deeper_by b p.cycles_left p.tries_left to_time (state_of d p)) [
      | true ↦ refl
      | false ↦ began_is to_time d (record p { delta = p.delta + 1 })
    ]
    ∙ ap (λ m. h.deeper_by (nat_le m p.delta) p.cycles_left p.tries_left to_time (state_of d p)) (sym budget)

placed-is : (sys : System) (d : Digital) (p : RunPlace) → sys.deltas ≡ delta_budget → held_of d (c.placed_at (sys.next_time d) (sys.frame d) sys.options.stop p) ≡ h.placed sys p.cycles_left p.tries_left (state_of d p)
placed-is sys d p budget =
    let q = state_of d p in
    elim (l.begins_delta sys q) as
    (λ b. held_of d (cond b (c.deeper_at (not (l.is_due sys q)) p) (cond (p.time == sys.options.stop) (c.reached p) (record p { stage = stages.InPhase })))
    ≡ h.placed_by (l.following b (p.time == sys.options.stop)) sys p.cycles_left p.tries_left q) [
      | true ↦ deeper-is sys (not (l.is_due sys q)) d p budget
      | false ↦
          elim (p.time == sys.options.stop) as
          (λ b. held_of d (cond b (c.reached p) (record p { stage = stages.InPhase })) ≡ h.placed_by (l.following false b) sys p.cycles_left p.tries_left q) [
            | true ↦ refl
            | false ↦ refl
          ]
    ]

-- by the stage of the place
by-stage : (sys : System) (d : Digital) (p : RunPlace) (s : Stage) → p.stage ≡ s → decided sys (held_of d p) ≡ after (next_by (stage_of s p.search p.at_hi) sys p.cycles_left p.tries_left (state_of d p)) (held_of d p)
by-stage sys d p s e =
    ap (λ (x : Stage). after (next_by (stage_of x p.search p.at_hi) sys p.cycles_left p.tries_left (state_of d p)) (held_of d p)) e

pub placed_decides : (sys : System) (d : Digital) (p : RunPlace) → sys.deltas ≡ delta_budget → p.stage ≡ stages.Placed → held_of d (c.placed_at (sys.next_time d) (sys.frame d) sys.options.stop p) ≡ decided sys (held_of d p)
placed_decides sys d p budget e = placed-is sys d p budget ∙ sym (by-stage sys d p stages.Placed e)

solved-stays : (o : Result (List ℤ) Cause) (sys : System) (to_time : Bool) (n m : ℕ) (q : RunState) (held : Held) → after (h.solved_by o sys to_time n m q) held ≡ held
solved-stays (Ok x) sys to_time n m q held = refl
solved-stays (Err e) sys to_time n m q held = refl

pub delta_decides : (sys : System) (to_time : Bool) (d : Digital) (p : RunPlace) → p.stage ≡ stages.InDelta to_time → held_of d (c.delta_at to_time (sys.frame d) p) ≡ decided sys (held_of d p)
delta_decides sys to_time d p e =
    let q = state_of d p in
    elim (l.needs_solution sys q) as
    (λ b. held_of d (cond b p (record p { stage = stages.InCycle to_time })) ≡ after (h.delta_by b sys to_time p.cycles_left p.tries_left q) (held_of d p)) [
      | true ↦ sym (solved-stays (l.solution sys q) sys to_time p.cycles_left p.tries_left q (held_of d p))
      | false ↦ refl
    ]
    ∙ sym (by-stage sys d p (stages.InDelta to_time) e)

refused-stays : (small : Bool) (sys : System) (n m : ℕ) (q : RunState) (e : Cause) (held : Held) → after (h.refused_by small sys n m q e) held ≡ held
refused-stays true sys n m q e held = refl
refused-stays false sys n m q e held = refl

accepted-stays : (crosses : Bool) (sys : System) (n m : ℕ) (q : RunState) (s : Landing) (held : Held) → after (h.accepted_by crosses sys n m q s) held ≡ held
accepted-stays true sys n m q s held = refl
accepted-stays false sys n m q s held = refl

sided-stays : (o : Result Landing Cause) (sys : System) (n m : ℕ) (q : RunState) (held : Held) → after (h.sided o sys n m q) held ≡ held
sided-stays (Err e) sys n m q held = refused-stays (l.is_too_small sys q) sys n m q e held
sided-stays (Ok s) sys n m q held = accepted-stays (differs s.x (l.thresholds_at sys q)) sys n m q s held

tries-left : (n : ℕ) (d : Digital) (p : RunPlace) → held_of d (c.tried_at (record p { tries_left = suc n })) ≡ held_of d (record p { tries_left = suc n })
tries-left n d p =
    ap (λ b. held_of d (cond b (c.end_with codes.attempt_limit (record p { tries_left = suc n })) (record p { tries_left = suc n }))) (some-left n)

tried-c : (fits : Bool) (n : ℕ) (sys : System) (d : Digital) (p : RunPlace) →
    held_of d (c.tried_at (record p { tries_left = n })) ≡ after (h.phase_by (l.phase_step false fits) sys p.cycles_left n (state_of d p)) (held_of d (record p { tries_left = n }))
tried-c true zero sys d p = refl
tried-c false zero sys d p = refl
tried-c true (suc n) sys d p = tries-left n d p
tried-c false (suc n) sys d p =
    tries-left n d p
    ∙ sym (sided-stays (l.side_at sys (state_of d p)) sys p.cycles_left n (state_of d p) (held_of d (record p { tries_left = suc n })))

pub phase_decides : (sys : System) (d : Digital) (p : RunPlace) → p.stage ≡ stages.InPhase → held_of d (c.phase_at (sys.next_time d) sys.options.stop p) ≡ decided sys (held_of d p)
phase_decides sys d p e =
    let q = state_of d p in
    let u = l.until sys q in
    elim (l.is_there sys q) as
    (λ b. held_of d (cond b (c.arrived_at (sys.next_time d) (c.at_tip_at u p)) (c.tried_at p)) ≡ after (h.phase_by (l.phase_step b (l.ends_in_time sys q)) sys p.cycles_left p.tries_left q) (held_of d p)) [
      | true ↦ arrived_is sys d (c.at_tip_at u p)
      | false ↦ tried-c (l.ends_in_time sys q) p.tries_left sys d p
    ]
    ∙ sym (by-stage sys d p stages.InPhase e)

-- the branches of a step, where they were chosen, and else those before
chosen-is : (is_chosen : Bool) (branches : List ℕ) (d : Digital) (p : RunPlace) → state_of d (c.chosen_at is_chosen branches p) ≡ record (state_of d p) { branches = chosen_of is_chosen branches (olds_of p) }
chosen-is true branches d p = refl
chosen-is false branches d p = refl

pub stepped_is : (sys : System) (d : Digital) (t : ℕ) (is_chosen : Bool) (branches : List ℕ) (p : RunPlace) → chosen_of is_chosen branches (olds_of p) ≡ l.step_branches sys (state_of d p) → state_of d (c.stepped_at t is_chosen branches p) ≡ l.stepped_to sys (state_of d p) t p.at_hi
stepped_is sys d t is_chosen branches p e =
    chosen-is is_chosen branches d (record p { time = t; delta = 0; point = p.at_hi; at_hi = p.point })
    ∙ ap (λ bs. record (state_of d (record p { time = t; delta = 0; point = p.at_hi; at_hi = p.point })) { branches = bs }) e

probe-stays : (n : ℕ) (sys : System) (d : Digital) (p : RunPlace) →
    held_of d (c.tried_at (record p { tries_left = n })) ≡ after (h.search_by false sys p.cycles_left n (state_of d p) (with_point p.search p.at_hi)) (held_of d (record p { tries_left = n }))
probe-stays zero sys d p = refl
probe-stays (suc n) sys d p = tries-left n d p

chosen-counts : (is_chosen : Bool) (branches : List ℕ) (p : RunPlace) → ((c.chosen_at is_chosen branches p).cycles_left ≡ p.cycles_left) × ((c.chosen_at is_chosen branches p).tries_left ≡ p.tries_left)
chosen-counts true branches p = (refl, refl)
chosen-counts false branches p = (refl, refl)

crossed-is : (sys : System) (d : Digital) (is_chosen : Bool) (branches : List ℕ) (p : RunPlace) → chosen_of is_chosen branches (olds_of p) ≡ l.step_branches sys (state_of d p) →
    held_of d (c.began false (c.stepped_at p.search.hi is_chosen branches p)) ≡ h.begin p.cycles_left p.tries_left false (l.stepped_to sys (state_of d p) p.search.hi p.at_hi)
crossed-is sys d is_chosen branches p e =
    let counts = chosen-counts is_chosen branches (record p { time = p.search.hi; delta = 0; point = p.at_hi; at_hi = p.point }) in
    began_is false d (c.stepped_at p.search.hi is_chosen branches p)
    ∙ ap (λ n. h.begin n (c.stepped_at p.search.hi is_chosen branches p).tries_left false (state_of d (c.stepped_at p.search.hi is_chosen branches p))) counts.0
    ∙ ap (λ n. h.begin p.cycles_left n false (state_of d (c.stepped_at p.search.hi is_chosen branches p))) counts.1
    ∙ ap (λ q. h.begin p.cycles_left p.tries_left false q) (stepped_is sys d p.search.hi is_chosen branches p e)

pub search_decides : (sys : System) (d : Digital) (is_chosen : Bool) (branches : List ℕ) (p : RunPlace) → p.search.xres ≡ sys.options.xres → p.stage ≡ stages.InSearch → chosen_of is_chosen branches (olds_of p) ≡ l.step_branches sys (state_of d p) →
    held_of d (c.search_at is_chosen branches p) ≡ decided sys (held_of d p)
search_decides sys d is_chosen branches p fine e chosen =
    let b = with_point p.search p.at_hi in
    ap (λ x. held_of d (cond (is_near x b) (c.began false (c.stepped_at p.search.hi is_chosen branches p)) (c.tried_at p))) fine
    ∙ elim (is_near sys.options.xres b) as
    (λ t. held_of d (cond t (c.began false (c.stepped_at p.search.hi is_chosen branches p)) (c.tried_at p)) ≡ after (h.search_by t sys p.cycles_left p.tries_left (state_of d p) b) (held_of d p)) [
      | true ↦ crossed-is sys d is_chosen branches p chosen
      | false ↦ probe-stays p.tries_left sys d p
    ]
    ∙ sym (by-stage sys d p stages.InSearch e)

-- no other stage decides
started-stays : (sys : System) (held : Held) → after (h.started_by (l.first_cycle sys).ran sys) held ≡ held
started-stays sys held = by (l.first_cycle sys).ran
  where
    by : (ran : Ran) → after (h.started_by ran sys) held ≡ held
    by (rans.Done broke) = refl
    by (rans.Refused refusal) = refl

pub start_decides : (sys : System) (d : Digital) (p : RunPlace) → p.stage ≡ stages.Unstarted → held_of d p ≡ decided sys (held_of d p)
start_decides sys d p e = sym (by-stage sys d p stages.Unstarted e ∙ started-stays sys (held_of d p))

cycled-stays : (ran : Ran) (sys : System) (to_time : Bool) (n m : ℕ) (q : RunState) (held : Held) → after (h.cycled_by ran sys to_time n m q) held ≡ held
cycled-stays (rans.Done broke) sys to_time n m q held = refl
cycled-stays (rans.Refused refusal) sys to_time n m q held = refl

pub cycle_decides : (sys : System) (to_time : Bool) (d : Digital) (p : RunPlace) → p.stage ≡ stages.InCycle to_time → held_of d p ≡ decided sys (held_of d p)
cycle_decides sys to_time d p e =
    sym (by-stage sys d p (stages.InCycle to_time) e
    ∙ cycled-stays (l.cycle_at sys to_time (state_of d p)).ran sys to_time p.cycles_left p.tries_left (state_of d p) (held_of d p))

pub end_decides : (sys : System) (d : Digital) (p : RunPlace) (end : End) → p.stage ≡ stages.Finished end → held_of d p ≡ decided sys (held_of d p)
end_decides sys d p end e = sym (by-stage sys d p (stages.Finished end) e)
