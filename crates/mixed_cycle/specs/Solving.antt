-- A solution before a delta.
use Rattle.std.specs.Prelude.{◌≡◌, ℕ, ◌+◌, ◌≤◌, Bool, true, false, cond, ℤ, List, [], ◌++◌, length, IsErr, Some, Result, Ok, Err, refl}
use Rattle.std.proofs.Common.{ap, sym, subst, ◌∙◌, append-nil, arith}
use Rattle.ams_value.specs.declared.val.Val.{Val}
use Rattle.step_data.specs.declared.breaks.Element.{Element}
use Rattle.step_data.specs.declared.outcome.Cause.{Cause}
use Rattle.step_data.specs.declared.outcome.SetKind.TheVariants.{Quiescent, Discontinuity}
use Rattle.step_data.specs.declared.outcome.Settled.TheVariants as settleds
use Rattle.step_data.specs.declared.event.Event.{Event}
use Rattle.step_data.specs.Options.{IsAllowed}
use Rattle.step_model.specs.Answers.{settled_answer, settled_value}
use Rattle.step_data.specs.declared.outcome.Options.{Options}
use Rattle.step_model.specs.declared.kernel_stage.KernelStage.TheVariants.{Going}
use Rattle.step_model.specs.Kernel.{KernelState, AddsFront}
use Rattle.step_model.specs.StepLaws.{HasStep}
use Rattle.lockstep_model.specs.Walk.{ask_of}
use Rattle.lockstep_model.specs.declared.moves.Moved.{Moved}
use Rattle.lockstep_model.specs.declared.moves.Moved.TheVariants as says
use Rattle.lockstep_model.specs.declared.moves.Ask.TheVariants as asks
use Rattle.std.specs.declared.alloc.AllocError.{AllocError}
use Rattle.step_model.specs.System.{System, Digital}
use Rattle.lockstep_model.specs.RunStates.{RunState}
use Rattle.lockstep_model.specs.Lockstep as l
use Rattle.lockstep_model.specs.Works.{Worked}
use Rattle.lockstep_model.specs.Works as kinds
use Rattle.cycle_machine.specs.Held as h
use Rattle.cycle_machine.specs.Held.{Held, Step, Makes, next_of, next_by}
use Rattle.cycle_machine.specs.Ready.{IsReady}
use Rattle.run_place.specs.declared.place.RunPlace.{RunPlace}
use Rattle.run_place.specs.declared.place.Stage.{Stage}
use Rattle.run_place.specs.declared.place.Stage.TheVariants as stages
use Rattle.run_place.specs.Places.{stage_of, state_of, held_of}
use Rattle.run_place.specs.Giving.{chosen_of, olds_of, point_at}
use Rattle.mixed_cycle.specs.declared.machine.Awaited.TheVariants.{Ready}
use Rattle.mixed_cycle.specs.declared.machine.Machine.{Machine}
use Rattle.mixed_cycle.specs.Standing.{PlaceFits, IsDelta, StandsBy, Stands, cycles_ahead, pending, digital_at}
use Rattle.mixed_cycle.specs.Deciding.{digital_going}
use Rattle.mixed_cycle.specs.Machine.{Sound, moment_of}
use Rattle.mixed_cycle.specs.Making.{Performs, worked, work_done, work_lost, still_sound}
use Rattle.run_place.specs.Decisions.{chosen_at}
use Rattle.run_place.specs.Outcomes.{solution_left, unsolvable_left, renewed_at}
use Rattle.run_place.specs.Budgets.{run_budget}

-- a solution is the next thing where a delta is ready
by-solution : (needs : Bool) (sys : System) (to_time : Bool) (c n : ℕ) (q : RunState) → IsReady (h.delta_by needs sys to_time c n q) → h.delta_by needs sys to_time c n q ≡ h.solved_by (l.solution sys q) sys to_time c n q
by-solution true sys to_time c n q r = refl
by-solution false sys to_time c n q r = absurd r

pub solves_next : (sys : System) (d : Digital) (p : RunPlace) (to_time : Bool) (o : Result (List ℤ) Cause) → p.stage ≡ stages.InDelta to_time → IsReady (next_of sys (held_of d p)) → l.solution sys (state_of d p) ≡ o → next_of sys (held_of d p) ≡ h.solved_by o sys to_time p.cycles_left p.tries_left (state_of d p)
solves_next sys d p to_time o e r solves =
    let q = state_of d p in
    let c = p.cycles_left in
    let n = p.tries_left in
    let at : next_of sys (held_of d p) ≡ h.delta_by (l.needs_solution sys q) sys to_time c n q =
    ap (λ (s : Stage). next_by (stage_of s p.search p.at_hi) sys c n q) e in
    at ∙ by-solution (l.needs_solution sys q) sys to_time c n q (subst IsReady at r) ∙ ap (λ (o : Result (List ℤ) Cause). h.solved_by o sys to_time c n q) solves

-- by what the solver answered
pub solved_good : (o : Result (List ℤ) Cause) (old new : List ℤ) → settled_answer o ≡ settleds.Good → new ≡ settled_value old o → o ≡ Ok new
solved_good (Ok x) old new e v = ap (λ (y : List ℤ). Ok y) (sym v)
solved_good (Err c) old new e v = cc

pub solved_refused : (o : Result (List ℤ) Cause) (old new : List ℤ) (c : Cause) → settled_answer o ≡ settleds.Refused c → new ≡ settled_value old o → (o ≡ Err c) × (new ≡ old)
solved_refused (Ok x) old new c e v = cc
solved_refused (Err a) old new c e v = let same : a ≡ c = cc in (ap (λ (b : Cause). Err b) same, v)

-- what a solution leaves
abbrev after_solution : System → Digital → RunPlace → Bool → List ℕ → ℕ → List Val → List ℤ → RunState
after_solution sys d p timed branches h0 frame x =
    record (state_of d p) {
      point = x;
      branches = branches;
      solved = cond timed (state_of d p).solved (Some frame);
      tip = cond timed (record { t = p.time; x = x; h = h0; fresh = true }) p.tip;
    }

left-is : (sys : System) (d : Digital) (p : RunPlace) (to_time is_chosen timed : Bool) (branches : List ℕ) (h0 : ℕ) (frame : List Val) (x : List ℤ) →
    p.timed ≡ timed →
    held_of d (cond timed (renewed_at h0 (record (chosen_at is_chosen branches (record p { point = x })) { stage = stages.InCycle to_time })) (record (chosen_at is_chosen branches (record p { point = x })) { stage = stages.InCycle to_time; solved = frame; is_solved = true }))
    ≡ h.at (h.InCycle to_time) p.cycles_left p.tries_left (after_solution sys d p timed (chosen_of is_chosen branches (olds_of p)) h0 frame x)
left-is sys d p to_time true true branches h0 frame x e = refl
left-is sys d p to_time true false branches h0 frame x e = refl
left-is sys d p to_time false true branches h0 frame x e = refl
left-is sys d p to_time false false branches h0 frame x e = refl

chosen-timed : (is_chosen : Bool) (branches : List ℕ) (p : RunPlace) → (chosen_at is_chosen branches p).timed ≡ p.timed
chosen-timed true branches p = refl
chosen-timed false branches p = refl

pub solution_is : (sys : System) (d : Digital) (p : RunPlace) (to_time is_chosen : Bool) (branches : List ℕ) (h0 : ℕ) (frame : List Val) (x : List ℤ) →
    h0 ≡ sys.options.h0 → frame ≡ sys.frame d → chosen_of is_chosen branches (olds_of p) ≡ l.solution_branches sys (state_of d p) →
    held_of d (solution_left to_time h0 frame is_chosen branches (record p { point = x })) ≡ h.at (h.InCycle to_time) p.cycles_left p.tries_left (l.solved_at sys (state_of d p) x)
solution_is sys d p to_time is_chosen branches h0 frame x first is chosen =
    ap (λ (t : Bool). held_of d (cond t (renewed_at h0 (record (chosen_at is_chosen branches (record p { point = x })) { stage = stages.InCycle to_time })) (record (chosen_at is_chosen branches (record p { point = x })) { stage = stages.InCycle to_time; solved = frame; is_solved = true }))) (chosen-timed is_chosen branches (record p { point = x }))
    ∙ left-is sys d p to_time is_chosen p.timed branches h0 frame x refl
    ∙ ap (λ (bs : List ℕ). h.at (h.InCycle to_time) p.cycles_left p.tries_left (after_solution sys d p p.timed bs h0 frame x)) chosen
    ∙ ap (λ (s : ℕ). h.at (h.InCycle to_time) p.cycles_left p.tries_left (after_solution sys d p p.timed (l.solution_branches sys (state_of d p)) s frame x)) first
    ∙ ap (λ (f : List Val). h.at (h.InCycle to_time) p.cycles_left p.tries_left (after_solution sys d p p.timed (l.solution_branches sys (state_of d p)) sys.options.h0 f x)) is

-- the solution from the values at a time, by the set of DOMAIN
abbrev pub solution_from : Bool → System → Digital → List Val → ℕ → List Element → List ℤ → Result (List ℤ) Cause
solution_from false sys d frame t gathered x = sys.settle frame t Quiescent gathered x
solution_from true sys d frame t gathered x = sys.settle frame t Discontinuity (sys.breaks d) x

solution-from : (timed : Bool) (sys : System) (q : RunState) → l.solution_by timed sys q ≡ solution_from timed sys q.digital (l.frame_at sys q) q.time q.gathered q.point
solution-from false sys q = refl
solution-from true sys q = refl

left-fits : (sys : System) (p : RunPlace) (to_time is_chosen timed : Bool) (branches : List ℕ) (h0 : ℕ) (frame : List Val) (x : List ℤ) → PlaceFits sys p → length x ≡ sys.unknowns → length branches ≡ sys.choices → length frame ≡ sys.frame_len → HasStep sys.options h0 →
    PlaceFits sys (cond timed (renewed_at h0 (record (chosen_at is_chosen branches (record p { point = x })) { stage = stages.InCycle to_time })) (record (chosen_at is_chosen branches (record p { point = x })) { stage = stages.InCycle to_time; solved = frame; is_solved = true }))
left-fits sys p to_time true true branches h0 frame x f px pb pf st =
    record { time_most = f.time_most; point_fits = px; tip_fits = px; tip_most = f.time_most; step = st; at_hi_fits = f.at_hi_fits; solved_fits = f.solved_fits; elements = f.elements; branches_fit = pb }
left-fits sys p to_time false true branches h0 frame x f px pb pf st =
    record { time_most = f.time_most; point_fits = px; tip_fits = px; tip_most = f.time_most; step = st; at_hi_fits = f.at_hi_fits; solved_fits = f.solved_fits; elements = f.elements; branches_fit = f.branches_fit }
left-fits sys p to_time true false branches h0 frame x f px pb pf st =
    record { time_most = f.time_most; point_fits = px; tip_fits = f.tip_fits; tip_most = f.tip_most; step = f.step; at_hi_fits = f.at_hi_fits; solved_fits = pf; elements = f.elements; branches_fit = pb }
left-fits sys p to_time false false branches h0 frame x f px pb pf st =
    record { time_most = f.time_most; point_fits = px; tip_fits = f.tip_fits; tip_most = f.tip_most; step = f.step; at_hi_fits = f.at_hi_fits; solved_fits = pf; elements = f.elements; branches_fit = f.branches_fit }

left-delta : (sys : System) (k : KernelState) (p : RunPlace) (to_time is_chosen timed : Bool) (branches : List ℕ) (h0 : ℕ) (frame old : List Val) (x : List ℤ) (cycles : ℕ) → IsDelta sys k frame p.time p.timed p.tip to_time → cycles + (p.cycles_left + 1) ≤ run_budget →
    StandsBy (stages.InCycle to_time) sys k frame (cond timed (renewed_at h0 (record (chosen_at is_chosen branches (record p { point = x })) { stage = stages.InCycle to_time })) (record (chosen_at is_chosen branches (record p { point = x })) { stage = stages.InCycle to_time; solved = old; is_solved = true }))
    × (cycles + cycles_ahead (cond timed (renewed_at h0 (record (chosen_at is_chosen branches (record p { point = x })) { stage = stages.InCycle to_time })) (record (chosen_at is_chosen branches (record p { point = x })) { stage = stages.InCycle to_time; solved = old; is_solved = true })) ≤ run_budget)
left-delta sys k p to_time true true branches h0 frame old x cycles d few = (record { goes = d.goes; next = d.next; domain = d.domain; tip_before = omega arith }, few)
left-delta sys k p to_time false true branches h0 frame old x cycles d few = (record { goes = d.goes; next = d.next; domain = d.domain; tip_before = omega arith }, few)
left-delta sys k p to_time true false branches h0 frame old x cycles d few = (d, few)
left-delta sys k p to_time false false branches h0 frame old x cycles d few = (d, few)

left-stage : (p : RunPlace) (to_time is_chosen timed : Bool) (branches : List ℕ) (h0 : ℕ) (frame : List Val) (x : List ℤ) →
    (cond timed (renewed_at h0 (record (chosen_at is_chosen branches (record p { point = x })) { stage = stages.InCycle to_time })) (record (chosen_at is_chosen branches (record p { point = x })) { stage = stages.InCycle to_time; solved = frame; is_solved = true })).stage ≡ stages.InCycle to_time
left-stage p to_time is_chosen true branches h0 frame x = refl
left-stage p to_time is_chosen false branches h0 frame x = refl

solution-stands : (sys : System) (k : KernelState) (p : RunPlace) (to_time is_chosen : Bool) (branches : List ℕ) (h0 : ℕ) (frame : List Val) (x : List ℤ) (cycles : ℕ) → IsDelta sys k frame p.time p.timed p.tip to_time → cycles + (p.cycles_left + 1) ≤ run_budget → PlaceFits sys p → length x ≡ sys.unknowns → length branches ≡ sys.choices → length frame ≡ sys.frame_len → HasStep sys.options h0 →
    Stands sys k frame cycles (solution_left to_time h0 frame is_chosen branches (record p { point = x }))
solution-stands sys k p to_time is_chosen branches h0 frame x cycles delta few f px pb pf st =
    let timed = (chosen_at is_chosen branches (record p { point = x })).timed in
    let left : RunPlace = solution_left to_time h0 frame is_chosen branches (record p { point = x }) in
    let ds = left-delta sys k p to_time is_chosen timed branches h0 frame frame x cycles delta few in
    record {
      fits = left-fits sys p to_time is_chosen timed branches h0 frame x f px pb pf st;
      stands = subst (λ (s : Stage). StandsBy s sys k frame left) (sym (left-stage p to_time is_chosen timed branches h0 frame x)) ds.0;
      few = ds.1;
    }

pub first_step : (o : Options) → IsAllowed o → HasStep o o.h0
first_step o a = record { least = a.h0_least; most = a.h0_most }

left-tip : (sys : System) (p : RunPlace) (to_time is_chosen timed : Bool) (branches : List ℕ) (h0 : ℕ) (frame : List Val) (x : List ℤ) →
    (cond timed (renewed_at h0 (record (chosen_at is_chosen branches (record p { point = x })) { stage = stages.InCycle to_time })) (record (chosen_at is_chosen branches (record p { point = x })) { stage = stages.InCycle to_time; solved = frame; is_solved = true })).tip
    ≡ cond timed (record { t = p.time; x = x; h = h0; fresh = true }) p.tip
left-tip sys p to_time true true branches h0 frame x = refl
left-tip sys p to_time false true branches h0 frame x = refl
left-tip sys p to_time true false branches h0 frame x = refl
left-tip sys p to_time false false branches h0 frame x = refl

-- a solution was made
pub solve_done : {D S K : Type 0} (sys : System) (part count : S → ℕ) (state : K → KernelState) (m : Machine D S K) (s' : S) (bs : List ℕ) (x : List ℤ) (is_chosen to_time : Bool) (P : RunPlace) (out out' : List Event) (said : Moved)
    → Sound sys part state m → m.awaited ≡ Ready → m.place.stage ≡ stages.InDelta to_time
    → IsReady (next_of sys (held_of (digital_at sys (state m.kernel)) m.place))
    → part s' ≡ 0 → count s' ≡ count m.stepper → length bs ≡ sys.choices → length x ≡ sys.unknowns
    → ((state m.kernel).stage ≡ Going → settleds.Good ≡ settled_answer (solution_from m.place.timed sys (state m.kernel).digital m.frame m.place.time m.place.gathered m.place.point))
    → ((state m.kernel).stage ≡ Going → x ≡ settled_value m.place.point (solution_from m.place.timed sys (state m.kernel).digital m.frame m.place.time m.place.gathered m.place.point))
    → chosen_of is_chosen bs (olds_of m.place) ≡ l.branches_or (olds_of m.place) (sys.choose m.frame m.place.time (l.solution_kind m.place.timed) m.place.point)
    → P ≡ solution_left to_time m.options.h0 m.frame is_chosen bs (record m.place { point = x })
    → out' ≡ out ++ point_at (record m.place { point = x }) m.place.time m.place.delta x is_chosen bs
    → said ≡ says.Ask (ask_of m.place.timed)
    → Performs sys part count state (count m.stepper) (record m { stepper = s'; branches = bs; place = P }) out out' (Ok said) (worked sys (moment_of sys state m))
solve_done {D = D} {S = S} {K = K} sys part count state m s' bs x is_chosen to_time P out out' said s awaits e r part_is made pb px answer value chosen left gave saying =
    let k = state m.kernel in
    let p = m.place in
    let d = k.digital in
    let delta : IsDelta sys k m.frame p.time p.timed p.tip to_time = subst (λ (x : Stage). StandsBy x sys k m.frame p) e s.stands.stands in
    let few : m.cycles + (p.cycles_left + 1) ≤ run_budget = subst (λ (x : Stage). m.cycles + (p.cycles_left + pending x) ≤ run_budget) e s.stands.few in
    let going : digital_at sys k ≡ d = digital_going sys k delta.goes.stage in
    let is : m.frame ≡ sys.frame d = delta.goes.frame_is in
    let o : Result (List ℤ) Cause = solution_from p.timed sys d m.frame p.time p.gathered p.point in
    let good : o ≡ Ok x = solved_good o p.point x (sym (answer delta.goes.stage)) (value delta.goes.stage) in
    let first : m.options.h0 ≡ sys.options.h0 = ap (λ (o : Options). o.h0) s.options_are in
    let solution : l.solution sys (state_of d p) ≡ Ok x =
    solution-from p.timed sys (state_of d p) ∙ ap (λ (f : List Val). solution_from p.timed sys d f p.time p.gathered p.point) (sym is) ∙ good in
    let branches : chosen_of is_chosen bs (olds_of p) ≡ l.solution_branches sys (state_of d p) =
    chosen ∙ ap (λ (f : List Val). l.branches_or (olds_of p) (sys.choose f p.time (l.solution_kind p.timed) p.point)) is in
    let q = state_of d p in
    let next : next_of sys (held_of (digital_at sys k) p) ≡ h.solved_by (Ok x) sys to_time p.cycles_left p.tries_left q =
    subst (λ (y : Digital). next_of sys (held_of y p) ≡ h.solved_by (Ok x) sys to_time p.cycles_left p.tries_left q) (sym going)
    (solves_next sys d p to_time (Ok x) e (subst (λ (y : Digital). IsReady (next_of sys (held_of y p))) going r) solution) in
    let held : held_of (digital_at sys k) P ≡ h.at (h.InCycle to_time) p.cycles_left p.tries_left (l.solved_at sys q x) =
    ap (λ (y : Digital). held_of y P) going ∙ ap (λ (y : RunPlace). held_of d y) left ∙ solution_is sys d p to_time is_chosen bs m.options.h0 m.frame x first is branches in
    let m' : Machine D S K = record m { stepper = s'; branches = bs; place = P } in
    work_done sys part count state m m' out out' q kinds.Solve (l.point_events p.time p.delta x (l.solution_branches sys q) q.branches) p.timed (l.standing sys (l.solved_at sys q x)) (h.at (h.InCycle to_time) p.cycles_left p.tries_left (l.solved_at sys q x)) said
    next
    (ap (λ (y : Held). h.rest_of sys y) held)
    awaits
    (ap (λ (y : Held). y.state.tip) held)
    is
    refl
    (sym (none-more m.cycles))
    (still_sound sys part state m m' s part_is refl
    (record { asked = s.room.asked; frame = s.room.frame; made = s.room.made; x = s.room.x; branches = pb; new_frame = s.room.new_frame })
    s.frame_fits
    (subst (λ (y : RunPlace). Stands sys k m.frame m.cycles y) (sym left)
    (solution-stands sys k p to_time is_chosen bs m.options.h0 m.frame x m.cycles delta few s.stands.fits px pb s.room.frame
    (subst (λ (y : ℕ). HasStep sys.options y) (sym first) (first_step sys.options s.allowed)))))
    made
    saying
    (gave ∙ ap (λ (y : List ℕ). out ++ l.point_events p.time p.delta x y (olds_of p)) branches)
  where
    none-more : (n : ℕ) → 0 + n ≡ n
    none-more n = omega arith

-- what comes next, by what the solver made of the place
solve-next : {D S K : Type 0} (sys : System) (part : S → ℕ) (state : K → KernelState) (m : Machine D S K) (to_time : Bool) (o : Result (List ℤ) Cause) → Sound sys part state m → m.place.stage ≡ stages.InDelta to_time → IsReady (next_of sys (held_of (digital_at sys (state m.kernel)) m.place)) → solution_from m.place.timed sys (state m.kernel).digital m.frame m.place.time m.place.gathered m.place.point ≡ o →
    next_of sys (held_of (digital_at sys (state m.kernel)) m.place) ≡ h.solved_by o sys to_time m.place.cycles_left m.place.tries_left (state_of (state m.kernel).digital m.place)
solve-next sys part state m to_time o s e r solves =
    let k = state m.kernel in
    let p = m.place in
    let d = k.digital in
    let q = state_of d p in
    let delta : IsDelta sys k m.frame p.time p.timed p.tip to_time = subst (λ (x : Stage). StandsBy x sys k m.frame p) e s.stands.stands in
    let going : digital_at sys k ≡ d = digital_going sys k delta.goes.stage in
    let solution : l.solution sys (state_of d p) ≡ o =
    solution-from p.timed sys (state_of d p) ∙ ap (λ (f : List Val). solution_from p.timed sys d f p.time p.gathered p.point) (sym delta.goes.frame_is) ∙ solves in
    subst (λ (y : Digital). next_of sys (held_of y p) ≡ h.solved_by o sys to_time p.cycles_left p.tries_left q) (sym going)
    (solves_next sys d p to_time o e (subst (λ (y : Digital). IsReady (next_of sys (held_of y p))) going r) solution)

-- a solution was made, and no memory was found for its point
pub solve_lost : {D S K : Type 0} (sys : System) (part count : S → ℕ) (state : K → KernelState) (m m' : Machine D S K) (bs : List ℕ) (x : List ℤ) (is_chosen to_time : Bool) (out out' : List Event) (res : Result Moved AllocError)
    → IsErr res → Sound sys part state m → m.place.stage ≡ stages.InDelta to_time
    → IsReady (next_of sys (held_of (digital_at sys (state m.kernel)) m.place))
    → ((state m.kernel).stage ≡ Going → settleds.Good ≡ settled_answer (solution_from m.place.timed sys (state m.kernel).digital m.frame m.place.time m.place.gathered m.place.point))
    → ((state m.kernel).stage ≡ Going → x ≡ settled_value m.place.point (solution_from m.place.timed sys (state m.kernel).digital m.frame m.place.time m.place.gathered m.place.point))
    → chosen_of is_chosen bs (olds_of m.place) ≡ l.branches_or (olds_of m.place) (sys.choose m.frame m.place.time (l.solution_kind m.place.timed) m.place.point)
    → AddsFront out out' (point_at (record m.place { point = x }) m.place.time m.place.delta x is_chosen bs)
    → Performs sys part count state (count m.stepper) m' out out' res (worked sys (moment_of sys state m))
solve_lost sys part count state m m' bs x is_chosen to_time out out' res lost s e r answer value chosen front =
    let k = state m.kernel in
    let p = m.place in
    let d = k.digital in
    let q = state_of d p in
    let delta : IsDelta sys k m.frame p.time p.timed p.tip to_time = subst (λ (x : Stage). StandsBy x sys k m.frame p) e s.stands.stands in
    let o : Result (List ℤ) Cause = solution_from p.timed sys d m.frame p.time p.gathered p.point in
    let good : o ≡ Ok x = solved_good o p.point x (sym (answer delta.goes.stage)) (value delta.goes.stage) in
    let branches : chosen_of is_chosen bs (olds_of p) ≡ l.solution_branches sys q =
    chosen ∙ ap (λ (f : List Val). l.branches_or (olds_of p) (sys.choose f p.time (l.solution_kind p.timed) p.point)) delta.goes.frame_is in
    work_lost sys part count state (count m.stepper) m m' out out' q kinds.Solve (l.point_events p.time p.delta x (l.solution_branches sys q) q.branches) p.timed (l.standing sys (l.solved_at sys q x)) (h.at (h.InCycle to_time) p.cycles_left p.tries_left (l.solved_at sys q x)) res lost
    (solve-next sys part state m to_time (Ok x) s e r good)
    (subst (λ (y : List ℕ). AddsFront out out' (l.point_events p.time p.delta x y (olds_of p))) branches front)

-- a solution was refused
pub solve_refused : {D S K : Type 0} (sys : System) (part count : S → ℕ) (state : K → KernelState) (m : Machine D S K) (s' : S) (bs : List ℕ) (x : List ℤ) (cause : Cause) (to_time : Bool) (P : RunPlace) (out : List Event)
    → Sound sys part state m → m.awaited ≡ Ready → m.place.stage ≡ stages.InDelta to_time
    → IsReady (next_of sys (held_of (digital_at sys (state m.kernel)) m.place))
    → part s' ≡ 0 → count s' ≡ count m.stepper → length bs ≡ sys.choices
    → ((state m.kernel).stage ≡ Going → settleds.Refused cause ≡ settled_answer (solution_from m.place.timed sys (state m.kernel).digital m.frame m.place.time m.place.gathered m.place.point))
    → ((state m.kernel).stage ≡ Going → x ≡ settled_value m.place.point (solution_from m.place.timed sys (state m.kernel).digital m.frame m.place.time m.place.gathered m.place.point))
    → P ≡ unsolvable_left cause (record m.place { point = x })
    → Performs sys part count state (count m.stepper) (record m { stepper = s'; branches = bs; place = P }) out out (Ok (says.Ask asks.None)) (worked sys (moment_of sys state m))
solve_refused {D = D} {S = S} {K = K} sys part count state m s' bs x cause to_time P out s awaits e r part_is made pb answer value left =
    let k = state m.kernel in
    let p = m.place in
    let d = k.digital in
    let q = state_of d p in
    let delta : IsDelta sys k m.frame p.time p.timed p.tip to_time = subst (λ (x : Stage). StandsBy x sys k m.frame p) e s.stands.stands in
    let few : m.cycles + (p.cycles_left + 1) ≤ run_budget = subst (λ (x : Stage). m.cycles + (p.cycles_left + pending x) ≤ run_budget) e s.stands.few in
    let o : Result (List ℤ) Cause = solution_from p.timed sys d m.frame p.time p.gathered p.point in
    let bad : (o ≡ Err cause) × (x ≡ p.point) = solved_refused o p.point x cause (sym (answer delta.goes.stage)) (value delta.goes.stage) in
    let is : P ≡ unsolvable_left cause p = left ∙ ap (λ (y : List ℤ). unsolvable_left cause (record p { point = y })) bad.1 in
    let m' : Machine D S K = record m { stepper = s'; branches = bs; place = P } in
    work_done sys part count state m m' out out q kinds.Solve [] false (l.standing sys q) (h.ended (l.unsolvable q cause) p.cycles_left p.tries_left q) (says.Ask asks.None)
    (solve-next sys part state m to_time (Err cause) s e r bad.0)
    (ap (λ (y : RunPlace). h.rest_of sys (held_of (digital_at sys k) y)) is)
    awaits
    (ap (λ (y : RunPlace). y.tip) is)
    delta.goes.frame_is
    refl
    (sym (none-more m.cycles))
    (still_sound sys part state m m' s part_is refl
    (record { asked = s.room.asked; frame = s.room.frame; made = s.room.made; x = s.room.x; branches = pb; new_frame = s.room.new_frame })
    s.frame_fits
    (subst (λ (y : RunPlace). Stands sys k m.frame m.cycles y) (sym is) (record { fits = s.stands.fits; stands = tt; few = omega arith })))
    made
    refl
    (sym (append-nil out))
  where
    none-more : (n : ℕ) → 0 + n ≡ n
    none-more n = omega arith
