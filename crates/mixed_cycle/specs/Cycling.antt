-- A cycle of the digital side, and the start.
use Rattle.std.specs.Prelude.{◌≡◌, ℕ, ◌+◌, ◌≤◌, ◌&&◌, ◌||◌, Bool, true, false, not, cond, List, [], ◌++◌, length, All, IsTrue, IsErr, Result, Ok, refl}
use Rattle.std.proofs.Common.{ap, sym, subst, ◌∙◌, append-nil, arith}
use Rattle.std.specs.declared.alloc.AllocError.{AllocError}
use Rattle.ams_value.specs.declared.val.Val.{Val}
use Rattle.step_data.specs.declared.breaks.Element.{Element}
use Rattle.step_data.specs.declared.event.Event.{Event}
use Rattle.step_data.specs.declared.outcome.Options.{Options}
use Rattle.step_data.specs.declared.outcome.Refusal.{Refusal}
use Rattle.step_data.specs.declared.outcome.End.TheVariants as ends
use Rattle.step_data.specs.declared.outcome.Ran.{Ran}
use Rattle.step_data.specs.declared.outcome.Ran.TheVariants as rans
use Rattle.step_data.specs.Same.{same_frame}
use Rattle.step_model.specs.declared.kernel_stage.KernelStage.{KernelStage}
use Rattle.step_model.specs.declared.kernel_stage.KernelStage.TheVariants.{Going}
use Rattle.step_model.specs.Kernel.{KernelState, AddsFront, stage_after, cycle_of, cycle_by}
use Rattle.step_model.specs.StepLaws.{HasStep}
use Rattle.step_model.specs.System.{System, Digital, CycleOutcome}
use Rattle.lockstep_model.specs.RunStates.{RunState}
use Rattle.lockstep_model.specs.Lockstep as l
use Rattle.lockstep_model.specs.Works.{Worked}
use Rattle.lockstep_model.specs.Works as kinds
use Rattle.lockstep_model.specs.Walk.{ask_of}
use Rattle.lockstep_model.specs.declared.moves.Moved.{Moved}
use Rattle.lockstep_model.specs.declared.moves.Moved.TheVariants as says
use Rattle.lockstep_model.specs.declared.moves.Ask.TheVariants as asks
use Rattle.cycle_machine.specs.Held as h
use Rattle.cycle_machine.specs.Held.{Held, next_of, next_by}
use Rattle.run_place.specs.declared.place.RunPlace.{RunPlace}
use Rattle.run_place.specs.declared.place.Stage.{Stage}
use Rattle.run_place.specs.declared.place.Stage.TheVariants as stages
use Rattle.run_place.specs.Places.{stage_of, state_of, held_of}
use Rattle.run_place.specs.Outcomes.{cycled_left, refused_left}
use Rattle.mixed_cycle.specs.declared.machine.Awaited.TheVariants.{Ready}
use Rattle.mixed_cycle.specs.declared.machine.Machine.{Machine}
use Rattle.mixed_cycle.specs.Standing.{PlaceFits, IsDelta, StandsBy, Stands, pending, digital_at}
use Rattle.mixed_cycle.specs.Deciding.{digital_going}
use Rattle.mixed_cycle.specs.Solving.{first_step}
use Rattle.mixed_cycle.specs.Machine.{Sound, moment_of}
use Rattle.mixed_cycle.specs.Making.{Performs, worked, work_done, work_lost, still_sound}
use Rattle.run_place.specs.Budgets.{run_budget}

-- what the call of a cycle gives at a kernel that goes on
abbrev pub cycle_from : System → KernelState → RunPlace → Bool → CycleOutcome
cycle_from sys k p to_time = cycle_of sys k p.time p.delta p.point to_time

pub cycle_going : (sys : System) (k : KernelState) (p : RunPlace) (to_time : Bool) → k.stage ≡ Going → cycle_from sys k p to_time ≡ l.cycle_at sys to_time (state_of k.digital p)
cycle_going sys k p to_time e = ap (λ (s : KernelStage). cycle_by s sys k.digital p.time p.delta p.point to_time) e

-- what comes next, by how the cycle ended
cycle-next : (sys : System) (d : Digital) (p : RunPlace) (to_time : Bool) (ran : Ran) → p.stage ≡ stages.InCycle to_time → (l.cycle_at sys to_time (state_of d p)).ran ≡ ran → next_of sys (held_of d p) ≡ h.cycled_by ran sys to_time p.cycles_left p.tries_left (state_of d p)
cycle-next sys d p to_time ran e is =
    ap (λ (s : Stage). next_by (stage_of s p.search p.at_hi) sys p.cycles_left p.tries_left (state_of d p)) e
    ∙ ap (λ (r : Ran). h.cycled_by r sys to_time p.cycles_left p.tries_left (state_of d p)) is

-- the elements that are gathered
abbrev pub gathered_by : Bool → List Element → List Element → List Element
gathered_by timed olds more = cond timed olds (l.gathered_with olds more)

-- a cycle in TIME_DOMAIN that executed no break renews the tip where DOMAIN or the frame changed in it
abbrev pub renews_by : Bool → Bool → Bool → List Val → List Val → Bool
renews_by timed to_time broke frame new = (timed || to_time) && (not broke && (to_time || not (same_frame frame new)))

abbrev after_cycle : Digital → RunPlace → Bool → Bool → Bool → ℕ → List Element → RunState
after_cycle d p to_time broke renewed h0 gathered =
    record {
      digital = d;
      time = p.time;
      delta = p.delta;
      timed = p.timed || to_time;
      broke = broke;
      point = p.point;
      tip = cond renewed (record { t = p.time; x = p.point; h = h0; fresh = true }) p.tip;
      solved = (state_of d p).solved;
      gathered = gathered;
      branches = (state_of d p).branches;
    }

left-held : (d : Digital) (p : RunPlace) (to_time broke renewed : Bool) (h0 : ℕ) (gathered : List Element) → held_of d (cycled_left to_time h0 broke renewed (record p { gathered = gathered })) ≡ h.at h.Placed p.cycles_left p.tries_left (after_cycle d p to_time broke renewed h0 gathered)
left-held d p to_time broke true h0 gathered = refl
left-held d p to_time broke false h0 gathered = refl

left-stands : (sys : System) (k' : KernelState) (frame' : List Val) (cycles : ℕ) (p : RunPlace) (to_time broke renewed : Bool) (h0 : ℕ) (gathered : List Element) → PlaceFits sys p → All (λ e. IsTrue (sys.is_element e)) gathered → HasStep sys.options h0 → p.tip.t ≤ p.time → cycles + (p.cycles_left + 1) ≤ run_budget →
    k'.stage ≡ Going → frame' ≡ sys.frame k'.digital → k'.digital.timed ≡ (p.timed || to_time) → k'.digital.time ≡ p.time →
    Stands sys k' frame' (1 + cycles) (cycled_left to_time h0 broke renewed (record p { gathered = gathered }))
left-stands sys k' frame' cycles p to_time broke true h0 gathered f all st tip few going frame timed time =
    record {
      fits = record { time_most = f.time_most; point_fits = f.point_fits; tip_fits = f.point_fits; tip_most = f.time_most; step = st; at_hi_fits = f.at_hi_fits; solved_fits = f.solved_fits; elements = all; branches_fit = f.branches_fit };
      stands = record { goes = record { stage = going; frame_is = frame; domain_is = timed; began = omega arith }; now = time; tip_before = omega arith };
      few = omega arith;
    }
left-stands sys k' frame' cycles p to_time broke false h0 gathered f all st tip few going frame timed time =
    record {
      fits = record { time_most = f.time_most; point_fits = f.point_fits; tip_fits = f.tip_fits; tip_most = f.tip_most; step = f.step; at_hi_fits = f.at_hi_fits; solved_fits = f.solved_fits; elements = all; branches_fit = f.branches_fit };
      stands = record { goes = record { stage = going; frame_is = frame; domain_is = timed; began = omega arith }; now = time; tip_before = tip };
      few = omega arith;
    }

-- what the cycle of a kernel left
pub record Cycled (sys : System) (k k' : KernelState) (p : RunPlace) (to_time : Bool) (ran : Ran) : Type 0 where
  pub ran_is : ran ≡ (cycle_from sys k p to_time).ran
  pub stage_is : k'.stage ≡ stage_after (cycle_from sys k p to_time).ran
  pub digital_is : k'.stage ≡ Going → k'.digital ≡ (cycle_from sys k p to_time).digital
  pub time_is : k'.stage ≡ Going → k'.digital.time ≡ p.time
  pub domain_is : k'.stage ≡ Going → k'.digital.timed ≡ (k.digital.timed || to_time)

-- a cycle was made
pub cycle_done : {D S K : Type 0} (sys : System) (part count : S → ℕ) (state : K → KernelState) (m : Machine D S K) (kernel : K) (gathered : List Element) (frame spare : List Val) (broke renewed to_time : Bool) (n : ℕ) (P : RunPlace) (out out' : List Event) (said : Moved)
    → Sound sys part state m → m.awaited ≡ Ready → m.place.stage ≡ stages.InCycle to_time
    → Cycled sys (state m.kernel) (state kernel) m.place to_time (rans.Done broke)
    → ((state kernel).stage ≡ Going → gathered ≡ gathered_by (m.place.timed || to_time) m.place.gathered (sys.breaks (state kernel).digital))
    → All (λ e. IsTrue (sys.is_element e)) gathered
    → ((state kernel).stage ≡ Going → frame ≡ sys.frame (state kernel).digital) → IsTrue (sys.is_frame frame) → length frame ≡ sys.frame_len → length spare ≡ sys.frame_len
    → renewed ≡ renews_by m.place.timed to_time broke m.frame frame
    → n ≡ m.cycles + 1
    → P ≡ cycled_left to_time m.options.h0 broke renewed (record m.place { gathered = gathered })
    → out' ≡ out ++ (cycle_from sys (state m.kernel) m.place to_time).events
    → said ≡ says.Ask (ask_of renewed)
    → Performs sys part count state (count m.stepper) (record m { kernel = kernel; place = P; frame = frame; new_frame = spare; cycles = n }) out out' (Ok said) (worked sys (moment_of sys state m))
cycle_done {D = D} {S = S} {K = K} sys part count state m kernel gathered frame spare broke renewed to_time n P out out' said s awaits e call gathers all frames fits len spare_len renew one left gave saying =
    let k = state m.kernel in
    let k' = state kernel in
    let p = m.place in
    let d = k.digital in
    let q = state_of d p in
    let delta : IsDelta sys k m.frame p.time p.timed p.tip to_time = subst (λ (x : Stage). StandsBy x sys k m.frame p) e s.stands.stands in
    let few : m.cycles + (p.cycles_left + 1) ≤ run_budget = subst (λ (x : Stage). m.cycles + (p.cycles_left + pending x) ≤ run_budget) e s.stands.few in
    let going : digital_at sys k ≡ d = digital_going sys k delta.goes.stage in
    let from : cycle_from sys k p to_time ≡ l.cycle_at sys to_time q = cycle_going sys k p to_time delta.goes.stage in
    let ran : (l.cycle_at sys to_time q).ran ≡ rans.Done broke = ap (λ (c : CycleOutcome). c.ran) (sym from) ∙ sym call.ran_is in
    let goes : k'.stage ≡ Going = call.stage_is ∙ ap (λ (r : Ran). stage_after r) (sym call.ran_is) in
    let digital : k'.digital ≡ (l.cycle_at sys to_time q).digital = call.digital_is goes ∙ ap (λ (c : CycleOutcome). c.digital) from in
    let is : m.frame ≡ sys.frame d = delta.goes.frame_is in
    let new : frame ≡ sys.frame (l.cycle_at sys to_time q).digital = frames goes ∙ ap (λ (y : Digital). sys.frame y) digital in
    let renew_is : renewed ≡ l.renews sys to_time q broke =
    renew ∙ ap (λ (f : List Val). renews_by p.timed to_time broke f frame) is ∙ ap (λ (f : List Val). renews_by p.timed to_time broke (sys.frame d) f) new in
    let first : m.options.h0 ≡ sys.options.h0 = ap (λ (o : Options). o.h0) s.options_are in
    let gathered_is : gathered ≡ gathered_by (p.timed || to_time) p.gathered (sys.breaks (l.cycle_at sys to_time q).digital) =
    gathers goes ∙ ap (λ (y : Digital). gathered_by (p.timed || to_time) p.gathered (sys.breaks y)) digital in
    let held : held_of (digital_at sys k') P ≡ h.at h.Placed p.cycles_left p.tries_left (l.cycled sys to_time q broke) =
    ap (λ (y : Digital). held_of y P) (digital_going sys k' goes ∙ digital)
    ∙ ap (λ (y : RunPlace). held_of (l.cycle_at sys to_time q).digital y) left
    ∙ left-held (l.cycle_at sys to_time q).digital p to_time broke renewed m.options.h0 gathered
    ∙ ap (λ (b : Bool). h.at h.Placed p.cycles_left p.tries_left (after_cycle (l.cycle_at sys to_time q).digital p to_time broke b m.options.h0 gathered)) renew_is
    ∙ ap (λ (y : ℕ). h.at h.Placed p.cycles_left p.tries_left (after_cycle (l.cycle_at sys to_time q).digital p to_time broke (l.renews sys to_time q broke) y gathered)) first
    ∙ ap (λ (y : List Element). h.at h.Placed p.cycles_left p.tries_left (after_cycle (l.cycle_at sys to_time q).digital p to_time broke (l.renews sys to_time q broke) sys.options.h0 y)) gathered_is in
    let next : next_of sys (held_of (digital_at sys k) p) ≡ h.cycled_by (rans.Done broke) sys to_time p.cycles_left p.tries_left q =
    subst (λ (y : Digital). next_of sys (held_of y p) ≡ h.cycled_by (rans.Done broke) sys to_time p.cycles_left p.tries_left q) (sym going) (cycle-next sys d p to_time (rans.Done broke) e ran) in
    let counts : n ≡ 1 + m.cycles = omega arith in
    let m' : Machine D S K = record m { kernel = kernel; place = P; frame = frame; new_frame = spare; cycles = n } in
    work_done sys part count state m m' out out' q kinds.Cycle (l.cycle_at sys to_time q).events (l.renews sys to_time q broke) (l.standing sys (l.cycled sys to_time q broke)) (h.at h.Placed p.cycles_left p.tries_left (l.cycled sys to_time q broke)) said
    next
    (ap (λ (y : Held). h.rest_of sys y) held)
    awaits
    (ap (λ (y : Held). y.state.tip) held)
    new
    refl
    counts
    (still_sound sys part state m m' s s.part_is refl
    (record { asked = s.room.asked; frame = len; made = s.room.made; x = s.room.x; branches = s.room.branches; new_frame = spare_len })
    fits
    (subst (λ (y : RunPlace). Stands sys k' frame n y) (sym left)
    (subst (λ (y : ℕ). Stands sys k' frame y (cycled_left to_time m.options.h0 broke renewed (record p { gathered = gathered }))) (sym counts)
    (left-stands sys k' frame m.cycles p to_time broke renewed m.options.h0 gathered s.stands.fits all
    (subst (λ (y : ℕ). HasStep sys.options y) (sym first) (first_step sys.options s.allowed))
    delta.tip_before few goes (frames goes)
    (call.domain_is goes ∙ ap (λ (b : Bool). b || to_time) delta.goes.domain_is)
    (call.time_is goes)))))
    refl
    (saying ∙ ap (λ (b : Bool). says.Ask (ask_of b)) renew_is)
    (gave ∙ ap (λ (c : CycleOutcome). out ++ c.events) from)

-- a cycle was refused
pub cycle_refused : {D S K : Type 0} (sys : System) (part count : S → ℕ) (state : K → KernelState) (m : Machine D S K) (kernel : K) (refusal : Refusal) (to_time : Bool) (n : ℕ) (P : RunPlace) (out out' : List Event)
    → Sound sys part state m → m.awaited ≡ Ready → m.place.stage ≡ stages.InCycle to_time
    → Cycled sys (state m.kernel) (state kernel) m.place to_time (rans.Refused refusal)
    → n ≡ m.cycles + 1
    → P ≡ refused_left refusal m.place
    → out' ≡ out ++ (cycle_from sys (state m.kernel) m.place to_time).events
    → Performs sys part count state (count m.stepper) (record m { kernel = kernel; place = P; cycles = n }) out out' (Ok (says.Ask asks.None)) (worked sys (moment_of sys state m))
cycle_refused {D = D} {S = S} {K = K} sys part count state m kernel refusal to_time n P out out' s awaits e call one left gave =
    let k = state m.kernel in
    let k' = state kernel in
    let p = m.place in
    let d = k.digital in
    let q = state_of d p in
    let delta : IsDelta sys k m.frame p.time p.timed p.tip to_time = subst (λ (x : Stage). StandsBy x sys k m.frame p) e s.stands.stands in
    let few : m.cycles + (p.cycles_left + 1) ≤ run_budget = subst (λ (x : Stage). m.cycles + (p.cycles_left + pending x) ≤ run_budget) e s.stands.few in
    let going : digital_at sys k ≡ d = digital_going sys k delta.goes.stage in
    let from : cycle_from sys k p to_time ≡ l.cycle_at sys to_time q = cycle_going sys k p to_time delta.goes.stage in
    let ran : (l.cycle_at sys to_time q).ran ≡ rans.Refused refusal = ap (λ (c : CycleOutcome). c.ran) (sym from) ∙ sym call.ran_is in
    let next : next_of sys (held_of (digital_at sys k) p) ≡ h.cycled_by (rans.Refused refusal) sys to_time p.cycles_left p.tries_left q =
    subst (λ (y : Digital). next_of sys (held_of y p) ≡ h.cycled_by (rans.Refused refusal) sys to_time p.cycles_left p.tries_left q) (sym going) (cycle-next sys d p to_time (rans.Refused refusal) e ran) in
    let counts : n ≡ 1 + m.cycles = omega arith in
    let m' : Machine D S K = record m { kernel = kernel; place = P; cycles = n } in
    work_done sys part count state m m' out out' q kinds.Cycle (l.cycle_at sys to_time q).events false (l.standing sys q) (h.at (h.Finished (ends.Refused p.time refusal)) p.cycles_left p.tries_left q) (says.Ask asks.None)
    next
    (ap (λ (y : RunPlace). h.rest_of sys (held_of (digital_at sys k') y)) left)
    awaits
    (ap (λ (y : RunPlace). y.tip) left)
    delta.goes.frame_is
    refl
    counts
    (still_sound sys part state m m' s s.part_is refl
    (record { asked = s.room.asked; frame = s.room.frame; made = s.room.made; x = s.room.x; branches = s.room.branches; new_frame = s.room.new_frame })
    s.frame_fits
    (subst (λ (y : RunPlace). Stands sys k' m.frame n y) (sym left) (record { fits = s.stands.fits; stands = tt; few = omega arith })))
    refl
    refl
    (gave ∙ ap (λ (c : CycleOutcome). out ++ c.events) from)

-- no memory was found in a cycle, or behind it
pub cycle_lost : {D S K : Type 0} (sys : System) (part count : S → ℕ) (state : K → KernelState) (m m' : Machine D S K) (to_time : Bool) (out out' : List Event) (res : Result Moved AllocError) → IsErr res → Sound sys part state m → m.place.stage ≡ stages.InCycle to_time → AddsFront out out' (cycle_from sys (state m.kernel) m.place to_time).events →
    Performs sys part count state (count m.stepper) m' out out' res (worked sys (moment_of sys state m))
cycle_lost sys part count state m m' to_time out out' res lost s e front =
    let k = state m.kernel in
    let p = m.place in
    let d = k.digital in
    let q = state_of d p in
    let delta : IsDelta sys k m.frame p.time p.timed p.tip to_time = subst (λ (x : Stage). StandsBy x sys k m.frame p) e s.stands.stands in
    let going : digital_at sys k ≡ d = digital_going sys k delta.goes.stage in
    lost-by sys part count state m m' to_time out out' res q (l.cycle_at sys to_time q).ran lost
    (subst (λ (y : Digital). next_of sys (held_of y p) ≡ h.cycled_by (l.cycle_at sys to_time q).ran sys to_time p.cycles_left p.tries_left q) (sym going) (cycle-next sys d p to_time (l.cycle_at sys to_time q).ran e refl))
    (subst (λ (c : CycleOutcome). AddsFront out out' c.events) (cycle_going sys k p to_time delta.goes.stage) front)
  where
    lost-by : {D S K : Type 0} (sys : System) (part count : S → ℕ) (state : K → KernelState) (m m' : Machine D S K) (to_time : Bool) (out out' : List Event) (res : Result Moved AllocError) (q : RunState) (ran : Ran) → IsErr res →
        next_of sys (held_of (digital_at sys (state m.kernel)) m.place) ≡ h.cycled_by ran sys to_time m.place.cycles_left m.place.tries_left q → AddsFront out out' (l.cycle_at sys to_time q).events → Performs sys part count state (count m.stepper) m' out out' res (worked sys (moment_of sys state m))
    lost-by sys part count state m m' to_time out out' res q (rans.Done broke) lost next front =
        work_lost sys part count state (count m.stepper) m m' out out' q kinds.Cycle (l.cycle_at sys to_time q).events (l.renews sys to_time q broke) (l.standing sys (l.cycled sys to_time q broke)) (h.at h.Placed m.place.cycles_left m.place.tries_left (l.cycled sys to_time q broke)) res lost next front
    lost-by sys part count state m m' to_time out out' res q (rans.Refused refusal) lost next front =
        work_lost sys part count state (count m.stepper) m m' out out' q kinds.Cycle (l.cycle_at sys to_time q).events false (l.standing sys q) (h.at (h.Finished (ends.Refused q.time refusal)) m.place.cycles_left m.place.tries_left q) res lost next front

pub front_all : (out out' events : List Event) → out' ≡ out ++ events → AddsFront out out' events
front_all out out' events e = record { front = events; is_front = ([], append-nil events); new_is = e }
