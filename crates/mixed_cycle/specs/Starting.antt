-- The start: each process runs once up to its wait.
use Rattle.std.specs.Prelude.{◌≡◌, ℕ, ◌+◌, ◌≤◌, Bool, false, ℤ, List, [], ◌++◌, length, All, IsTrue, IsErr, Result, Ok, refl}
use Rattle.std.proofs.Common.{ap, sym, subst, ◌∙◌, arith}
use Rattle.std.specs.declared.alloc.AllocError.{AllocError}
use Rattle.ams_value.specs.declared.val.Val.{Val}
use Rattle.step_data.specs.declared.breaks.Element.{Element}
use Rattle.step_data.specs.declared.event.Event.{Event}
use Rattle.step_data.specs.declared.outcome.Refusal.{Refusal}
use Rattle.step_data.specs.declared.outcome.End.TheVariants as ends
use Rattle.step_data.specs.declared.outcome.Ran.{Ran}
use Rattle.step_data.specs.declared.outcome.Ran.TheVariants as rans
use Rattle.step_model.specs.declared.kernel_stage.KernelStage.TheVariants.{Going}
use Rattle.step_model.specs.Kernel.{KernelState, AddsFront, stage_after}
use Rattle.step_model.specs.System.{System, Digital, CycleOutcome}
use Rattle.lockstep_model.specs.RunStates.{RunState}
use Rattle.lockstep_model.specs.Lockstep as l
use Rattle.lockstep_model.specs.Works.{Run, Worked, over}
use Rattle.lockstep_model.specs.Works as kinds
use Rattle.lockstep_model.specs.declared.moves.Moved.{Moved}
use Rattle.lockstep_model.specs.declared.moves.Moved.TheVariants as says
use Rattle.lockstep_model.specs.declared.moves.Ask.TheVariants as asks
use Rattle.cycle_machine.specs.Held as h
use Rattle.cycle_machine.specs.Held.{Held, next_of, next_by}
use Rattle.run_place.specs.declared.place.RunPlace.{RunPlace}
use Rattle.run_place.specs.declared.place.Stage.{Stage}
use Rattle.run_place.specs.declared.place.Stage.TheVariants as stages
use Rattle.run_place.specs.Places.{stage_of, state_of, held_of}
use Rattle.run_place.specs.Outcomes.{started_left, refused_left}
use Rattle.mixed_cycle.specs.declared.machine.Awaited.TheVariants.{Ready}
use Rattle.mixed_cycle.specs.declared.machine.Machine.{Machine}
use Rattle.mixed_cycle.specs.Standing.{IsFirst, StandsBy, Stands, pending, digital_at}
use Rattle.mixed_cycle.specs.Deciding.{digital_going}
use Rattle.mixed_cycle.specs.Machine.{Sound, moment_of}
use Rattle.mixed_cycle.specs.Making.{Performs, worked, work_done, work_lost, still_sound}
use Rattle.run_place.specs.Budgets.{run_budget}

first-of : {D S K : Type 0} (sys : System) (part : S → ℕ) (state : K → KernelState) (m : Machine D S K) → Sound sys part state m → m.place.stage ≡ stages.Unstarted → IsFirst sys (state m.kernel) m.frame m.place
first-of sys part state m s e = subst (λ (x : Stage). StandsBy x sys (state m.kernel) m.frame m.place) e s.stands.stands

-- what comes next, by how the start ended
start-next : (sys : System) (d : Digital) (p : RunPlace) (ran : Ran) → p.stage ≡ stages.Unstarted → (l.first_cycle sys).ran ≡ ran → next_of sys (held_of d p) ≡ h.started_by ran sys
start-next sys d p ran e is =
    ap (λ (s : Stage). next_by (stage_of s p.search p.at_hi) sys p.cycles_left p.tries_left (state_of d p)) e
    ∙ ap (λ (r : Ran). h.started_by r sys) is

-- what the start of a kernel left
pub record Started (sys : System) (k' : KernelState) (x : List ℤ) (ran : Ran) : Type 0 where
  pub ran_is : ran ≡ (sys.start x).ran
  pub stage_is : k'.stage ≡ stage_after (sys.start x).ran
  pub digital_is : k'.stage ≡ Going → k'.digital ≡ (sys.start x).digital
  pub time_is : k'.stage ≡ Going → k'.digital.time ≡ 0
  pub domain_is : k'.stage ≡ Going → k'.digital.timed ≡ false

none-more : (n : ℕ) → 0 + n ≡ n
none-more n = omega arith

-- the start was made
pub start_done : {D S K : Type 0} (sys : System) (part count : S → ℕ) (state : K → KernelState) (m : Machine D S K) (kernel : K) (gathered : List Element) (frame : List Val) (broke : Bool) (P : RunPlace) (out out' : List Event)
    → Sound sys part state m → m.awaited ≡ Ready → m.place.stage ≡ stages.Unstarted
    → Started sys (state kernel) m.place.point (rans.Done broke)
    → ((state kernel).stage ≡ Going → gathered ≡ l.gathered_with m.place.gathered (sys.breaks (state kernel).digital))
    → All (λ e. IsTrue (sys.is_element e)) gathered
    → ((state kernel).stage ≡ Going → frame ≡ sys.frame (state kernel).digital) → IsTrue (sys.is_frame frame) → length frame ≡ sys.frame_len
    → P ≡ started_left broke (record m.place { gathered = gathered })
    → out' ≡ out ++ (sys.start m.place.point).events
    → Performs sys part count state (count m.stepper) (record m { kernel = kernel; place = P; frame = frame }) out out' (Ok (says.Ask asks.None)) (worked sys (moment_of sys state m))
start_done {D = D} {S = S} {K = K} sys part count state m kernel gathered frame broke P out out' s awaits e call gathers all frames fits len left gave =
    let k = state m.kernel in
    let k' = state kernel in
    let p = m.place in
    let first : IsFirst sys k m.frame p = first-of sys part state m s e in
    let few : m.cycles + (p.cycles_left + 0) ≤ run_budget = subst (λ (x : Stage). m.cycles + (p.cycles_left + pending x) ≤ run_budget) e s.stands.few in
    let initial : p.point ≡ sys.initial = ap (λ (q : RunState). q.point) first.state in
    let from : sys.start p.point ≡ l.first_cycle sys = ap (λ (x : List ℤ). sys.start x) initial in
    let ran : (l.first_cycle sys).ran ≡ rans.Done broke = ap (λ (c : CycleOutcome). c.ran) (sym from) ∙ sym call.ran_is in
    let goes : k'.stage ≡ Going = call.stage_is ∙ ap (λ (r : Ran). stage_after r) (sym call.ran_is) in
    let digital : k'.digital ≡ (l.first_cycle sys).digital = call.digital_is goes ∙ ap (λ (c : CycleOutcome). c.digital) from in
    let new : frame ≡ sys.frame (l.first_cycle sys).digital = frames goes ∙ ap (λ (y : Digital). sys.frame y) digital in
    let none : p.gathered ≡ [] = ap (λ (q : RunState). q.gathered) first.state in
    let gathered_is : gathered ≡ l.gathered_with [] (sys.breaks (l.first_cycle sys).digital) =
    gathers goes ∙ ap (λ (y : Digital). l.gathered_with p.gathered (sys.breaks y)) digital ∙ ap (λ (xs : List Element). l.gathered_with xs (sys.breaks (l.first_cycle sys).digital)) none in
    let d' = (l.first_cycle sys).digital in
    let state_is : state_of d' (record p { gathered = gathered; broke = broke }) ≡ l.first_place sys broke =
    ap (λ (q : RunState). record q { digital = d'; broke = broke; gathered = gathered }) first.state
    ∙ ap (λ (xs : List Element). record (l.first_place sys broke) { gathered = xs }) gathered_is in
    let held : held_of (digital_at sys k') P ≡ h.at h.Placed sys.cycles sys.tries (l.first_place sys broke) =
    ap (λ (y : Digital). held_of y P) (digital_going sys k' goes ∙ digital)
    ∙ ap (λ (y : RunPlace). held_of d' y) left
    ∙ ap (λ (q : RunState). h.at h.Placed p.cycles_left p.tries_left q) state_is
    ∙ ap (λ (c : ℕ). h.at h.Placed c p.tries_left (l.first_place sys broke)) first.cycles
    ∙ ap (λ (n : ℕ). h.at h.Placed sys.cycles n (l.first_place sys broke)) first.tries in
    let f = s.stands.fits in
    let time : p.time ≡ 0 = ap (λ (q : RunState). q.time) first.state in
    let timed : p.timed ≡ false = ap (λ (q : RunState). q.timed) first.state in
    let tip : p.tip.t ≡ 0 = ap (λ (q : RunState). q.tip.t) first.state in
    let now : k'.digital.time ≡ p.time = call.time_is goes ∙ sym time in
    let m' : Machine D S K = record m { kernel = kernel; place = P; frame = frame } in
    work_done sys part count state m m' out out' (l.unstarted_state sys) kinds.Start (l.first_cycle sys).events false (l.standing sys (l.first_place sys broke)) (h.at h.Placed sys.cycles sys.tries (l.first_place sys broke)) (says.Ask asks.None)
    (start-next sys (digital_at sys k) p (rans.Done broke) e ran)
    (ap (λ (y : Held). h.rest_of sys y) held)
    awaits
    (ap (λ (y : Held). y.state.tip) held)
    new
    refl
    (sym (none-more m.cycles))
    (still_sound sys part state m m' s s.part_is refl
    (record { asked = s.room.asked; frame = len; made = s.room.made; x = s.room.x; branches = s.room.branches; new_frame = s.room.new_frame })
    fits
    (subst (λ (y : RunPlace). Stands sys k' frame m.cycles y) (sym left)
    (record {
      fits = record { time_most = f.time_most; point_fits = f.point_fits; tip_fits = f.tip_fits; tip_most = f.tip_most; step = f.step; at_hi_fits = f.at_hi_fits; solved_fits = f.solved_fits; elements = all; branches_fit = f.branches_fit };
      stands = record { goes = record { stage = goes; frame_is = frames goes; domain_is = call.domain_is goes ∙ sym timed; began = omega arith }; now = now; tip_before = omega arith };
      few = few;
    })))
    refl
    refl
    (gave ∙ ap (λ (c : CycleOutcome). out ++ c.events) from)

-- the start was refused
pub start_refused : {D S K : Type 0} (sys : System) (part count : S → ℕ) (state : K → KernelState) (m : Machine D S K) (kernel : K) (refusal : Refusal) (P : RunPlace) (out out' : List Event)
    → Sound sys part state m → m.awaited ≡ Ready → m.place.stage ≡ stages.Unstarted
    → Started sys (state kernel) m.place.point (rans.Refused refusal)
    → P ≡ refused_left refusal m.place
    → out' ≡ out ++ (sys.start m.place.point).events
    → Performs sys part count state (count m.stepper) (record m { kernel = kernel; place = P }) out out' (Ok (says.Ask asks.None)) (worked sys (moment_of sys state m))
start_refused {D = D} {S = S} {K = K} sys part count state m kernel refusal P out out' s awaits e call left gave =
    let k = state m.kernel in
    let k' = state kernel in
    let p = m.place in
    let first : IsFirst sys k m.frame p = first-of sys part state m s e in
    let few : m.cycles + (p.cycles_left + 0) ≤ run_budget = subst (λ (x : Stage). m.cycles + (p.cycles_left + pending x) ≤ run_budget) e s.stands.few in
    let initial : p.point ≡ sys.initial = ap (λ (q : RunState). q.point) first.state in
    let from : sys.start p.point ≡ l.first_cycle sys = ap (λ (x : List ℤ). sys.start x) initial in
    let ran : (l.first_cycle sys).ran ≡ rans.Refused refusal = ap (λ (c : CycleOutcome). c.ran) (sym from) ∙ sym call.ran_is in
    let time : p.time ≡ 0 = ap (λ (q : RunState). q.time) first.state in
    let m' : Machine D S K = record m { kernel = kernel; place = P } in
    work_done sys part count state m m' out out' (l.unstarted_state sys) kinds.Start (l.first_cycle sys).events false (l.first_standing sys) (h.at (h.Finished (ends.Refused 0 refusal)) sys.cycles sys.tries (l.unstarted_state sys)) (says.Ask asks.None)
    (start-next sys (digital_at sys k) p (rans.Refused refusal) e ran)
    (ap (λ (y : RunPlace). h.rest_of sys (held_of (digital_at sys k') y)) left ∙ ap (λ (t : ℕ). over (ends.Refused t refusal)) time)
    awaits
    (ap (λ (y : RunPlace). y.tip) left ∙ ap (λ (q : RunState). q.tip) first.state)
    first.frame_is
    refl
    (sym (none-more m.cycles))
    (still_sound sys part state m m' s s.part_is refl
    (record { asked = s.room.asked; frame = s.room.frame; made = s.room.made; x = s.room.x; branches = s.room.branches; new_frame = s.room.new_frame })
    s.frame_fits
    (subst (λ (y : RunPlace). Stands sys k' m.frame m.cycles y) (sym left) (record { fits = s.stands.fits; stands = tt; few = few })))
    refl
    refl
    (gave ∙ ap (λ (c : CycleOutcome). out ++ c.events) from)

-- no memory was found in the start, or behind it
pub start_lost : {D S K : Type 0} (sys : System) (part count : S → ℕ) (state : K → KernelState) (m m' : Machine D S K) (out out' : List Event) (res : Result Moved AllocError) → IsErr res → Sound sys part state m → m.place.stage ≡ stages.Unstarted → AddsFront out out' (sys.start m.place.point).events →
    Performs sys part count state (count m.stepper) m' out out' res (worked sys (moment_of sys state m))
start_lost sys part count state m m' out out' res lost s e front =
    let k = state m.kernel in
    let p = m.place in
    let first : IsFirst sys k m.frame p = first-of sys part state m s e in
    let initial : p.point ≡ sys.initial = ap (λ (q : RunState). q.point) first.state in
    lost-by sys part count state m m' out out' res (l.first_cycle sys).ran lost
    (start-next sys (digital_at sys k) p (l.first_cycle sys).ran e refl)
    (subst (λ (x : List ℤ). AddsFront out out' (sys.start x).events) initial front)
  where
    lost-by : {D S K : Type 0} (sys : System) (part count : S → ℕ) (state : K → KernelState) (m m' : Machine D S K) (out out' : List Event) (res : Result Moved AllocError) (ran : Ran) → IsErr res →
        next_of sys (held_of (digital_at sys (state m.kernel)) m.place) ≡ h.started_by ran sys → AddsFront out out' (l.first_cycle sys).events → Performs sys part count state (count m.stepper) m' out out' res (worked sys (moment_of sys state m))
    lost-by sys part count state m m' out out' res (rans.Done broke) lost next front =
        work_lost sys part count state (count m.stepper) m m' out out' (l.unstarted_state sys) kinds.Start (l.first_cycle sys).events false (l.standing sys (l.first_place sys broke)) (h.at h.Placed sys.cycles sys.tries (l.first_place sys broke)) res lost next front
    lost-by sys part count state m m' out out' res (rans.Refused refusal) lost next front =
        work_lost sys part count state (count m.stepper) m m' out out' (l.unstarted_state sys) kinds.Start (l.first_cycle sys).events false (l.first_standing sys) (h.at (h.Finished (ends.Refused 0 refusal)) sys.cycles sys.tries (l.unstarted_state sys)) res lost next front
