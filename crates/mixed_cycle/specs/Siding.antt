-- A side step to the next time.
use Rattle.std.specs.Prelude.{◌≡◌, ℕ, zero, suc, ◌+◌, ◌-◌, ◌/◌, ◌≤◌, ◌<◌, Bool, true, false, not, cond, nat_le, nat_lt, max, ℤ, List, [], ◌++◌, length, IsErr, Option, Result, Ok, Err, refl}
use Rattle.std.specs.declared.alloc.AllocError.{AllocError}
use Rattle.std.proofs.Common.{ap, sym, subst, ◌∙◌, append-nil, arith}
use Rattle.std.proofs.lemmas.Bool.Decides.{nat_tests}
use Rattle.ams_value.specs.declared.val.Val.{Val}
use Rattle.step_data.specs.declared.event.Event.{Event}
use Rattle.step_data.specs.declared.outcome.Cause.{Cause}
use Rattle.step_data.specs.declared.outcome.Options.{Options}
use Rattle.step_data.specs.declared.outcome.ChooseKind.TheVariants.{Timed}
use Rattle.step_data.specs.declared.outcome.Trial.TheVariants as trials
use Rattle.step_model.specs.declared.kernel_stage.KernelStage.TheVariants.{Going}
use Rattle.step_model.specs.Answers.{IsStep, CanStep, trial_answer, trial_point}
use Rattle.step_model.specs.Counts.{more}
use Rattle.step_model.specs.Kernel.{KernelState, AddsFront}
use Rattle.step_model.specs.System.{System, Digital, Landing}
use Rattle.lockstep_model.specs.Crossing.{differs, is_near}
use Rattle.lockstep_model.specs.RunStates.{RunState}
use Rattle.lockstep_model.specs.Lockstep as l
use Rattle.lockstep_model.specs.StepSizes.{side_step_fits}
use Rattle.lockstep_model.specs.Walk.{ask_of}
use Rattle.lockstep_model.specs.Works.{Worked, Standing}
use Rattle.lockstep_model.specs.Works as kinds
use Rattle.lockstep_model.specs.declared.moves.Moved.{Moved}
use Rattle.lockstep_model.specs.declared.moves.Moved.TheVariants as says
use Rattle.lockstep_model.specs.declared.moves.Ask.TheVariants as asks
use Rattle.cycle_machine.specs.Held as h
use Rattle.cycle_machine.specs.Held.{Held, Makes, Step, next_of, next_by}
use Rattle.cycle_machine.specs.Ready.{IsReady}
use Rattle.run_place.specs.declared.place.RunPlace.{RunPlace}
use Rattle.run_place.specs.declared.place.Stage.{Stage}
use Rattle.run_place.specs.declared.place.Stage.TheVariants as stages
use Rattle.run_place.specs.Places.{stage_of, state_of, held_of}
use Rattle.run_place.specs.Giving.{chosen_of, olds_of}
use Rattle.run_place.specs.Decisions as c
use Rattle.run_place.specs.DecisionLaws.{arrived_is, stepped_is}
use Rattle.run_place.specs.Outcomes.{too_small, halved_left}
use Rattle.mixed_cycle.specs.declared.machine.Awaited.TheVariants.{Ready}
use Rattle.mixed_cycle.specs.declared.machine.Machine.{Machine}
use Rattle.mixed_cycle.specs.Standing.{IsPhase, StandsBy, Stands, PlaceFits, pending, digital_at}
use Rattle.mixed_cycle.specs.Decided.{stepped_arrives}
use Rattle.mixed_cycle.specs.Deciding.{digital_going, arrived_tip}
use Rattle.mixed_cycle.specs.Landing.{landed_left, landed_events, side_left}
use Rattle.mixed_cycle.specs.Machine.{Sound, moment_of}
use Rattle.mixed_cycle.specs.Making.{Performs, worked, work_done, work_lost, still_sound}
use Rattle.mixed_cycle.specs.Searching.{can_step}
use Rattle.run_place.specs.Budgets.{run_budget}

by-phase : (there fits : Bool) (n : ℕ) (sys : System) (c : ℕ) (q : RunState) → fits ≡ false → IsReady (h.phase_by (l.phase_step there fits) sys c n q) →
    (there ≡ false) × (1 ≤ n) × (h.phase_by (l.phase_step there fits) sys c n q ≡ h.sided (l.side_at sys q) sys c (n - 1) q)
by-phase true fits n sys c q far r = absurd r
by-phase false true n sys c q far r = cc
by-phase false false zero sys c q far r = absurd r
by-phase false false (suc n) sys c q far r = (refl, omega arith, ap (λ k. h.sided (l.side_at sys q) sys c k q) (less n))
  where
    less : (n : ℕ) → n ≡ suc n - 1
    less n = omega arith

at-phase : (sys : System) (d : Digital) (p : RunPlace) → p.stage ≡ stages.InPhase → next_of sys (held_of d p) ≡ h.phase_next sys p.cycles_left p.tries_left (state_of d p)
at-phase sys d p e = ap (λ (s : Stage). next_by (stage_of s p.search p.at_hi) sys p.cycles_left p.tries_left (state_of d p)) e

-- a side step is the next thing, with a try that is left
pub record SidesNext (sys : System) (d : Digital) (p : RunPlace) : Type 0 where
  pub apart : l.is_there sys (state_of d p) ≡ false
  pub some : 1 ≤ p.tries_left
  pub next : next_of sys (held_of d p) ≡ h.sided (l.side_at sys (state_of d p)) sys p.cycles_left (p.tries_left - 1) (state_of d p)

pub sides_next : (sys : System) (d : Digital) (p : RunPlace) → p.stage ≡ stages.InPhase → l.ends_in_time sys (state_of d p) ≡ false → IsReady (next_of sys (held_of d p)) → SidesNext sys d p
sides_next sys d p e far r =
    let q = state_of d p in
    let by = by-phase (l.is_there sys q) (l.ends_in_time sys q) p.tries_left sys p.cycles_left q far (subst IsReady (at-phase sys d p e) r) in
    record { apart = by.0; some = by.1; next = at-phase sys d p e ∙ by.2 }

-- what is known where a side step begins: by what the kernel's next time was, and the time up to which it goes
pub record SideBegins {D S K : Type 0} (sys : System) (part : S → ℕ) (state : K → KernelState) (m : Machine D S K) (next : Option ℕ) (t : ℕ) : Type 0 where
  pub sound : Sound sys part state m
  pub awaits : m.awaited ≡ Ready
  pub stage : m.place.stage ≡ stages.InPhase
  pub ready : IsReady (next_of sys (held_of (digital_at sys (state m.kernel)) m.place))
  pub late : l.ends_in_time sys (state_of (digital_at sys (state m.kernel)) m.place) ≡ false
  pub next_is : (state m.kernel).stage ≡ Going → next ≡ sys.next_time (state m.kernel).digital
  pub t_is : t ≡ l.until_of next m.options.stop

-- what follows from it
pub record SideWay (sys : System) (k : KernelState) (frame : List Val) (cycles : ℕ) (p : RunPlace) (next : Option ℕ) (t : ℕ) : Type 0 where
  pub digital : digital_at sys k ≡ k.digital
  pub phase : IsPhase sys k frame p.time p.timed p.tip
  pub next_is : next ≡ sys.next_time k.digital
  pub t_is : t ≡ l.until sys (state_of k.digital p)
  pub tip : CanStep sys frame p.tip
  pub before : p.tip.t ≤ t
  pub order : max p.time p.tip.t < t
  pub step : IsStep (t - p.tip.t)
  pub short : t - p.tip.t ≤ p.tip.h
  pub some : 1 ≤ p.tries_left
  pub side : sys.trial frame p.tip (t - p.tip.t) ≡ l.side_at sys (state_of k.digital p)
  pub comes : next_of sys (held_of (digital_at sys k) p) ≡ h.sided (l.side_at sys (state_of k.digital p)) sys p.cycles_left (p.tries_left - 1) (state_of k.digital p)
  pub few : cycles + p.cycles_left ≤ run_budget

latest : (a b t : ℕ) → a < t → 1 ≤ t - b → max a b < t
latest a b t low far = omega arith

shorter : (tip h until t : ℕ) → nat_le (tip + h) until ≡ false → t ≡ until → t - tip ≤ h
shorter tip h until t e is =
    let past : until < tip + h = grind (arith, nat_tests) in
    omega arith

pub side_way : {D S K : Type 0} (sys : System) (part : S → ℕ) (state : K → KernelState) (m : Machine D S K) (next : Option ℕ) (t : ℕ) → SideBegins sys part state m next t → SideWay sys (state m.kernel) m.frame m.cycles m.place next t
side_way sys part state m next t g =
    let k = state m.kernel in
    let p = m.place in
    let d = k.digital in
    let q = state_of d p in
    let s = g.sound in
    let phase : IsPhase sys k m.frame p.time p.timed p.tip = subst (λ (x : Stage). StandsBy x sys k m.frame p) g.stage s.stands.stands in
    let few : m.cycles + (p.cycles_left + 0) ≤ run_budget = subst (λ (x : Stage). m.cycles + (p.cycles_left + pending x) ≤ run_budget) g.stage s.stands.few in
    let going : digital_at sys k ≡ d = digital_going sys k phase.goes.stage in
    let late : l.ends_in_time sys q ≡ false = subst (λ (y : Digital). l.ends_in_time sys (state_of y p) ≡ false) going g.late in
    let ready : IsReady (next_of sys (held_of d p)) = subst (λ (y : Digital). IsReady (next_of sys (held_of y p))) going g.ready in
    let sides : SidesNext sys d p = sides_next sys d p g.stage late ready in
    let next_is : next ≡ sys.next_time d = g.next_is phase.goes.stage in
    let t_is : t ≡ l.until sys q =
    g.t_is ∙ ap (λ (n : Option ℕ). l.until_of n m.options.stop) next_is ∙ ap (λ (o : Options). l.until_of (sys.next_time d) o.stop) s.options_are in
    let fits : IsStep (l.side_step sys q) = side_step_fits sys q s.allowed s.stands.fits.step phase.tip_before sides.apart late in
    let step : IsStep (t - p.tip.t) = subst (λ (u : ℕ). IsStep (u - p.tip.t)) (sym t_is) fits in
    let later : p.time < t = subst (λ (u : ℕ). p.time < u) (sym t_is) phase.later in
    let least = step.least in
    record {
      digital = going;
      phase = phase;
      next_is = next_is;
      t_is = t_is;
      tip = can_step sys part state m s;
      before = omega arith;
      order = latest p.time p.tip.t t later least;
      step = step;
      short = shorter p.tip.t p.tip.h (l.until sys q) t late t_is;
      some = sides.some;
      side =
          ap (λ (f : List Val). sys.trial f p.tip (t - p.tip.t)) phase.goes.frame_is
          ∙ ap (λ (u : ℕ). sys.trial (sys.frame d) p.tip (u - p.tip.t)) t_is;
      comes =
          subst (λ (y : Digital). next_of sys (held_of y p) ≡ h.sided (l.side_at sys q) sys p.cycles_left (p.tries_left - 1) q) (sym going) sides.next;
      few = omega arith;
    }

-- the outcome of a step that was refused
refused-is : (o : Result Landing Cause) (cause : Cause) → trials.Refused cause ≡ trial_answer o → o ≡ Err cause
refused-is (Ok s) cause e = cc
refused-is (Err c) cause e = cc

-- and of one that landed
pub record Lands (o : Result Landing Cause) (x : List ℤ) : Type 0 where
  pub landing : Landing
  pub is : o ≡ Ok landing
  pub point : x ≡ landing.x

pub landed_is : (o : Result Landing Cause) (err : ℕ) (x from : List ℤ) → trials.Good err ≡ trial_answer o → x ≡ trial_point from o → Lands o x
landed_is (Ok s) err x from e at = record { landing = s; is = refl; point = at }
landed_is (Err c) err x from e at = cc

none-more : (n : ℕ) → n ≡ 0 + n
none-more n = omega arith

half-least : (hmin first half : ℕ) → first ≡ hmin → false ≡ nat_lt half first → hmin ≤ half
half-least hmin first half is e = grind (arith, nat_tests)

half-most : (step h hmax : ℕ) → step ≤ h → h ≤ hmax → step / 2 ≤ hmax
half-most step h hmax low most = omega arith

-- one try less is left, and other values are at the later bound
abbrev pub counted_at : List ℤ → RunPlace → RunPlace
counted_at at_hi p = record p { tries_left = p.tries_left - 1; at_hi = at_hi }

-- a side step was refused
pub side_refused : {D S K : Type 0} (sys : System) (part count : S → ℕ) (state : K → KernelState) (m : Machine D S K) (next : Option ℕ) (t : ℕ) (s' : S) (x : List ℤ) (cause : Cause) (small : Bool) (P : RunPlace) (said : Moved) (out : List Event)
    → SideBegins sys part state m next t
    → part s' ≡ 0 → count s' ≡ more (count m.stepper) → length x ≡ sys.unknowns
    → trials.Refused cause ≡ trial_answer (sys.trial m.frame m.place.tip (t - m.place.tip.t))
    → small ≡ nat_lt ((t - m.place.tip.t) / 2) m.options.hmin
    → P ≡ side_left small t (t - m.place.tip.t) cause.code (record m.place { tries_left = m.place.tries_left - 1 })
    → said ≡ says.Ask (ask_of (not small))
    → Performs sys part count state (count m.stepper) (record m { stepper = s'; x = x; place = P }) out out (Ok said) (worked sys (moment_of sys state m))
side_refused {D = D} {S = S} {K = K} sys part count state m next t s' x cause small P said out g part_is made fits refused smaller left saying =
    let k = state m.kernel in
    let p = m.place in
    let d = k.digital in
    let q = state_of d p in
    let s = g.sound in
    let way : SideWay sys k m.frame m.cycles p next t = side_way sys part state m next t g in
    let side : l.side_at sys q ≡ Err cause = sym way.side ∙ refused-is (sys.trial m.frame p.tip (t - p.tip.t)) cause refused in
    let is_small : small ≡ l.is_too_small sys q =
    smaller ∙ ap (λ (u : ℕ). nat_lt ((u - p.tip.t) / 2) m.options.hmin) way.t_is ∙ ap (λ (o : Options). nat_lt (l.side_step sys q / 2) o.hmin) s.options_are in
    let next_is : next_of sys (held_of (digital_at sys k) p) ≡ h.refused_by small sys p.cycles_left (p.tries_left - 1) q cause =
    way.comes
    ∙ ap (λ (o : Result Landing Cause). h.sided o sys p.cycles_left (p.tries_left - 1) q) side
    ∙ ap (λ (b : Bool). h.refused_by b sys p.cycles_left (p.tries_left - 1) q cause) (sym is_small) in
    refused-by sys part count state m next t s' x cause small P said out g way part_is made fits next_is smaller left saying
  where
    refused-by : {D S K : Type 0} (sys : System) (part count : S → ℕ) (state : K → KernelState) (m : Machine D S K) (next : Option ℕ) (t : ℕ) (s' : S) (x : List ℤ) (cause : Cause) (small : Bool) (P : RunPlace) (said : Moved) (out : List Event)
        → SideBegins sys part state m next t → SideWay sys (state m.kernel) m.frame m.cycles m.place next t
        → part s' ≡ 0 → count s' ≡ more (count m.stepper) → length x ≡ sys.unknowns
        → next_of sys (held_of (digital_at sys (state m.kernel)) m.place) ≡ h.refused_by small sys m.place.cycles_left (m.place.tries_left - 1) (state_of (state m.kernel).digital m.place) cause
        → small ≡ nat_lt ((t - m.place.tip.t) / 2) m.options.hmin
        → P ≡ side_left small t (t - m.place.tip.t) cause.code (record m.place { tries_left = m.place.tries_left - 1 })
        → said ≡ says.Ask (ask_of (not small))
        → Performs sys part count state (count m.stepper) (record m { stepper = s'; x = x; place = P }) out out (Ok said) (worked sys (moment_of sys state m))
    refused-by {D = D} {S = S} {K = K} sys part count state m next t s' x cause true P said out g way part_is made fits next_is smaller left saying =
        let k = state m.kernel in
        let p = m.place in
        let q = state_of k.digital p in
        let s = g.sound in
        let few = way.few in
        let m' : Machine D S K = record m { stepper = s'; x = x; place = P } in
        work_done sys part count state m m' out out q kinds.Side [] false (l.standing sys q) (h.ended (l.step_too_small (l.until sys q) cause) p.cycles_left (p.tries_left - 1) q) said
        next_is
        (ap (λ (y : RunPlace). h.rest_of sys (held_of (digital_at sys k) y)) left
        ∙ ap (λ (u : ℕ). h.rest_of sys (held_of (digital_at sys k) (too_small u cause.code p))) way.t_is)
        g.awaits
        (ap (λ (y : RunPlace). y.tip) left)
        way.phase.goes.frame_is
        refl
        (none-more m.cycles)
        (still_sound sys part state m m' s part_is refl
        (record { asked = s.room.asked; frame = s.room.frame; made = s.room.made; x = fits; branches = s.room.branches; new_frame = s.room.new_frame })
        s.frame_fits
        (subst (λ (y : RunPlace). Stands sys k m.frame m.cycles y) (sym left)
        (record { fits = s.stands.fits; stands = tt; few = omega arith })))
        made
        saying
        (sym (append-nil out))
    refused-by {D = D} {S = S} {K = K} sys part count state m next t s' x cause false P said out g way part_is made fits next_is smaller left saying =
        let k = state m.kernel in
        let p = m.place in
        let q = state_of k.digital p in
        let s = g.sound in
        let few = way.few in
        let m' : Machine D S K = record m { stepper = s'; x = x; place = P } in
        let halved : halved_left (t - p.tip.t) (record p { tries_left = p.tries_left - 1 }) ≡ halved_left (l.side_step sys q) (record p { tries_left = p.tries_left - 1 }) =
        ap (λ (u : ℕ). halved_left (u - p.tip.t) (record p { tries_left = p.tries_left - 1 })) way.t_is in
        let least : sys.options.hmin ≤ (t - p.tip.t) / 2 = half-least sys.options.hmin m.options.hmin ((t - p.tip.t) / 2) (ap (λ (o : Options). o.hmin) s.options_are) smaller in
        work_done sys part count state m m' out out q kinds.Side [] true (l.standing sys (l.side_refused sys q)) (h.at h.InPhase p.cycles_left (p.tries_left - 1) (l.side_refused sys q)) said
        next_is
        (ap (λ (y : Digital). h.rest_of sys (held_of y P)) way.digital
        ∙ ap (λ (y : RunPlace). h.rest_of sys (held_of k.digital y)) (left ∙ halved)
        ∙ ap (λ (st : Stage). h.rest_of sys (h.at (stage_of st p.search p.at_hi) p.cycles_left (p.tries_left - 1) (l.side_refused sys q))) g.stage)
        g.awaits
        (ap (λ (y : RunPlace). y.tip) (left ∙ halved))
        way.phase.goes.frame_is
        refl
        (none-more m.cycles)
        (still_sound sys part state m m' s part_is refl
        (record { asked = s.room.asked; frame = s.room.frame; made = s.room.made; x = fits; branches = s.room.branches; new_frame = s.room.new_frame })
        s.frame_fits
        (subst (λ (y : RunPlace). Stands sys k m.frame m.cycles y) (sym left)
        (record {
          fits =
              record {
                time_most = s.stands.fits.time_most;
                point_fits = s.stands.fits.point_fits;
                tip_fits = s.stands.fits.tip_fits;
                tip_most = s.stands.fits.tip_most;
                step = record { least = least; most = half-most (t - p.tip.t) p.tip.h sys.options.hmax way.short s.stands.fits.step.most };
                at_hi_fits = s.stands.fits.at_hi_fits;
                solved_fits = s.stands.fits.solved_fits;
                elements = s.stands.fits.elements;
                branches_fit = s.stands.fits.branches_fit;
              };
          stands =
              subst (λ (y : Stage). StandsBy y sys k m.frame (halved_left (t - p.tip.t) (record p { tries_left = p.tries_left - 1 }))) (sym g.stage)
              (record { goes = way.phase.goes; later = way.phase.later; tip_before = way.phase.tip_before });
          few = subst (λ (y : Stage). m.cycles + (p.cycles_left + pending y) ≤ run_budget) (sym g.stage) (omega arith);
        })))
        made
        saying
        (sym (append-nil out))

-- what was done where a side step landed
pub record SideLands {D S K : Type 0} (sys : System) (part count : S → ℕ) (state : K → KernelState) (m : Machine D S K) (next : Option ℕ) (t : ℕ) (s' : S) (bs : List ℕ) (x at_hi : List ℤ) (is_chosen crosses : Bool) : Type 0 where
  pub begins : SideBegins sys part state m next t
  pub part_is : part s' ≡ 0
  pub made : count s' ≡ more (count m.stepper)
  pub branches_fit : length bs ≡ sys.choices
  pub x_fits : length x ≡ sys.unknowns
  pub at_hi_fits : length at_hi ≡ sys.unknowns
  pub lands : Lands (sys.trial m.frame m.place.tip (t - m.place.tip.t)) at_hi
  pub chosen : chosen_of is_chosen bs (olds_of m.place) ≡ l.branches_or (olds_of m.place) (sys.choose m.frame m.place.tip.t Timed m.place.tip.x)
  pub crossing : (state m.kernel).stage ≡ Going → crosses ≡ differs at_hi (sys.thresholds (state m.kernel).digital)

-- the events of one that landed, and where it leads
abbrev events_by : Bool → System → RunState → Landing → List Event
events_by true sys q s = l.bound_events sys q (l.side_bounds sys q s)
events_by false sys q s = l.point_events (l.until sys q) 0 s.x (l.step_branches sys q) q.branches

abbrev standing_by : Bool → System → RunState → Landing → Standing
standing_by true sys q s = l.standing sys q
standing_by false sys q s = l.standing sys (l.side_arrived sys q s)

abbrev held_by : Bool → System → ℕ → ℕ → RunState → Landing → Held
held_by true sys c n q s = h.at (h.InSearch (l.side_bounds sys q s)) c n q
held_by false sys c n q s = h.arrived sys c n (l.side_arrived sys q s)

accepted-is : (crosses : Bool) (sys : System) (c n : ℕ) (q : RunState) (s : Landing) → h.accepted_by crosses sys c n q s ≡ Makes q (Worked kinds.Side (events_by crosses sys q s) false (standing_by crosses sys q s)) (held_by crosses sys c n q s)
accepted-is true sys c n q s = refl
accepted-is false sys c n q s = refl

-- what comes next where it landed
lands-next : {D S K : Type 0} (sys : System) (part count : S → ℕ) (state : K → KernelState) (m : Machine D S K) (next : Option ℕ) (t : ℕ) (s' : S) (bs : List ℕ) (x at_hi : List ℤ) (is_chosen crosses : Bool) → (g : SideLands sys part count state m next t s' bs x at_hi is_chosen crosses) → SideWay sys (state m.kernel) m.frame m.cycles m.place next t →
    next_of sys (held_of (digital_at sys (state m.kernel)) m.place) ≡ Makes (state_of (state m.kernel).digital m.place) (Worked kinds.Side (events_by crosses sys (state_of (state m.kernel).digital m.place) g.lands.landing) false (standing_by crosses sys (state_of (state m.kernel).digital m.place) g.lands.landing)) (held_by crosses sys m.place.cycles_left (m.place.tries_left - 1) (state_of (state m.kernel).digital m.place) g.lands.landing)
lands-next sys part count state m next t s' bs x at_hi is_chosen crosses g way =
    let p = m.place in
    let d = (state m.kernel).digital in
    let q = state_of d p in
    let s = g.lands.landing in
    way.comes
    ∙ ap (λ (o : Result Landing Cause). h.sided o sys p.cycles_left (p.tries_left - 1) q) (sym way.side ∙ g.lands.is)
    ∙ ap (λ (b : Bool). h.accepted_by b sys p.cycles_left (p.tries_left - 1) q s) (ap (λ (y : List ℤ). differs y (sys.thresholds d)) (sym g.lands.point) ∙ sym (g.crossing way.phase.goes.stage))
    ∙ accepted-is crosses sys p.cycles_left (p.tries_left - 1) q s

-- the events are those that were given
lands-events : (crosses : Bool) (sys : System) (d : Digital) (p : RunPlace) (t xres : ℕ) (is_chosen : Bool) (bs : List ℕ) (at_hi : List ℤ) (s : Landing) → t ≡ l.until sys (state_of d p) → xres ≡ sys.options.xres → at_hi ≡ s.x → chosen_of is_chosen bs (olds_of p) ≡ l.step_branches sys (state_of d p) →
    landed_events crosses t xres is_chosen bs (counted_at at_hi p) ≡ events_by crosses sys (state_of d p) s
lands-events true sys d p t xres is_chosen bs at_hi s t_is xres_is point branches =
    let q = state_of d p in
    let low = max p.time p.tip.t in
    ap (λ (u : ℕ). landed_events true u xres is_chosen bs (counted_at at_hi p)) t_is
    ∙ ap (λ (z : ℕ). landed_events true (l.until sys q) z is_chosen bs (counted_at at_hi p)) xres_is
    ∙ ap (λ (bs' : List ℕ). cond (is_near sys.options.xres (l.crossing_bounds q (l.until sys q) at_hi)) (l.point_events (l.until sys q) 0 at_hi bs' (olds_of p)) []) branches
    ∙ ap (λ (y : List ℤ). l.bound_events sys q (l.crossing_bounds q (l.until sys q) y)) point
lands-events false sys d p t xres is_chosen bs at_hi s t_is xres_is point branches =
    let q = state_of d p in
    ap (λ (u : ℕ). landed_events false u xres is_chosen bs (counted_at at_hi p)) t_is
    ∙ ap (λ (bs' : List ℕ). l.point_events (l.until sys q) 0 at_hi bs' (olds_of p)) branches
    ∙ ap (λ (y : List ℤ). l.point_events (l.until sys q) 0 y (l.step_branches sys q) (olds_of p)) point

chosen-keeps : (is_chosen : Bool) (bs : List ℕ) (p : RunPlace) → ((c.chosen_at is_chosen bs p).cycles_left ≡ p.cycles_left) × ((c.chosen_at is_chosen bs p).tries_left ≡ p.tries_left) × ((c.chosen_at is_chosen bs p).tip ≡ p.tip)
chosen-keeps true bs p = (refl, refl, refl)
chosen-keeps false bs p = (refl, refl, refl)

-- and so is what is held
lands-held : (crosses : Bool) (sys : System) (d : Digital) (p : RunPlace) (next : Option ℕ) (t xres : ℕ) (is_chosen : Bool) (bs : List ℕ) (at_hi : List ℤ) (s : Landing) → next ≡ sys.next_time d → t ≡ l.until sys (state_of d p) → at_hi ≡ s.x → chosen_of is_chosen bs (olds_of p) ≡ l.step_branches sys (state_of d p) →
    held_of d (landed_left crosses t xres next is_chosen bs (counted_at at_hi p)) ≡ held_by crosses sys p.cycles_left (p.tries_left - 1) (state_of d p) s
lands-held true sys d p next t xres is_chosen bs at_hi s next_is t_is point branches =
    let q = state_of d p in
    ap (λ (u : ℕ). h.at (h.InSearch (l.crossing_bounds q u at_hi)) p.cycles_left (p.tries_left - 1) q) t_is
    ∙ ap (λ (y : List ℤ). h.at (h.InSearch (l.crossing_bounds q (l.until sys q) y)) p.cycles_left (p.tries_left - 1) q) point
lands-held false sys d p next t xres is_chosen bs at_hi s next_is t_is point branches =
    let q = state_of d p in
    let P : RunPlace = c.stepped_at t is_chosen bs (counted_at at_hi p) in
    let keeps = chosen-keeps is_chosen bs (record (counted_at at_hi p) { time = t; delta = 0; point = at_hi; at_hi = p.point }) in
    ap (λ (n : Option ℕ). held_of d (c.arrived_at n P)) next_is
    ∙ arrived_is sys d P
    ∙ ap (λ (n : ℕ). h.arrived sys n P.tries_left (state_of d P)) keeps.0
    ∙ ap (λ (n : ℕ). h.arrived sys p.cycles_left n (state_of d P)) keeps.1
    ∙ ap (λ (y : RunState). h.arrived sys p.cycles_left (p.tries_left - 1) y) (stepped_is sys d t is_chosen bs (counted_at at_hi p) branches)
    ∙ ap (λ (u : ℕ). h.arrived sys p.cycles_left (p.tries_left - 1) (l.stepped_to sys q u at_hi)) t_is
    ∙ ap (λ (y : List ℤ). h.arrived sys p.cycles_left (p.tries_left - 1) (l.stepped_to sys q (l.until sys q) y)) point

lands-tip : (crosses : Bool) (sys : System) (d : Digital) (p : RunPlace) (next : Option ℕ) (t xres : ℕ) (is_chosen : Bool) (bs : List ℕ) (at_hi : List ℤ) (s : Landing) → (landed_left crosses t xres next is_chosen bs (counted_at at_hi p)).tip ≡ (standing_by crosses sys (state_of d p) s).tip
lands-tip true sys d p next t xres is_chosen bs at_hi s = refl
lands-tip false sys d p next t xres is_chosen bs at_hi s =
    let keeps = chosen-keeps is_chosen bs (record (counted_at at_hi p) { time = t; delta = 0; point = at_hi; at_hi = p.point }) in
    arrived_tip next (c.stepped_at t is_chosen bs (counted_at at_hi p)) ∙ keeps.2

lands-frame : (crosses : Bool) (sys : System) (q : RunState) (s : Landing) → (standing_by crosses sys q s).frame ≡ sys.frame q.digital
lands-frame true sys q s = refl
lands-frame false sys q s = refl

lands-stands : (crosses : Bool) (sys : System) (k : KernelState) (frame : List Val) (cycles : ℕ) (p : RunPlace) (next : Option ℕ) (t xres : ℕ) (is_chosen : Bool) (bs : List ℕ) (at_hi : List ℤ) → PlaceFits sys p → SideWay sys k frame cycles p next t → xres ≡ sys.options.xres → length bs ≡ sys.choices → length at_hi ≡ sys.unknowns →
    Stands sys k frame cycles (landed_left crosses t xres next is_chosen bs (counted_at at_hi p))
lands-stands true sys k frame cycles p next t xres is_chosen bs at_hi f way xres_is room fits =
    let few = way.few in
    let order = way.order in
    let until = way.t_is in
    record {
      fits = record { time_most = f.time_most; point_fits = f.point_fits; tip_fits = f.tip_fits; tip_most = f.tip_most; step = f.step; at_hi_fits = fits; solved_fits = f.solved_fits; elements = f.elements; branches_fit = f.branches_fit };
      stands = record { goes = way.phase.goes; distance = xres_is; tip_before = omega arith; time_before = omega arith; order = order; until = omega arith; step = way.step };
      few = omega arith;
    }
lands-stands false sys k frame cycles p next t xres is_chosen bs at_hi f way xres_is room fits =
    let few = way.few in
    let order = way.order in
    let until = way.t_is in
    subst (λ (n : Option ℕ). Stands sys k frame cycles (c.arrived_at n (c.stepped_at t is_chosen bs (counted_at at_hi p)))) (sym way.next_is)
    (stepped_arrives sys k frame cycles t is_chosen bs (counted_at at_hi p)
    (record { time_most = f.time_most; point_fits = f.point_fits; tip_fits = f.tip_fits; tip_most = f.tip_most; step = f.step; at_hi_fits = fits; solved_fits = f.solved_fits; elements = f.elements; branches_fit = f.branches_fit })
    room way.phase.goes (omega arith) (omega arith) (omega arith) few)

-- a side step landed
pub side_landed : {D S K : Type 0} (sys : System) (part count : S → ℕ) (state : K → KernelState) (m : Machine D S K) (next : Option ℕ) (t : ℕ) (s' : S) (bs : List ℕ) (x at_hi : List ℤ) (is_chosen crosses : Bool) (P : RunPlace) (out out' : List Event)
    → SideLands sys part count state m next t s' bs x at_hi is_chosen crosses
    → P ≡ landed_left crosses t m.options.xres next is_chosen bs (counted_at at_hi m.place)
    → out' ≡ out ++ landed_events crosses t m.options.xres is_chosen bs (counted_at at_hi m.place)
    → Performs sys part count state (count m.stepper) (record m { stepper = s'; branches = bs; x = x; place = P }) out out' (Ok (says.Ask asks.None)) (worked sys (moment_of sys state m))
side_landed {D = D} {S = S} {K = K} sys part count state m next t s' bs x at_hi is_chosen crosses P out out' g left gave =
    let k = state m.kernel in
    let p = m.place in
    let d = k.digital in
    let q = state_of d p in
    let s = g.begins.sound in
    let o = g.lands.landing in
    let way : SideWay sys k m.frame m.cycles p next t = side_way sys part state m next t g.begins in
    let branches : chosen_of is_chosen bs (olds_of p) ≡ l.step_branches sys q =
    g.chosen ∙ ap (λ (f : List Val). l.branches_or (olds_of p) (sys.choose f p.tip.t Timed p.tip.x)) way.phase.goes.frame_is in
    let xres : m.options.xres ≡ sys.options.xres = ap (λ (y : Options). y.xres) s.options_are in
    let held : held_of (digital_at sys k) P ≡ held_by crosses sys p.cycles_left (p.tries_left - 1) q o =
    ap (λ (y : Digital). held_of y P) way.digital
    ∙ ap (λ (y : RunPlace). held_of d y) left
    ∙ lands-held crosses sys d p next t m.options.xres is_chosen bs at_hi o way.next_is way.t_is g.lands.point branches in
    let m' : Machine D S K = record m { stepper = s'; branches = bs; x = x; place = P } in
    work_done sys part count state m m' out out' q kinds.Side (events_by crosses sys q o) false (standing_by crosses sys q o) (held_by crosses sys p.cycles_left (p.tries_left - 1) q o) (says.Ask asks.None)
    (lands-next sys part count state m next t s' bs x at_hi is_chosen crosses g way)
    (ap (λ (y : Held). h.rest_of sys y) held)
    g.begins.awaits
    (ap (λ (y : RunPlace). y.tip) left ∙ lands-tip crosses sys d p next t m.options.xres is_chosen bs at_hi o)
    (way.phase.goes.frame_is ∙ sym (lands-frame crosses sys q o))
    refl
    (none-more m.cycles)
    (still_sound sys part state m m' s g.part_is refl
    (record { asked = s.room.asked; frame = s.room.frame; made = s.room.made; x = g.x_fits; branches = g.branches_fit; new_frame = s.room.new_frame })
    s.frame_fits
    (subst (λ (y : RunPlace). Stands sys k m.frame m.cycles y) (sym left)
    (lands-stands crosses sys k m.frame m.cycles p next t m.options.xres is_chosen bs at_hi s.stands.fits way xres g.branches_fit g.at_hi_fits)))
    g.made
    refl
    (gave ∙ ap (λ (es : List Event). out ++ es) (lands-events crosses sys d p t m.options.xres is_chosen bs at_hi o way.t_is xres g.lands.point branches))

-- no memory was found for its point
pub side_lost : {D S K : Type 0} (sys : System) (part count : S → ℕ) (state : K → KernelState) (m m' : Machine D S K) (next : Option ℕ) (t : ℕ) (s' : S) (bs : List ℕ) (x at_hi : List ℤ) (is_chosen crosses : Bool) (out out' : List Event) (res : Result Moved AllocError)
    → IsErr res → SideLands sys part count state m next t s' bs x at_hi is_chosen crosses
    → AddsFront out out' (landed_events crosses t m.options.xres is_chosen bs (counted_at at_hi m.place))
    → Performs sys part count state (count m.stepper) m' out out' res (worked sys (moment_of sys state m))
side_lost sys part count state m m' next t s' bs x at_hi is_chosen crosses out out' res lost g front =
    let k = state m.kernel in
    let p = m.place in
    let d = k.digital in
    let q = state_of d p in
    let o = g.lands.landing in
    let way : SideWay sys k m.frame m.cycles p next t = side_way sys part state m next t g.begins in
    let branches : chosen_of is_chosen bs (olds_of p) ≡ l.step_branches sys q =
    g.chosen ∙ ap (λ (f : List Val). l.branches_or (olds_of p) (sys.choose f p.tip.t Timed p.tip.x)) way.phase.goes.frame_is in
    work_lost sys part count state (count m.stepper) m m' out out' q kinds.Side (events_by crosses sys q o) false (standing_by crosses sys q o) (held_by crosses sys p.cycles_left (p.tries_left - 1) q o) res lost
    (lands-next sys part count state m next t s' bs x at_hi is_chosen crosses g way)
    (subst (λ (es : List Event). AddsFront out out' es) (lands-events crosses sys d p t m.options.xres is_chosen bs at_hi o way.t_is (ap (λ (y : Options). y.xres) g.begins.sound.options_are) g.lands.point branches) front)
