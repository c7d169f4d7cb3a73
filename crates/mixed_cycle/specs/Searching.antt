-- A probe of a crossing.
use Rattle.std.specs.Prelude.{◌≡◌, ℕ, zero, suc, ◌+◌, ◌-◌, ◌≤◌, ◌<◌, Bool, true, false, cond, ℤ, List, [], ◌++◌, length, IsErr, Result, Ok, Err, nat_le, refl}
use Rattle.std.specs.declared.alloc.AllocError.{AllocError}
use Rattle.std.proofs.Common.{ap, sym, subst, ◌∙◌, arith}
use Rattle.std.proofs.lemmas.Bool.Decides.{leb_tells}
use Rattle.ams_value.specs.declared.val.Val.{Val}
use Rattle.step_data.specs.declared.breaks.ThresholdState.{ThresholdState}
use Rattle.step_data.specs.declared.event.Event.{Event}
use Rattle.step_data.specs.declared.outcome.Cause.{Cause}
use Rattle.step_data.specs.declared.outcome.ChooseKind.TheVariants.{Timed}
use Rattle.step_model.specs.declared.kernel_stage.KernelStage.TheVariants.{Going}
use Rattle.step_model.specs.Answers.{IsStep, CanStep}
use Rattle.step_model.specs.Counts.{more}
use Rattle.step_model.specs.Kernel.{KernelState, AddsFront}
use Rattle.step_model.specs.System.{System, Digital, Landing}
use Rattle.lockstep_model.specs.Crossing.{Bounds, is_near, middle, narrowed, differs, lower_half, upper_half}
use Rattle.lockstep_model.specs.RunStates.{RunState}
use Rattle.lockstep_model.specs.Lockstep as l
use Rattle.lockstep_model.specs.StepSizes.{probe_fits}
use Rattle.lockstep_model.specs.Works.{Worked}
use Rattle.lockstep_model.specs.Works as kinds
use Rattle.lockstep_model.specs.declared.moves.Moved.{Moved}
use Rattle.lockstep_model.specs.declared.moves.Moved.TheVariants as says
use Rattle.lockstep_model.specs.declared.moves.Ask.TheVariants as asks
use Rattle.above_events.specs.Locating.{Span, with_point}
use Rattle.cycle_machine.specs.Held as h
use Rattle.cycle_machine.specs.Held.{Held, Step, Makes, next_of, next_by}
use Rattle.cycle_machine.specs.Ready.{IsReady}
use Rattle.run_place.specs.declared.place.RunPlace.{RunPlace}
use Rattle.run_place.specs.declared.place.Stage.{Stage}
use Rattle.run_place.specs.declared.place.Stage.TheVariants as stages
use Rattle.run_place.specs.Places.{stage_of, state_of, held_of}
use Rattle.run_place.specs.Giving.{chosen_of, olds_of, bound_at}
use Rattle.mixed_cycle.specs.declared.machine.Awaited.TheVariants.{Ready}
use Rattle.mixed_cycle.specs.declared.machine.Machine.{Machine}
use Rattle.mixed_cycle.specs.Standing.{IsSearch, StandsBy, Stands, pending, digital_at}
use Rattle.mixed_cycle.specs.Deciding.{digital_going}
use Rattle.mixed_cycle.specs.Machine.{Sound, moment_of}
use Rattle.mixed_cycle.specs.Making.{Performs, worked, work_done, work_lost, still_sound}
use Rattle.run_place.specs.Budgets.{run_budget}

-- where a search is ready, its bounds are far and a try is left
pub record CanProbe (xres : ℕ) (b : Bounds) (tries : ℕ) : Type 0 where
  pub far : is_near xres b ≡ false
  pub some : 1 ≤ tries

by-search : (near : Bool) (n : ℕ) (sys : System) (c : ℕ) (q : RunState) (b : Bounds) → IsReady (h.search_by near sys c n q b) →
    (near ≡ false) × (1 ≤ n) × (h.search_by near sys c n q b ≡ Makes q (Worked kinds.Probe (l.bound_events sys q (l.probed sys q b)) false (l.standing sys q)) (h.at (h.InSearch (l.probed sys q b)) c (n - 1) q))
by-search true n sys c q b r = absurd r
by-search false zero sys c q b r = absurd r
by-search false (suc n) sys c q b r =
    (refl, omega arith, ap (λ k. Makes q (Worked kinds.Probe (l.bound_events sys q (l.probed sys q b)) false (l.standing sys q)) (h.at (h.InSearch (l.probed sys q b)) c k q)) (less n))
  where
    less : (n : ℕ) → n ≡ suc n - 1
    less n = omega arith

at-stage : (sys : System) (d : Digital) (p : RunPlace) → p.stage ≡ stages.InSearch → next_of sys (held_of d p) ≡ h.search_by (is_near sys.options.xres (with_point p.search p.at_hi)) sys p.cycles_left p.tries_left (state_of d p) (with_point p.search p.at_hi)
at-stage sys d p e = ap (λ (s : Stage). next_by (stage_of s p.search p.at_hi) sys p.cycles_left p.tries_left (state_of d p)) e

pub can_probe : (sys : System) (d : Digital) (p : RunPlace) → p.stage ≡ stages.InSearch → p.search.xres ≡ sys.options.xres → IsReady (next_of sys (held_of d p)) → CanProbe p.search.xres (with_point p.search p.at_hi) p.tries_left
can_probe sys d p e fine r =
    let b = with_point p.search p.at_hi in
    let by = by-search (is_near sys.options.xres b) p.tries_left sys p.cycles_left (state_of d p) b (subst IsReady (at-stage sys d p e) r) in
    record { far = ap (λ (x : ℕ). is_near x b) fine ∙ by.0; some = by.1 }

probe-next : (sys : System) (d : Digital) (p : RunPlace) → p.stage ≡ stages.InSearch → IsReady (next_of sys (held_of d p)) →
    next_of sys (held_of d p) ≡ Makes (state_of d p) (Worked kinds.Probe (l.bound_events sys (state_of d p) (l.probed sys (state_of d p) (with_point p.search p.at_hi))) false (l.standing sys (state_of d p))) (h.at (h.InSearch (l.probed sys (state_of d p) (with_point p.search p.at_hi))) p.cycles_left (p.tries_left - 1) (state_of d p))
probe-next sys d p e r =
    let b = with_point p.search p.at_hi in
    at-stage sys d p e ∙ (by-search (is_near sys.options.xres b) p.tries_left sys p.cycles_left (state_of d p) b (subst IsReady (at-stage sys d p e) r)).2

-- the bounds stay in order, and past the tip
pub record Ordered (tip time until : ℕ) (b : Bounds) : Type 0 where
  pub tip_before : tip ≤ b.lo
  pub time_before : time ≤ b.lo
  pub order : b.lo < b.hi
  pub until_after : b.hi ≤ until
  pub step : IsStep (b.hi - tip)

far-apart : (xres : ℕ) (b : Bounds) → 1 ≤ xres → is_near xres b ≡ false → 2 ≤ b.hi - b.lo
far-apart xres b fine e =
    let gap : xres < b.hi - b.lo = grind (arith, leb_tells) in
    omega arith

lower : (xres tip time until : ℕ) (b : Bounds) (x : List ℤ) → 2 ≤ b.hi - b.lo → Ordered tip time until b → Ordered tip time until (lower_half b x)
lower xres tip time until b x gap o =
    let a1 = o.tip_before in
    let a2 = o.time_before in
    let a3 = o.order in
    let a4 = o.until_after in
    let a5 = o.step.most in
    record { tip_before = a1; time_before = a2; order = omega arith; until_after = omega arith; step = record { least = omega arith; most = omega arith } }

upper : (xres tip time until : ℕ) (b : Bounds) → 2 ≤ b.hi - b.lo → Ordered tip time until b → Ordered tip time until (upper_half b)
upper xres tip time until b gap o =
    let a1 = o.tip_before in
    let a2 = o.time_before in
    let a3 = o.order in
    record { tip_before = omega arith; time_before = omega arith; order = omega arith; until_after = o.until_after; step = o.step }

pub narrowed_ordered : (xres tip time until : ℕ) (th : List ThresholdState) (b : Bounds) (o : Result Landing Cause) → 1 ≤ xres → is_near xres b ≡ false → Ordered tip time until b → Ordered tip time until (narrowed th b o)
narrowed_ordered xres tip time until th b (Err c) fine far old = upper xres tip time until b (far-apart xres b fine far) old
narrowed_ordered xres tip time until th b (Ok s) fine far old =
    elim (differs s.x th) as (λ t. Ordered tip time until (cond t (lower_half b s.x) (upper_half b))) [
      | true ↦ lower xres tip time until b s.x (far-apart xres b fine far) old
      | false ↦ upper xres tip time until b (far-apart xres b fine far) old
    ]

-- a tip of a place that fits is one from which a step may be made
pub can_step : {D S K : Type 0} (sys : System) (part : S → ℕ) (state : K → KernelState) (m : Machine D S K) → Sound sys part state m → CanStep sys m.frame m.place.tip
can_step sys part state m s =
    let most = s.stands.fits.tip_most in
    let stop = s.allowed.stop_most in
    record { frame_fits = s.frame_fits; point_fits = s.stands.fits.tip_fits; within = omega arith }

-- what a probe asks of its caller
pub record ProbeNeeds (sys : System) (frame : List Val) (p : RunPlace) : Type 0 where
  pub far : is_near p.search.xres (with_point p.search p.at_hi) ≡ false
  pub gap : p.search.xres < p.search.hi - p.search.lo
  pub order : p.tip.t ≤ p.search.lo
  pub tip : CanStep sys frame p.tip
  pub step : IsStep (middle (with_point p.search p.at_hi) - p.tip.t)
  pub some : 1 ≤ p.tries_left

gap-between : (xres lo hi : ℕ) → nat_le (hi - lo) xres ≡ false → xres < hi - lo
gap-between xres lo hi e = grind (arith, leb_tells)

pub probe_needs : {D S K : Type 0} (sys : System) (part : S → ℕ) (state : K → KernelState) (m : Machine D S K) → Sound sys part state m → m.place.stage ≡ stages.InSearch → IsReady (next_of sys (held_of (digital_at sys (state m.kernel)) m.place)) → ProbeNeeds sys m.frame m.place
probe_needs sys part state m s e r =
    let k = state m.kernel in
    let p = m.place in
    let d = digital_at sys k in
    let b = with_point p.search p.at_hi in
    let search : IsSearch sys k m.frame p.time p.timed p.tip p.search = subst (λ (x : Stage). StandsBy x sys k m.frame p) e s.stands.stands in
    let can : CanProbe p.search.xres b p.tries_left = can_probe sys d p e search.distance r in
    record {
      far = can.far;
      gap = gap-between p.search.xres p.search.lo p.search.hi can.far;
      order = search.tip_before;
      tip = can_step sys part state m s;
      step = probe_fits sys (state_of d p) b s.allowed search.tip_before search.step (subst (λ (x : ℕ). is_near x b ≡ false) search.distance can.far);
      some = can.some;
    }

-- a probe was made
pub probe_done : {D S K : Type 0} (sys : System) (part count : S → ℕ) (state : K → KernelState) (m : Machine D S K) (s' : S) (bs : List ℕ) (x : List ℤ) (span : Span) (at_hi : List ℤ) (is_chosen : Bool) (P : RunPlace) (out out' : List Event)
    → Sound sys part state m → m.awaited ≡ Ready → m.place.stage ≡ stages.InSearch
    → IsReady (next_of sys (held_of (digital_at sys (state m.kernel)) m.place))
    → part s' ≡ 0 → count s' ≡ more (count m.stepper) → length bs ≡ sys.choices → length x ≡ sys.unknowns → length at_hi ≡ sys.unknowns
    → span.xres ≡ m.place.search.xres
    → ((state m.kernel).stage ≡ Going → with_point span at_hi ≡ narrowed (sys.thresholds (state m.kernel).digital) (with_point m.place.search m.place.at_hi) (sys.trial m.frame m.place.tip (middle (with_point m.place.search m.place.at_hi) - m.place.tip.t)))
    → chosen_of is_chosen bs (olds_of m.place) ≡ l.branches_or (olds_of m.place) (sys.choose m.frame m.place.tip.t Timed m.place.tip.x)
    → P ≡ record m.place { search = span; at_hi = at_hi; tries_left = m.place.tries_left - 1 }
    → out' ≡ out ++ bound_at (record m.place { search = span; at_hi = at_hi; tries_left = m.place.tries_left - 1 }) is_chosen bs
    → Performs sys part count state (count m.stepper) (record m { stepper = s'; branches = bs; x = x; place = P }) out out' (Ok (says.Ask asks.None)) (worked sys (moment_of sys state m))
probe_done {D = D} {S = S} {K = K} sys part count state m s' bs x span at_hi is_chosen P out out' s awaits e r part_is made pb px pa fine narrows chosen left gave =
    let k = state m.kernel in
    let p = m.place in
    let d = k.digital in
    let q = state_of d p in
    let b = with_point p.search p.at_hi in
    let search : IsSearch sys k m.frame p.time p.timed p.tip p.search = subst (λ (x : Stage). StandsBy x sys k m.frame p) e s.stands.stands in
    let few : m.cycles + (p.cycles_left + 0) ≤ run_budget = subst (λ (x : Stage). m.cycles + (p.cycles_left + pending x) ≤ run_budget) e s.stands.few in
    let going : digital_at sys k ≡ d = digital_going sys k search.goes.stage in
    let is : m.frame ≡ sys.frame d = search.goes.frame_is in
    let ready : IsReady (next_of sys (held_of d p)) = subst (λ (y : Digital). IsReady (next_of sys (held_of y p))) going r in
    let can : CanProbe p.search.xres b p.tries_left = can_probe sys d p e search.distance ready in
    let probed : with_point span at_hi ≡ l.probed sys q b =
    narrows search.goes.stage ∙ ap (λ (f : List Val). narrowed (sys.thresholds d) b (sys.trial f p.tip (middle b - p.tip.t))) is in
    let branches : chosen_of is_chosen bs (olds_of p) ≡ l.step_branches sys q =
    chosen ∙ ap (λ (f : List Val). l.branches_or (olds_of p) (sys.choose f p.tip.t Timed p.tip.x)) is in
    let next : next_of sys (held_of (digital_at sys k) p) ≡ Makes q (Worked kinds.Probe (l.bound_events sys q (l.probed sys q b)) false (l.standing sys q)) (h.at (h.InSearch (l.probed sys q b)) p.cycles_left (p.tries_left - 1) q) =
    subst (λ (y : Digital). next_of sys (held_of y p) ≡ Makes q (Worked kinds.Probe (l.bound_events sys q (l.probed sys q b)) false (l.standing sys q)) (h.at (h.InSearch (l.probed sys q b)) p.cycles_left (p.tries_left - 1) q)) (sym going) (probe-next sys d p e ready) in
    let P' : RunPlace = record p { search = span; at_hi = at_hi; tries_left = p.tries_left - 1 } in
    let held : held_of (digital_at sys k) P ≡ h.at (h.InSearch (l.probed sys q b)) p.cycles_left (p.tries_left - 1) q =
    ap (λ (y : Digital). held_of y P) going
    ∙ ap (λ (y : RunPlace). held_of d y) left
    ∙ ap (λ (st : Stage). h.at (stage_of st span at_hi) p.cycles_left (p.tries_left - 1) q) e
    ∙ ap (λ (y : Bounds). h.at (h.InSearch y) p.cycles_left (p.tries_left - 1) q) probed in
    let xres : span.xres ≡ sys.options.xres = fine ∙ search.distance in
    let least : 1 ≤ sys.options.xres = s.allowed.xres_least in
    let ordered : Ordered p.tip.t p.time (l.until sys q) (with_point span at_hi) =
    subst (λ (y : Bounds). Ordered p.tip.t p.time (l.until sys q) y) (sym probed)
    (narrowed_ordered p.search.xres p.tip.t p.time (l.until sys q) (sys.thresholds d) b (sys.trial (sys.frame d) p.tip (middle b - p.tip.t)) (subst (λ (y : ℕ). 1 ≤ y) (sym search.distance) least) can.far
    (record { tip_before = search.tip_before; time_before = search.time_before; order = search.order; until_after = search.until; step = search.step })) in
    let f = s.stands.fits in
    let m' : Machine D S K = record m { stepper = s'; branches = bs; x = x; place = P } in
    work_done sys part count state m m' out out' q kinds.Probe (l.bound_events sys q (l.probed sys q b)) false (l.standing sys q) (h.at (h.InSearch (l.probed sys q b)) p.cycles_left (p.tries_left - 1) q) (says.Ask asks.None)
    next
    (ap (λ (y : Held). h.rest_of sys y) held)
    awaits
    (ap (λ (y : RunPlace). y.tip) left)
    is
    refl
    (sym (none-more m.cycles))
    (still_sound sys part state m m' s part_is refl
    (record { asked = s.room.asked; frame = s.room.frame; made = s.room.made; x = px; branches = pb; new_frame = s.room.new_frame })
    s.frame_fits
    (subst (λ (y : RunPlace). Stands sys k m.frame m.cycles y) (sym left)
    (record {
      fits = record { time_most = f.time_most; point_fits = f.point_fits; tip_fits = f.tip_fits; tip_most = f.tip_most; step = f.step; at_hi_fits = pa; solved_fits = f.solved_fits; elements = f.elements; branches_fit = f.branches_fit };
      stands =
          subst (λ (x : Stage). StandsBy x sys k m.frame P') (sym e)
          (record { goes = search.goes; distance = xres; tip_before = ordered.tip_before; time_before = ordered.time_before; order = ordered.order; until = ordered.until_after; step = ordered.step });
      few = subst (λ (x : Stage). m.cycles + (p.cycles_left + pending x) ≤ run_budget) (sym e) few;
    })))
    made
    refl
    (gave ∙ ap (λ (z : ℕ). out ++ cond (is_near z (with_point span at_hi)) (l.point_events span.hi 0 at_hi (chosen_of is_chosen bs (olds_of p)) (olds_of p)) []) xres
    ∙ ap (λ (bs' : List ℕ). out ++ cond (is_near sys.options.xres (with_point span at_hi)) (l.point_events span.hi 0 at_hi bs' (olds_of p)) []) branches
    ∙ ap (λ (y : Bounds). out ++ l.bound_events sys q y) probed)
  where
    none-more : (n : ℕ) → 0 + n ≡ n
    none-more n = omega arith

-- no memory was found for the point of a probe
pub probe_lost : {D S K : Type 0} (sys : System) (part count : S → ℕ) (state : K → KernelState) (m m' : Machine D S K) (bs : List ℕ) (span : Span) (at_hi : List ℤ) (is_chosen : Bool) (out out' : List Event) (res : Result Moved AllocError)
    → IsErr res → Sound sys part state m → m.place.stage ≡ stages.InSearch
    → IsReady (next_of sys (held_of (digital_at sys (state m.kernel)) m.place))
    → span.xres ≡ m.place.search.xres
    → ((state m.kernel).stage ≡ Going → with_point span at_hi ≡ narrowed (sys.thresholds (state m.kernel).digital) (with_point m.place.search m.place.at_hi) (sys.trial m.frame m.place.tip (middle (with_point m.place.search m.place.at_hi) - m.place.tip.t)))
    → chosen_of is_chosen bs (olds_of m.place) ≡ l.branches_or (olds_of m.place) (sys.choose m.frame m.place.tip.t Timed m.place.tip.x)
    → AddsFront out out' (bound_at (record m.place { search = span; at_hi = at_hi; tries_left = m.place.tries_left - 1 }) is_chosen bs)
    → Performs sys part count state (count m.stepper) m' out out' res (worked sys (moment_of sys state m))
probe_lost {D = D} {S = S} {K = K} sys part count state m m' bs span at_hi is_chosen out out' res lost s e r fine narrows chosen front =
    let k = state m.kernel in
    let p = m.place in
    let d = k.digital in
    let q = state_of d p in
    let b = with_point p.search p.at_hi in
    let search : IsSearch sys k m.frame p.time p.timed p.tip p.search = subst (λ (x : Stage). StandsBy x sys k m.frame p) e s.stands.stands in
    let going : digital_at sys k ≡ d = digital_going sys k search.goes.stage in
    let is : m.frame ≡ sys.frame d = search.goes.frame_is in
    let ready : IsReady (next_of sys (held_of d p)) = subst (λ (y : Digital). IsReady (next_of sys (held_of y p))) going r in
    let probed : with_point span at_hi ≡ l.probed sys q b =
    narrows search.goes.stage ∙ ap (λ (f : List Val). narrowed (sys.thresholds d) b (sys.trial f p.tip (middle b - p.tip.t))) is in
    let branches : chosen_of is_chosen bs (olds_of p) ≡ l.step_branches sys q =
    chosen ∙ ap (λ (f : List Val). l.branches_or (olds_of p) (sys.choose f p.tip.t Timed p.tip.x)) is in
    let xres : span.xres ≡ sys.options.xres = fine ∙ search.distance in
    work_lost sys part count state (count m.stepper) m m' out out' q kinds.Probe (l.bound_events sys q (l.probed sys q b)) false (l.standing sys q) (h.at (h.InSearch (l.probed sys q b)) p.cycles_left (p.tries_left - 1) q) res lost
    (subst (λ (y : Digital). next_of sys (held_of y p) ≡ Makes q (Worked kinds.Probe (l.bound_events sys q (l.probed sys q b)) false (l.standing sys q)) (h.at (h.InSearch (l.probed sys q b)) p.cycles_left (p.tries_left - 1) q)) (sym going) (probe-next sys d p e ready))
    (subst (λ (es : List Event). AddsFront out out' es)
    (ap (λ (z : ℕ). cond (is_near z (with_point span at_hi)) (l.point_events span.hi 0 at_hi (chosen_of is_chosen bs (olds_of p)) (olds_of p)) []) xres
    ∙ ap (λ (bs' : List ℕ). cond (is_near sys.options.xres (with_point span at_hi)) (l.point_events span.hi 0 at_hi bs' (olds_of p)) []) branches
    ∙ ap (λ (y : Bounds). l.bound_events sys q y) probed)
    front)
