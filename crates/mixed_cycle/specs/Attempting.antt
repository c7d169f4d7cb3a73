-- An attempt is used, an own one or one that was found.
use Rattle.std.specs.Prelude.{◌≡◌, ℕ, ◌+◌, ◌-◌, ◌≤◌, ◌<◌, ◌&&◌, Bool, true, false, cond, nat_le, nat_lt, max, ℤ, List, [], length, Option, Some, None, refl}
use Rattle.std.proofs.Common.{ap, sym, subst, ◌∙◌, arith}
use Rattle.std.proofs.lemmas.Bool.Decides.{nat_tests}
use Rattle.ams_value.specs.declared.val.Val.{Val}
use Rattle.step_data.specs.declared.outcome.Kind.{Kind}
use Rattle.step_data.specs.declared.outcome.Kind.TheVariants.{Accepted, Rejected, Failed}
use Rattle.step_data.specs.declared.outcome.ChooseKind.TheVariants.{Timed}
use Rattle.step_data.specs.declared.tip.Attempt.{Attempt}
use Rattle.step_data.specs.declared.tip.Tip.{Tip}
use Rattle.step_data.specs.Steps.{next, next_by, is_accepted, is_failed, end_of}
use Rattle.step_model.specs.declared.kernel_stage.KernelStage.TheVariants.{Going}
use Rattle.step_model.specs.Answers.{IsStep}
use Rattle.step_model.specs.Kernel.{KernelState}
use Rattle.step_model.specs.StepLaws.{HasStep, AttemptFrom, attempt_from, allowed_step}
use Rattle.step_model.specs.System.{System, Digital, attempt}
use Rattle.lockstep_model.specs.Crossing.{differs, is_near}
use Rattle.lockstep_model.specs.RunStates.{RunState}
use Rattle.lockstep_model.specs.Lockstep as l
use Rattle.cycle_machine.specs.Held as h
use Rattle.cycle_machine.specs.Held.{Held, Makes, Step, next_of, rest_of}
use Rattle.cycle_machine.specs.Moves.{IsTried}
use Rattle.run_place.specs.declared.place.RunPlace.{RunPlace}
use Rattle.run_place.specs.declared.place.Stage.{Stage}
use Rattle.run_place.specs.declared.place.Stage.TheVariants as stages
use Rattle.run_place.specs.Places.{stage_of, state_of, held_of}
use Rattle.run_place.specs.Giving.{chosen_of, olds_of}
use Rattle.run_place.specs.Outcomes.{too_small}
use Rattle.mixed_cycle.specs.declared.machine.Awaited.TheVariants.{Looking}
use Rattle.mixed_cycle.specs.declared.machine.Machine.{Machine}
use Rattle.mixed_cycle.specs.Standing.{Fits, IsPhase, StandsBy, Stands, PlaceFits, pending, digital_at}
use Rattle.mixed_cycle.specs.Deciding.{digital_going}
use Rattle.mixed_cycle.specs.Machine.{Sound}
use Rattle.mixed_cycle.specs.Trying.{TriedNext, tried_ahead}
use Rattle.mixed_cycle.specs.Using.{gives_at, crosses_at, given_at, ended_by, passed_events, used_left, used_events}
use Rattle.run_place.specs.Budgets.{run_budget}

-- what is known where an attempt is used
pub record Uses {D S K : Type 0} (sys : System) (part : S → ℕ) (state : K → KernelState) (m : Machine D S K) (a : Attempt) (bs : List ℕ) (is_chosen gives crosses : Bool) : Type 0 where
  pub sound : Sound sys part state m
  pub awaits : m.awaited ≡ Looking
  pub ahead : IsTried (next_of sys (held_of (digital_at sys (state m.kernel)) m.place))
  pub made : a ≡ attempt sys m.frame m.place.tip
  pub room : length a.x ≡ sys.unknowns
  pub branches_fit : length bs ≡ sys.choices
  pub chosen : chosen_of is_chosen bs (olds_of m.place) ≡ l.branches_or (olds_of m.place) (sys.choose m.frame m.place.tip.t Timed m.place.tip.x)
  pub gives_is : gives ≡ gives_at m.place.time a
  pub crosses_is : (state m.kernel).stage ≡ Going → crosses ≡ crosses_at gives a (sys.thresholds (state m.kernel).digital)

-- what is true of it before it is used
pub record Attempts (sys : System) (k : KernelState) (frame : List Val) (cycles : ℕ) (p : RunPlace) (a : Attempt) : Type 0 where
  pub digital : digital_at sys k ≡ k.digital
  pub phase : IsPhase sys k frame p.time p.timed p.tip
  pub tried : TriedNext sys k.digital p
  pub made : a ≡ l.attempt_at sys (state_of k.digital p)
  pub end_is : a.end ≡ p.tip.t + p.tip.h
  pub behind : HasStep sys.options (next p.tip a).h
  pub until : a.end ≤ l.until sys (state_of k.digital p)
  pub step : IsStep p.tip.h
  pub few : cycles + p.cycles_left ≤ run_budget

in-time : (e until : ℕ) → nat_le e until ≡ true → e ≤ until
in-time e until is = grind (arith, nat_tests)

pub attempts : {D S K : Type 0} (sys : System) (part : S → ℕ) (state : K → KernelState) (m : Machine D S K) (a : Attempt) → Sound sys part state m → IsTried (next_of sys (held_of (digital_at sys (state m.kernel)) m.place)) → a ≡ attempt sys m.frame m.place.tip → Attempts sys (state m.kernel) m.frame m.cycles m.place a
attempts sys part state m a s ahead made =
    let k = state m.kernel in
    let p = m.place in
    let d = k.digital in
    let stage : p.stage ≡ stages.InPhase = (tried_ahead sys (digital_at sys k) p ahead).stage in
    let phase : IsPhase sys k m.frame p.time p.timed p.tip = subst (λ (x : Stage). StandsBy x sys k m.frame p) stage s.stands.stands in
    let few : m.cycles + (p.cycles_left + 0) ≤ run_budget = subst (λ (x : Stage). m.cycles + (p.cycles_left + pending x) ≤ run_budget) stage s.stands.few in
    let going : digital_at sys k ≡ d = digital_going sys k phase.goes.stage in
    let tried : TriedNext sys d p = subst (λ (y : Digital). TriedNext sys y p) going (tried_ahead sys (digital_at sys k) p ahead) in
    let from : AttemptFrom sys.options p.tip a = subst (λ (y : Attempt). AttemptFrom sys.options p.tip y) (sym made) (attempt_from sys m.frame p.tip s.stands.fits.step) in
    record {
      digital = going;
      phase = phase;
      tried = tried;
      made = made ∙ ap (λ (f : List Val). attempt sys f p.tip) phase.goes.frame_is;
      end_is = from.end;
      behind = from.behind;
      until = subst (λ (e : ℕ). e ≤ l.until sys (state_of d p)) (sym from.end) (in-time (end_of p.tip) (l.until sys (state_of d p)) tried.fits);
      step = allowed_step sys.options p.tip.h s.allowed s.stands.fits.step;
      few = omega arith;
    }

gives-after : (time : ℕ) (a : Attempt) → gives_at time a ≡ true → time < a.end
gives-after time a e = after (is_accepted a.kind) time a.end e
  where
    after : (b : Bool) (time e : ℕ) → (b && nat_lt time e) ≡ true → time < e
    after true time e is = grind (arith, nat_tests)
    after false time e is = cc

crosses-gives : (gives : Bool) (b : Bool) → (gives && b) ≡ true → gives ≡ true
crosses-gives true b e = refl
crosses-gives false b e = cc

-- a crossing ends after the time and the tip's time
pub crossing_order : {D S K : Type 0} (sys : System) (part : S → ℕ) (state : K → KernelState) (m : Machine D S K) (a : Attempt) (bs : List ℕ) (is_chosen gives crosses : Bool) → Uses sys part state m a bs is_chosen gives crosses → crosses ≡ true → max m.place.time m.place.tip.t < a.end
crossing_order sys part state m a bs is_chosen gives crosses u e =
    let k = state m.kernel in
    let t : Attempts sys k m.frame m.cycles m.place a = attempts sys part state m a u.sound u.ahead u.made in
    let gave : gives ≡ true = crosses-gives gives (differs a.x (sys.thresholds k.digital)) (sym (u.crosses_is t.phase.goes.stage) ∙ e) in
    let after : m.place.time < a.end = gives-after m.place.time a (sym u.gives_is ∙ gave) in
    let end = t.end_is in
    let least = t.step.least in
    omega arith

-- ---- what is held behind it

abbrev pub counted : RunPlace → RunPlace
counted p = record p { tries_left = p.tries_left - 1 }

-- its branches and its end, in the words of the definition
abbrev behind_of : System → Digital → Bool → Bool → RunPlace → Attempt → Held
behind_of sys d crosses gives p a = h.behind_by (l.attempt_end crosses (is_failed a.kind)) sys p.cycles_left (p.tries_left - 1) (state_of d p) a

given-state : (d : Digital) (gives is_chosen : Bool) (bs : List ℕ) (p : RunPlace) (t : Tip) → state_of d (record (given_at gives is_chosen bs p) { tip = t }) ≡ record (state_of d p) { tip = t; branches = cond gives (chosen_of is_chosen bs (olds_of p)) (olds_of p) }
given-state d true true bs p t = refl
given-state d true false bs p t = refl
given-state d false is_chosen bs p t = refl

given-held : (d : Digital) (gives is_chosen : Bool) (bs : List ℕ) (p : RunPlace) (t : Tip) → held_of d (record (given_at gives is_chosen bs p) { tip = t }) ≡ h.at (stage_of p.stage p.search p.at_hi) p.cycles_left p.tries_left (state_of d (record (given_at gives is_chosen bs p) { tip = t }))
given-held d true true bs p t = refl
given-held d true false bs p t = refl
given-held d false is_chosen bs p t = refl

further-held : (sys : System) (d : Digital) (gives is_chosen : Bool) (bs : List ℕ) (p : RunPlace) (a : Attempt) → p.stage ≡ stages.InPhase → gives ≡ l.gives_point (state_of d p) a → chosen_of is_chosen bs (olds_of p) ≡ l.step_branches sys (state_of d p) →
    held_of d (record (given_at gives is_chosen bs (counted p)) { tip = next p.tip a }) ≡ h.at h.InPhase p.cycles_left (p.tries_left - 1) (l.behind sys (state_of d p) a)
further-held sys d gives is_chosen bs p a e gave branches =
    let q = state_of d p in
    given-held d gives is_chosen bs (counted p) (next p.tip a)
    ∙ ap (λ (s : Stage). h.at (stage_of s p.search p.at_hi) p.cycles_left (p.tries_left - 1) (state_of d (record (given_at gives is_chosen bs (counted p)) { tip = next p.tip a }))) e
    ∙ ap (λ (y : RunState). h.at h.InPhase p.cycles_left (p.tries_left - 1) y)
    (given-state d gives is_chosen bs (counted p) (next p.tip a)
    ∙ ap (λ (ys : List ℕ). record q { tip = next p.tip a; branches = cond gives ys (olds_of p) }) branches
    ∙ ap (λ (b : Bool). record q { tip = next p.tip a; branches = cond b (l.step_branches sys q) (olds_of p) }) gave)

failed-held : (kind : Kind) (sys : System) (d : Digital) (gives is_chosen after : Bool) (bs : List ℕ) (p : RunPlace) (a : Attempt) → is_failed kind ≡ true → gives ≡ (is_accepted kind && after) →
    held_of d (too_small a.end a.cause.code (record (given_at gives is_chosen bs (counted p)) { tip = next_by kind p.tip a })) ≡ h.ended (l.step_too_small a.end a.cause) p.cycles_left (p.tries_left - 1) (state_of d p)
failed-held Accepted sys d gives is_chosen after bs p a e gave = cc
failed-held Rejected sys d gives is_chosen after bs p a e gave = cc
failed-held Failed sys d gives is_chosen after bs p a e gave =
    ap (λ (b : Bool). held_of d (too_small a.end a.cause.code (record (given_at b is_chosen bs (counted p)) { tip = p.tip }))) gave

passed-held : (failed : Bool) (sys : System) (d : Digital) (gives is_chosen : Bool) (bs : List ℕ) (p : RunPlace) (a : Attempt) → is_failed a.kind ≡ failed → p.stage ≡ stages.InPhase → gives ≡ l.gives_point (state_of d p) a → chosen_of is_chosen bs (olds_of p) ≡ l.step_branches sys (state_of d p) →
    held_of d (ended_by failed a (record (given_at gives is_chosen bs (counted p)) { tip = next p.tip a })) ≡ h.behind_by (l.attempt_end false failed) sys p.cycles_left (p.tries_left - 1) (state_of d p) a
passed-held true sys d gives is_chosen bs p a failed e gave branches = failed-held a.kind sys d gives is_chosen (nat_lt p.time a.end) bs p a failed gave
passed-held false sys d gives is_chosen bs p a failed e gave branches = further-held sys d gives is_chosen bs p a e gave branches

pub used_held : (crosses : Bool) (sys : System) (d : Digital) (gives is_chosen : Bool) (bs : List ℕ) (xres : ℕ) (p : RunPlace) (a : Attempt) → p.stage ≡ stages.InPhase → gives ≡ l.gives_point (state_of d p) a → chosen_of is_chosen bs (olds_of p) ≡ l.step_branches sys (state_of d p) →
    held_of d (used_left crosses gives a xres is_chosen bs (counted p)) ≡ h.behind_by (l.attempt_end crosses (is_failed a.kind)) sys p.cycles_left (p.tries_left - 1) (state_of d p) a
used_held true sys d gives is_chosen bs xres p a e gave branches = refl
used_held false sys d gives is_chosen bs xres p a e gave branches = passed-held (is_failed a.kind) sys d gives is_chosen bs p a refl e gave branches

-- ---- what it gives

passed-gives : (sys : System) (d : Digital) (gives is_chosen : Bool) (bs : List ℕ) (p : RunPlace) (a : Attempt) → chosen_of is_chosen bs (olds_of p) ≡ l.step_branches sys (state_of d p) →
    passed_events gives a is_chosen bs (counted p) ≡ cond gives (l.point_events a.end 0 a.x (l.step_branches sys (state_of d p)) (olds_of p)) []
passed-gives sys d true is_chosen bs p a branches = ap (λ (ys : List ℕ). l.point_events a.end 0 a.x ys (olds_of p)) branches
passed-gives sys d false is_chosen bs p a branches = refl

pub used_gives : (crosses : Bool) (sys : System) (d : Digital) (gives is_chosen : Bool) (bs : List ℕ) (xres : ℕ) (p : RunPlace) (a : Attempt) → xres ≡ sys.options.xres → chosen_of is_chosen bs (olds_of p) ≡ l.step_branches sys (state_of d p) →
    used_events crosses gives a xres is_chosen bs (counted p) ≡ cond crosses (l.bound_events sys (state_of d p) (l.attempt_bounds (state_of d p) a)) (cond gives (l.point_events a.end 0 a.x (l.step_branches sys (state_of d p)) (olds_of p)) [])
used_gives true sys d gives is_chosen bs xres p a xres_is branches =
    let q = state_of d p in
    ap (λ (z : ℕ). used_events true gives a z is_chosen bs (counted p)) xres_is
    ∙ ap (λ (ys : List ℕ). cond (is_near sys.options.xres (l.attempt_bounds q a)) (l.point_events a.end 0 a.x ys (olds_of p)) []) branches
used_gives false sys d gives is_chosen bs xres p a xres_is branches = passed-gives sys d gives is_chosen bs p a branches

-- ---- what is true behind it

tip-keeps : (P : ℕ → List ℤ → Type 0) (kind : Kind) (t : Tip) (a : Attempt) → P t.t t.x → P a.end a.x → P (next_by kind t a).t (next_by kind t a).x
tip-keeps P Accepted t a old new = new
tip-keeps P Rejected t a old new = old
tip-keeps P Failed t a old new = old

record TipFits (sys : System) (until t : ℕ) (x : List ℤ) : Type 0 where
  most : t ≤ until
  fits : length x ≡ sys.unknowns

given-stands : (failed : Bool) (sys : System) (k : KernelState) (frame : List Val) (cycles : ℕ) (gives is_chosen : Bool) (bs : List ℕ) (p : RunPlace) (a : Attempt) (t : Tip) → length bs ≡ sys.choices → p.stage ≡ stages.InPhase → Fits sys p.time p.point t p.at_hi p.solved p.gathered p.branches → IsPhase sys k frame p.time p.timed t → cycles + p.cycles_left ≤ run_budget →
    Stands sys k frame cycles (ended_by failed a (record (given_at gives is_chosen bs (counted p)) { tip = t }))
given-stands true sys k frame cycles true true bs p a t room e f phase few =
    record { fits = record { time_most = f.time_most; point_fits = f.point_fits; tip_fits = f.tip_fits; tip_most = f.tip_most; step = f.step; at_hi_fits = f.at_hi_fits; solved_fits = f.solved_fits; elements = f.elements; branches_fit = room }; stands = tt; few = omega arith }
given-stands true sys k frame cycles true false bs p a t room e f phase few = record { fits = f; stands = tt; few = omega arith }
given-stands true sys k frame cycles false is_chosen bs p a t room e f phase few = record { fits = f; stands = tt; few = omega arith }
given-stands false sys k frame cycles true true bs p a t room e f phase few =
    record {
      fits = record { time_most = f.time_most; point_fits = f.point_fits; tip_fits = f.tip_fits; tip_most = f.tip_most; step = f.step; at_hi_fits = f.at_hi_fits; solved_fits = f.solved_fits; elements = f.elements; branches_fit = room };
      stands = subst (λ (y : Stage). StandsBy y sys k frame (record (given_at true true bs (counted p)) { tip = t })) (sym e) phase;
      few = subst (λ (y : Stage). cycles + (p.cycles_left + pending y) ≤ run_budget) (sym e) (omega arith);
    }
given-stands false sys k frame cycles true false bs p a t room e f phase few =
    record {
      fits = f;
      stands = subst (λ (y : Stage). StandsBy y sys k frame (record (counted p) { tip = t })) (sym e) phase;
      few = subst (λ (y : Stage). cycles + (p.cycles_left + pending y) ≤ run_budget) (sym e) (omega arith);
    }
given-stands false sys k frame cycles false is_chosen bs p a t room e f phase few =
    record {
      fits = f;
      stands = subst (λ (y : Stage). StandsBy y sys k frame (record (counted p) { tip = t })) (sym e) phase;
      few = subst (λ (y : Stage). cycles + (p.cycles_left + pending y) ≤ run_budget) (sym e) (omega arith);
    }

until-stop : (next : Option ℕ) (stop : ℕ) → l.until_of next stop ≤ stop
until-stop (Some n) stop = omega arith
until-stop None stop = omega arith

pub used_stands : (crosses : Bool) (sys : System) (k : KernelState) (frame : List Val) (cycles : ℕ) (gives is_chosen : Bool) (bs : List ℕ) (xres : ℕ) (p : RunPlace) (a : Attempt) → PlaceFits sys p → Attempts sys k frame cycles p a → xres ≡ sys.options.xres → length bs ≡ sys.choices → length a.x ≡ sys.unknowns → (crosses ≡ true → max p.time p.tip.t < a.end) →
    Stands sys k frame cycles (used_left crosses gives a xres is_chosen bs (counted p))
used_stands true sys k frame cycles gives is_chosen bs xres p a f t xres_is room fits order =
    let few = t.few in
    let until = t.until in
    let after : max p.time p.tip.t < a.end = order refl in
    let end = t.end_is in
    let most = t.step.most in
    record {
      fits = record { time_most = f.time_most; point_fits = f.point_fits; tip_fits = f.tip_fits; tip_most = f.tip_most; step = f.step; at_hi_fits = fits; solved_fits = f.solved_fits; elements = f.elements; branches_fit = f.branches_fit };
      stands = record { goes = t.phase.goes; distance = xres_is; tip_before = omega arith; time_before = omega arith; order = after; until = until; step = record { least = omega arith; most = omega arith } };
      few = omega arith;
    }
used_stands false sys k frame cycles gives is_chosen bs xres p a f t xres_is room fits order =
    let until = l.until sys (state_of k.digital p) in
    let stop = until-stop (sys.next_time k.digital) sys.options.stop in
    let tip : TipFits sys until (next p.tip a).t (next p.tip a).x =
    tip-keeps (TipFits sys until) a.kind p.tip a (record { most = t.phase.tip_before; fits = f.tip_fits }) (record { most = t.until; fits = fits }) in
    let most = tip.most in
    given-stands (is_failed a.kind) sys k frame cycles gives is_chosen bs p a (next p.tip a) room t.tried.stage
    (record { time_most = f.time_most; point_fits = f.point_fits; tip_fits = tip.fits; tip_most = omega arith; step = t.behind; at_hi_fits = f.at_hi_fits; solved_fits = f.solved_fits; elements = f.elements; branches_fit = f.branches_fit })
    (record { goes = t.phase.goes; later = t.phase.later; tip_before = tip.most })
    t.few
