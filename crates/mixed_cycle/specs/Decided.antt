-- Decisions keep what is true of a place.
use Rattle.std.specs.Prelude.{◌≡◌, ℕ, ◌+◌, ◌-◌, ◌≤◌, ◌<◌, ◌==◌, ◌||◌, Bool, true, false, not, cond, nat_le, List, length, IfSome, Option, Some, None, refl}
use Rattle.std.proofs.Common.{subst, arith}
use Rattle.std.proofs.lemmas.Bool.Decides.{nat_tests}
use Rattle.ams_value.specs.declared.val.Val.{Val}
use Rattle.step_data.specs.declared.tip.Tip.{Tip}
use Rattle.step_model.specs.Kernel.{KernelState}
use Rattle.step_model.specs.System.{System}
use Rattle.lockstep_model.specs.Lockstep.{until_of, stands}
use Rattle.lockstep_model.specs.Crossing.{is_near}
use Rattle.above_events.specs.Locating.{with_point}
use Rattle.run_place.specs.declared.place.RunPlace.{RunPlace}
use Rattle.run_place.specs.declared.place.Stage.TheVariants as stages
use Rattle.run_place.specs.Decisions as c
use Rattle.mixed_cycle.specs.Standing.{PlaceFits, Goes, IsPlaced, IsDelta, IsPhase, IsSearch, StandsBy, Stands, pending}
use Rattle.run_place.specs.Budgets.{delta_budget, run_budget}
use Rattle.message_codes.specs.Codes as codes

-- a delta is begun where its cycle may be made
pub began_stands : (sys : System) (k : KernelState) (frame : List Val) (cycles : ℕ) (to_time : Bool) (p : RunPlace) → PlaceFits sys p → IsDelta sys k frame p.time p.timed p.tip to_time → cycles + p.cycles_left ≤ run_budget → Stands sys k frame cycles (c.began to_time p)
began_stands sys k frame cycles to_time p fits delta few =
    elim (p.cycles_left == 0) as
    (λ b. (p.cycles_left == 0) ≡ b → Stands sys k frame cycles (cond b (c.end_with codes.cycle_limit p) (record p { stage = stages.InDelta to_time; cycles_left = p.cycles_left - 1 }))) [
      | true ↦ λ e. record { fits = fits; stands = tt; few = omega arith }
      | false ↦ λ e.
          let some : 1 ≤ p.cycles_left = grind (arith, nat_tests) in
          record { fits = fits; stands = delta; few = omega arith }
    ] refl

reached-stands : (sys : System) (k : KernelState) (frame : List Val) (cycles : ℕ) (p : RunPlace) → PlaceFits sys p → cycles + p.cycles_left ≤ run_budget → Stands sys k frame cycles (c.reached p)
reached-stands sys k frame cycles p fits few = record { fits = fits; stands = tt; few = omega arith }

pub arrived_stands : (sys : System) (k : KernelState) (frame : List Val) (cycles : ℕ) (p : RunPlace) → PlaceFits sys p → IsDelta sys k frame p.time p.timed p.tip false → cycles + p.cycles_left ≤ run_budget → Stands sys k frame cycles (c.arrived_at (sys.next_time k.digital) p)
arrived_stands sys k frame cycles p fits delta few =
    elim (stands (sys.next_time k.digital) p.time) as
    (λ b. Stands sys k frame cycles (cond b (c.began false p) (c.reached p))) [
      | true ↦ began_stands sys k frame cycles false p fits delta few
      | false ↦ reached-stands sys k frame cycles p fits few
    ]

deeper-stands : (sys : System) (k : KernelState) (frame : List Val) (cycles : ℕ) (to_time : Bool) (p : RunPlace) → PlaceFits sys p → IsDelta sys k frame p.time p.timed p.tip to_time → cycles + p.cycles_left ≤ run_budget → Stands sys k frame cycles (c.deeper_at to_time p)
deeper-stands sys k frame cycles to_time p fits delta few =
    elim (nat_le delta_budget p.delta) as
    (λ b. Stands sys k frame cycles (cond b (c.end_with codes.delta_limit p) (c.began to_time (record p { delta = p.delta + 1 })))) [
      | true ↦ record { fits = fits; stands = tt; few = omega arith }
      | false ↦ began_stands sys k frame cycles to_time (record p { delta = p.delta + 1 }) fits delta few
    ]

-- no digital work stands at the time, and it isn't the stop time
ahead : (next : Option ℕ) (stop t : ℕ) → stands next t ≡ false → (t == stop) ≡ false → t ≤ stop → t < until_of next stop
ahead None stop t none other most = grind (arith, nat_tests)
ahead (Some m) stop t none other most =
    let far : t < m = grind (arith, nat_tests) in
    let low : t < stop = grind (arith, nat_tests) in
    omega arith

or_true : (a b : Bool) → (a || not b) ≡ true → not a ≡ true → b ≡ false
or_true true b h n = cc
or_true false true h n = cc
or_true false false h n = refl

or_left : (a b : Bool) → (a || b) ≡ false → a ≡ false
or_left true b h = h
or_left false b h = refl

pub placed_stands : (sys : System) (k : KernelState) (frame : List Val) (cycles : ℕ) (p : RunPlace) → PlaceFits sys p → IsPlaced sys k frame p.time p.timed p.tip → IfSome (sys.next_time k.digital) (λ m. k.digital.time ≤ m) → cycles + p.cycles_left ≤ run_budget → Stands sys k frame cycles (c.placed_at (sys.next_time k.digital) frame sys.options.stop p)
placed_stands sys k frame cycles p fits placed later few =
    let due = c.is_due_at p (sys.next_time k.digital) frame in
    elim (due || not p.timed) as
    (λ b. (due || not p.timed) ≡ b → Stands sys k frame cycles (cond b (c.deeper_at (not due) p) (cond (p.time == sys.options.stop) (c.reached p) (record p { stage = stages.InPhase })))) [
      | true ↦ λ e.
          deeper-stands sys k frame cycles (not due) p fits
          (record { goes = placed.goes; next = subst (λ t. IfSome (sys.next_time k.digital) (λ m. t ≤ m)) placed.now later; domain = or_true due p.timed e; tip_before = placed.tip_before }) few
      | false ↦ λ e.
          elim (p.time == sys.options.stop) as
          (λ b. (p.time == sys.options.stop) ≡ b → Stands sys k frame cycles (cond b (c.reached p) (record p { stage = stages.InPhase }))) [
            | true ↦ λ s. reached-stands sys k frame cycles p fits few
            | false ↦ λ s.
                let none : stands (sys.next_time k.digital) p.time ≡ false = or_left (stands (sys.next_time k.digital) p.time) (c.needs_at p frame) (or_left due (not p.timed) e) in
                let far : p.time < until_of (sys.next_time k.digital) sys.options.stop = ahead (sys.next_time k.digital) sys.options.stop p.time none s fits.time_most in
                let low = placed.tip_before in
                record { fits = fits; stands = record { goes = placed.goes; later = far; tip_before = omega arith }; few = omega arith }
          ] refl
    ] refl

pub delta_stands : (sys : System) (k : KernelState) (frame : List Val) (cycles : ℕ) (to_time : Bool) (p : RunPlace) → p.stage ≡ stages.InDelta to_time → Stands sys k frame cycles p → Stands sys k frame cycles (c.delta_at to_time frame p)
delta_stands sys k frame cycles to_time p e s =
    let delta : IsDelta sys k frame p.time p.timed p.tip to_time = subst (λ x. StandsBy x sys k frame p) e s.stands in
    let few : cycles + (p.cycles_left + pending (stages.InDelta to_time)) ≤ run_budget = subst (λ x. cycles + (p.cycles_left + pending x) ≤ run_budget) e s.few in
    elim (c.needs_at p frame) as (λ b. Stands sys k frame cycles (cond b p (record p { stage = stages.InCycle to_time }))) [
      | true ↦ s
      | false ↦ record { fits = s.fits; stands = delta; few = few }
    ]

until-least : (next : Option ℕ) (stop : ℕ) → until_of next stop ≤ stop
until-least None stop = omega arith
until-least (Some m) stop = omega arith

pub until_next : (next : Option ℕ) (stop t : ℕ) → t ≤ until_of next stop → IfSome next (λ m. t ≤ m)
until_next None stop t low = tt
until_next (Some m) stop t low = omega arith

tried-stands : (sys : System) (k : KernelState) (frame : List Val) (cycles : ℕ) (p : RunPlace) → Stands sys k frame cycles p → Stands sys k frame cycles (c.tried_at p)
tried-stands sys k frame cycles p s =
    let few = s.few in
    elim (p.tries_left == 0) as (λ b. Stands sys k frame cycles (cond b (c.end_with codes.attempt_limit p) p)) [
      | true ↦ record { fits = s.fits; stands = tt; few = omega arith }
      | false ↦ s
    ]

pub phase_stands : (sys : System) (k : KernelState) (frame : List Val) (cycles : ℕ) (p : RunPlace) → p.stage ≡ stages.InPhase → Stands sys k frame cycles p → Stands sys k frame cycles (c.phase_at (sys.next_time k.digital) sys.options.stop p)
phase_stands sys k frame cycles p e s =
    let u = until_of (sys.next_time k.digital) sys.options.stop in
    let phase : IsPhase sys k frame p.time p.timed p.tip = subst (λ x. StandsBy x sys k frame p) e s.stands in
    let fits = s.fits in
    let few = s.few in
    let most = until-least (sys.next_time k.digital) sys.options.stop in
    let low = phase.later in
    let old = phase.goes.began in
    elim (p.tip.t == u) as
    (λ b. Stands sys k frame cycles (cond b (c.arrived_at (sys.next_time k.digital) (c.at_tip_at u p)) (c.tried_at p))) [
      | true ↦
          arrived_stands sys k frame cycles (c.at_tip_at u p)
          (record { time_most = most; point_fits = fits.tip_fits; tip_fits = fits.tip_fits; tip_most = fits.tip_most; step = fits.step; at_hi_fits = fits.at_hi_fits; solved_fits = fits.solved_fits; elements = fits.elements; branches_fit = fits.branches_fit })
          (record {
            goes = record { stage = phase.goes.stage; frame_is = phase.goes.frame_is; domain_is = phase.goes.domain_is; began = omega arith };
            next = until_next (sys.next_time k.digital) sys.options.stop u (omega arith);
            domain = λ no. cc;
            tip_before = phase.tip_before;
          })
          (omega arith)
      | false ↦ tried-stands sys k frame cycles p s
    ]

-- at a crossing, with the values at the later bound
stepped-fits : (sys : System) (is_chosen : Bool) (branches : List ℕ) (t : ℕ) (p : RunPlace) → t ≤ sys.options.stop → length branches ≡ sys.choices → PlaceFits sys p → PlaceFits sys (c.stepped_at t is_chosen branches p)
stepped-fits sys true branches t p most few fits =
    record { time_most = most; point_fits = fits.at_hi_fits; tip_fits = fits.tip_fits; tip_most = fits.tip_most; step = fits.step; at_hi_fits = fits.point_fits; solved_fits = fits.solved_fits; elements = fits.elements; branches_fit = few }
stepped-fits sys false branches t p most few fits =
    record { time_most = most; point_fits = fits.at_hi_fits; tip_fits = fits.tip_fits; tip_most = fits.tip_most; step = fits.step; at_hi_fits = fits.point_fits; solved_fits = fits.solved_fits; elements = fits.elements; branches_fit = fits.branches_fit }

-- what a step to a time leaves beside the branches
stepped-is : (P : ℕ → Bool → Tip → ℕ → Type 0) (is_chosen : Bool) (branches : List ℕ) (t : ℕ) (p : RunPlace) → P t p.timed p.tip p.cycles_left → P (c.stepped_at t is_chosen branches p).time (c.stepped_at t is_chosen branches p).timed (c.stepped_at t is_chosen branches p).tip (c.stepped_at t is_chosen branches p).cycles_left
stepped-is P true branches t p h = h
stepped-is P false branches t p h = h

-- a place at a time to which a step was made, where a delta may begin
record CanArrive (sys : System) (k : KernelState) (frame : List Val) (cycles t : ℕ) (timed : Bool) (tip : Tip) (left : ℕ) : Type 0 where
  delta : IsDelta sys k frame t timed tip false
  few : cycles + left ≤ run_budget

can-arrive : (sys : System) (k : KernelState) (frame : List Val) (cycles t : ℕ) (p : RunPlace) → Goes sys k frame p.time p.timed → p.time ≤ t → p.tip.t ≤ t → t ≤ until_of (sys.next_time k.digital) sys.options.stop → cycles + p.cycles_left ≤ run_budget → CanArrive sys k frame cycles t p.timed p.tip p.cycles_left
can-arrive sys k frame cycles t p goes later tip until few =
    let old = goes.began in
    record {
      delta =
          record {
            goes = record { stage = goes.stage; frame_is = goes.frame_is; domain_is = goes.domain_is; began = omega arith };
            next = until_next (sys.next_time k.digital) sys.options.stop t until;
            domain = λ no. cc;
            tip_before = tip;
          };
      few = few;
    }

pub stepped_begins : (sys : System) (k : KernelState) (frame : List Val) (cycles t : ℕ) (is_chosen : Bool) (branches : List ℕ) (p : RunPlace) → PlaceFits sys p → length branches ≡ sys.choices → Goes sys k frame p.time p.timed → p.time ≤ t → p.tip.t ≤ t → t ≤ until_of (sys.next_time k.digital) sys.options.stop → cycles + p.cycles_left ≤ run_budget → Stands sys k frame cycles (c.began false (c.stepped_at t is_chosen branches p))
stepped_begins sys k frame cycles t is_chosen branches p fits room goes later tip until few =
    let most = until-least (sys.next_time k.digital) sys.options.stop in
    let can = stepped-is (CanArrive sys k frame cycles) is_chosen branches t p (can-arrive sys k frame cycles t p goes later tip until few) in
    began_stands sys k frame cycles false (c.stepped_at t is_chosen branches p) (stepped-fits sys is_chosen branches t p (omega arith) room fits) can.delta can.few

pub stepped_arrives : (sys : System) (k : KernelState) (frame : List Val) (cycles t : ℕ) (is_chosen : Bool) (branches : List ℕ) (p : RunPlace) → PlaceFits sys p → length branches ≡ sys.choices → Goes sys k frame p.time p.timed → p.time ≤ t → p.tip.t ≤ t → t ≤ until_of (sys.next_time k.digital) sys.options.stop → cycles + p.cycles_left ≤ run_budget → Stands sys k frame cycles (c.arrived_at (sys.next_time k.digital) (c.stepped_at t is_chosen branches p))
stepped_arrives sys k frame cycles t is_chosen branches p fits room goes later tip until few =
    let most = until-least (sys.next_time k.digital) sys.options.stop in
    let can = stepped-is (CanArrive sys k frame cycles) is_chosen branches t p (can-arrive sys k frame cycles t p goes later tip until few) in
    arrived_stands sys k frame cycles (c.stepped_at t is_chosen branches p) (stepped-fits sys is_chosen branches t p (omega arith) room fits) can.delta can.few

pub search_stands : (sys : System) (k : KernelState) (frame : List Val) (cycles : ℕ) (is_chosen : Bool) (branches : List ℕ) (p : RunPlace) → p.stage ≡ stages.InSearch → length branches ≡ sys.choices → Stands sys k frame cycles p → Stands sys k frame cycles (c.search_at is_chosen branches p)
search_stands sys k frame cycles is_chosen branches p e room s =
    let search : IsSearch sys k frame p.time p.timed p.tip p.search = subst (λ x. StandsBy x sys k frame p) e s.stands in
    let few = s.few in
    let order = search.order in
    let tip = search.tip_before in
    let time = search.time_before in
    elim (is_near p.search.xres (with_point p.search p.at_hi)) as
    (λ b. Stands sys k frame cycles (cond b (c.began false (c.stepped_at p.search.hi is_chosen branches p)) (c.tried_at p))) [
      | true ↦ stepped_begins sys k frame cycles p.search.hi is_chosen branches p s.fits room search.goes (omega arith) (omega arith) search.until (omega arith)
      | false ↦ tried-stands sys k frame cycles p s
    ]
