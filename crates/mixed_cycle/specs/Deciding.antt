-- What a machine decides, by what its place decides.
use Rattle.std.specs.Prelude.{◌≡◌, ℕ, ◌+◌, ◌-◌, ◌≤◌, ◌==◌, ◌||◌, Bool, true, false, not, cond, nat_le, List, length, IfSome, Option, refl}
use Rattle.std.proofs.Common.{ap, sym, subst, ◌∙◌, arith}
use Rattle.ams_value.specs.declared.val.Val.{Val}
use Rattle.step_data.specs.declared.outcome.Options.{Options}
use Rattle.step_data.specs.declared.outcome.ChooseKind.TheVariants.{Timed}
use Rattle.step_model.specs.declared.kernel_stage.KernelStage.{KernelStage}
use Rattle.step_model.specs.declared.kernel_stage.KernelStage.TheVariants.{Going}
use Rattle.step_model.specs.Kernel.{KernelState}
use Rattle.step_model.specs.System.{System}
use Rattle.lockstep_model.specs.Lockstep.{stands, until_of, branches_or}
use Rattle.lockstep_model.specs.Crossing.{is_near}
use Rattle.above_events.specs.Locating.{with_point}
use Rattle.cycle_machine.specs.Ready.{decided}
use Rattle.run_place.specs.declared.place.RunPlace.{RunPlace}
use Rattle.run_place.specs.declared.place.Stage.TheVariants as stages
use Rattle.run_place.specs.Places.{held_of}
use Rattle.run_place.specs.Giving.{chosen_of, olds_of}
use Rattle.run_place.specs.Decisions as c
use Rattle.run_place.specs.DecisionLaws.{placed_decides, delta_decides, phase_decides, search_decides}
use Rattle.mixed_cycle.specs.declared.machine.Machine.{Machine}
use Rattle.mixed_cycle.specs.Standing.{Stands, StandsBy, IsPlaced, IsDelta, IsPhase, IsSearch, digital_at, digital_by, cycles_ahead, pending}
use Rattle.mixed_cycle.specs.Decided.{placed_stands, delta_stands, phase_stands, search_stands}
use Rattle.mixed_cycle.specs.Machine.{Sound, Decides, moment_with}
use Rattle.run_place.specs.Budgets.{delta_budget, run_budget}
use Rattle.message_codes.specs.Codes as codes

-- decisions keep the tip
began-tip : (b : Bool) (p : RunPlace) → (c.began b p).tip ≡ p.tip
began-tip b p =
    elim (p.cycles_left == 0) as (λ t. (cond t (c.end_with codes.cycle_limit p) (record p { stage = stages.InDelta b; cycles_left = p.cycles_left - 1 })).tip ≡ p.tip) [ true ↦ refl | false ↦ refl ]

pub arrived_tip : (next : Option ℕ) (p : RunPlace) → (c.arrived_at next p).tip ≡ p.tip
arrived_tip next p =
    elim (stands next p.time) as (λ t. (cond t (c.began false p) (c.reached p)).tip ≡ p.tip) [ true ↦ began-tip false p | false ↦ refl ]

deeper-tip : (b : Bool) (p : RunPlace) → (c.deeper_at b p).tip ≡ p.tip
deeper-tip b p =
    elim (nat_le delta_budget p.delta) as (λ t. (cond t (c.end_with codes.delta_limit p) (c.began b (record p { delta = p.delta + 1 }))).tip ≡ p.tip) [
      | true ↦ refl
      | false ↦ began-tip b (record p { delta = p.delta + 1 })
    ]

placed-tip : (next : Option ℕ) (frame : List Val) (stop : ℕ) (p : RunPlace) → (c.placed_at next frame stop p).tip ≡ p.tip
placed-tip next frame stop p =
    let due = c.is_due_at p next frame in
    elim (due || not p.timed) as
    (λ t. (cond t (c.deeper_at (not due) p) (cond (p.time == stop) (c.reached p) (record p { stage = stages.InPhase }))).tip ≡ p.tip) [
      | true ↦ deeper-tip (not due) p
      | false ↦ elim (p.time == stop) as (λ t. (cond t (c.reached p) (record p { stage = stages.InPhase })).tip ≡ p.tip) [ true ↦ refl | false ↦ refl ]
    ]

delta-tip : (b : Bool) (frame : List Val) (p : RunPlace) → (c.delta_at b frame p).tip ≡ p.tip
delta-tip b frame p = elim (c.needs_at p frame) as (λ t. (cond t p (record p { stage = stages.InCycle b })).tip ≡ p.tip) [ true ↦ refl | false ↦ refl ]

phase-tip : (next : Option ℕ) (stop : ℕ) (p : RunPlace) → (c.phase_at next stop p).tip ≡ p.tip
phase-tip next stop p =
    elim (p.tip.t == until_of next stop) as (λ t. (cond t (c.arrived_at next (c.at_tip_at (until_of next stop) p)) (c.tried_at p)).tip ≡ p.tip) [
      | true ↦ arrived_tip next (c.at_tip_at (until_of next stop) p)
      | false ↦ elim (p.tries_left == 0) as (λ t. (cond t (c.end_with codes.attempt_limit p) p).tip ≡ p.tip) [ true ↦ refl | false ↦ refl ]
    ]

-- a kernel that goes on has its own digital side
pub digital_going : (sys : System) (k : KernelState) → k.stage ≡ Going → digital_at sys k ≡ k.digital
digital_going sys k e = ap (λ (s : KernelStage). digital_by s sys k.digital) e

-- a machine whose place decided so
decides_by : {D S K : Type 0} (sys : System) (part count : S → ℕ) (state : K → KernelState) (m : Machine D S K) (p : RunPlace) → Sound sys part state m → held_of (digital_at sys (state m.kernel)) p ≡ decided sys (held_of (digital_at sys (state m.kernel)) m.place) → p.tip ≡ m.place.tip → Stands sys (state m.kernel) m.frame m.cycles p → Decides sys part count state m (record m { place = p })
decides_by sys part count state m p s held tip stands =
    record {
      sound =
          record {
            part_is = s.part_is;
            options_are = s.options_are;
            allowed = s.allowed;
            deltas = s.deltas;
            choices = s.choices;
            room = record { asked = s.room.asked; frame = s.room.frame; made = s.room.made; x = s.room.x; branches = s.room.branches; new_frame = s.room.new_frame };
            frame_fits = s.frame_fits;
            stands = stands;
          };
      moment =
          ap (λ t. moment_with m (held_of (digital_at sys (state m.kernel)) p) t) tip
          ∙ ap (λ h. moment_with m h m.place.tip) held;
      count_is = refl;
      awaited_is = refl;
    }

abbrev pub with_place : {D S K : Type 0} → Machine D S K → RunPlace → Machine D S K
with_place m p = record m { place = p }

few-placed : (cycles : ℕ) (p : RunPlace) → p.stage ≡ stages.Placed → cycles + cycles_ahead p ≤ run_budget → cycles + p.cycles_left ≤ run_budget
few-placed cycles p e few =
    let sum : cycles + (p.cycles_left + pending stages.Placed) ≤ run_budget = subst (λ x. cycles + (p.cycles_left + pending x) ≤ run_budget) e few in
    omega arith

pub place_decides : {D S K : Type 0} (sys : System) (part count : S → ℕ) (state : K → KernelState) (m : Machine D S K) → Sound sys part state m → m.place.stage ≡ stages.Placed → IfSome (sys.next_time (state m.kernel).digital) (λ n. (state m.kernel).digital.time ≤ n) → Decides sys part count state m (with_place m (c.placed_at (sys.next_time (state m.kernel).digital) m.frame sys.options.stop m.place))
place_decides sys part count state m s e later =
    let k = state m.kernel in
    let d = k.digital in
    let next = sys.next_time d in
    let stop = sys.options.stop in
    let placed : IsPlaced sys k m.frame m.place.time m.place.timed m.place.tip = subst (λ x. StandsBy x sys k m.frame m.place) e s.stands.stands in
    let going = digital_going sys k placed.goes.stage in
    decides_by sys part count state m (c.placed_at next m.frame stop m.place) s
    (subst (λ x. held_of x (c.placed_at next m.frame stop m.place) ≡ decided sys (held_of x m.place)) (sym going)
    (ap (λ f. held_of d (c.placed_at next f stop m.place)) placed.goes.frame_is ∙ placed_decides sys d m.place s.deltas e))
    (placed-tip next m.frame stop m.place)
    (placed_stands sys k m.frame m.cycles m.place s.stands.fits placed later (few-placed m.cycles m.place e s.stands.few))

pub delta_is_decided : {D S K : Type 0} (sys : System) (part count : S → ℕ) (state : K → KernelState) (m : Machine D S K) (to_time : Bool) → Sound sys part state m → m.place.stage ≡ stages.InDelta to_time → Decides sys part count state m (with_place m (c.delta_at to_time m.frame m.place))
delta_is_decided sys part count state m to_time s e =
    let k = state m.kernel in
    let d = k.digital in
    let delta : IsDelta sys k m.frame m.place.time m.place.timed m.place.tip to_time = subst (λ x. StandsBy x sys k m.frame m.place) e s.stands.stands in
    let going = digital_going sys k delta.goes.stage in
    decides_by sys part count state m (c.delta_at to_time m.frame m.place) s
    (subst (λ x. held_of x (c.delta_at to_time m.frame m.place) ≡ decided sys (held_of x m.place)) (sym going)
    (ap (λ f. held_of d (c.delta_at to_time f m.place)) delta.goes.frame_is ∙ delta_decides sys to_time d m.place e))
    (delta-tip to_time m.frame m.place)
    (delta_stands sys k m.frame m.cycles to_time m.place e s.stands)

pub phase_is_decided : {D S K : Type 0} (sys : System) (part count : S → ℕ) (state : K → KernelState) (m : Machine D S K) → Sound sys part state m → m.place.stage ≡ stages.InPhase → Decides sys part count state m (with_place m (c.phase_at (sys.next_time (state m.kernel).digital) sys.options.stop m.place))
phase_is_decided sys part count state m s e =
    let k = state m.kernel in
    let d = k.digital in
    let next = sys.next_time d in
    let stop = sys.options.stop in
    let phase : IsPhase sys k m.frame m.place.time m.place.timed m.place.tip = subst (λ x. StandsBy x sys k m.frame m.place) e s.stands.stands in
    let going = digital_going sys k phase.goes.stage in
    decides_by sys part count state m (c.phase_at next stop m.place) s
    (subst (λ x. held_of x (c.phase_at next stop m.place) ≡ decided sys (held_of x m.place)) (sym going) (phase_decides sys d m.place e))
    (phase-tip next stop m.place)
    (phase_stands sys k m.frame m.cycles m.place e s.stands)

-- by what the kernel's next time was
pub place_decides_by : {D S K : Type 0} (sys : System) (part count : S → ℕ) (state : K → KernelState) (m : Machine D S K) (next : Option ℕ) (p : RunPlace) → Sound sys part state m → m.place.stage ≡ stages.Placed → ((state m.kernel).stage ≡ Going → next ≡ sys.next_time (state m.kernel).digital) → ((state m.kernel).stage ≡ Going → IfSome next (λ n. (state m.kernel).digital.time ≤ n)) → p ≡ c.placed_at next m.frame m.options.stop m.place → Decides sys part count state m (with_place m p)
place_decides_by sys part count state m next p s e value later is =
    let k = state m.kernel in
    let placed : IsPlaced sys k m.frame m.place.time m.place.timed m.place.tip = subst (λ x. StandsBy x sys k m.frame m.place) e s.stands.stands in
    let at : next ≡ sys.next_time k.digital = value placed.goes.stage in
    subst (λ q. Decides sys part count state m (with_place m q))
    (sym (is ∙ ap (λ n. c.placed_at n m.frame m.options.stop m.place) at ∙ ap (λ (o : Options). c.placed_at (sys.next_time k.digital) m.frame o.stop m.place) s.options_are))
    (place_decides sys part count state m s e (subst (λ n. IfSome n (λ t. k.digital.time ≤ t)) at (later placed.goes.stage)))

pub phase_decides_by : {D S K : Type 0} (sys : System) (part count : S → ℕ) (state : K → KernelState) (m : Machine D S K) (next : Option ℕ) (p : RunPlace) → Sound sys part state m → m.place.stage ≡ stages.InPhase → ((state m.kernel).stage ≡ Going → next ≡ sys.next_time (state m.kernel).digital) → p ≡ c.phase_at next m.options.stop m.place → Decides sys part count state m (with_place m p)
phase_decides_by sys part count state m next p s e value is =
    let k = state m.kernel in
    let phase : IsPhase sys k m.frame m.place.time m.place.timed m.place.tip = subst (λ x. StandsBy x sys k m.frame m.place) e s.stands.stands in
    let at : next ≡ sys.next_time k.digital = value phase.goes.stage in
    subst (λ q. Decides sys part count state m (with_place m q))
    (sym (is ∙ ap (λ n. c.phase_at n m.options.stop m.place) at ∙ ap (λ (o : Options). c.phase_at (sys.next_time k.digital) o.stop m.place) s.options_are))
    (phase_is_decided sys part count state m s e)

pub delta_decides_by : {D S K : Type 0} (sys : System) (part count : S → ℕ) (state : K → KernelState) (m : Machine D S K) (to_time : Bool) (p : RunPlace) → Sound sys part state m → m.place.stage ≡ stages.InDelta to_time → p ≡ c.delta_at to_time m.frame m.place → Decides sys part count state m (with_place m p)
delta_decides_by sys part count state m to_time p s e is =
    subst (λ q. Decides sys part count state m (with_place m q)) (sym is) (delta_is_decided sys part count state m to_time s e)

-- a search that isn't at its end chooses nothing
search-tip : (is_chosen : Bool) (branches : List ℕ) (p : RunPlace) → (c.search_at is_chosen branches p).tip ≡ p.tip
search-tip is_chosen branches p =
    elim (is_near p.search.xres (with_point p.search p.at_hi)) as
    (λ t. (cond t (c.began false (c.stepped_at p.search.hi is_chosen branches p)) (c.tried_at p)).tip ≡ p.tip) [
      | true ↦ began-tip false (c.stepped_at p.search.hi is_chosen branches p) ∙ chosen-tip is_chosen branches (record p { time = p.search.hi; delta = 0; point = p.at_hi; at_hi = p.point })
      | false ↦ elim (p.tries_left == 0) as (λ t. (cond t (c.end_with codes.attempt_limit p) p).tip ≡ p.tip) [ true ↦ refl | false ↦ refl ]
    ]
  where
    chosen-tip : (is_chosen : Bool) (branches : List ℕ) (p : RunPlace) → (c.chosen_at is_chosen branches p).tip ≡ p.tip
    chosen-tip true branches p = refl
    chosen-tip false branches p = refl

pub search_decides_by : {D S K : Type 0} (sys : System) (part count : S → ℕ) (state : K → KernelState) (m : Machine D S K) (is_chosen : Bool) (branches : List ℕ) (p : RunPlace) → Sound sys part state m → m.place.stage ≡ stages.InSearch → length branches ≡ sys.choices →
    chosen_of is_chosen branches (olds_of m.place) ≡ branches_or (olds_of m.place) (sys.choose m.frame m.place.tip.t Timed m.place.tip.x) →
    p ≡ c.search_at is_chosen branches m.place → Decides sys part count state m (with_place m p)
search_decides_by sys part count state m is_chosen branches p s e fits chosen is =
    let k = state m.kernel in
    let d = k.digital in
    let search : IsSearch sys k m.frame m.place.time m.place.timed m.place.tip m.place.search = subst (λ x. StandsBy x sys k m.frame m.place) e s.stands.stands in
    let going = digital_going sys k search.goes.stage in
    subst (λ q. Decides sys part count state m (with_place m q)) (sym is)
    (decides_by sys part count state m (c.search_at is_chosen branches m.place) s
    (subst (λ x. held_of x (c.search_at is_chosen branches m.place) ≡ decided sys (held_of x m.place)) (sym going)
    (search_decides sys d is_chosen branches m.place search.distance e
    (subst (λ f. chosen_of is_chosen branches (olds_of m.place) ≡ branches_or (olds_of m.place) (sys.choose f m.place.tip.t Timed m.place.tip.x)) search.goes.frame_is chosen)))
    (search-tip is_chosen branches m.place)
    (search_stands sys k m.frame m.cycles is_chosen branches m.place e fits s.stands))
