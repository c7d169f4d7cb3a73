-- Before the start.
use Rattle.std.specs.Prelude.{◌≡◌, ℕ, ◌+◌, ◌≤◌, ◌<◌, ◌^◌, true, false, ℤ, List, [], length, IsTrue, All, None, refl}
use Rattle.std.proofs.Common.{ap, sym, subst, ◌∙◌, arith}
use Rattle.std.proofs.lemmas.List.Elements.{All-nil}
use Rattle.step_data.specs.declared.breaks.Element.{Element}
use Rattle.step_data.specs.declared.outcome.Options.{Options}
use Rattle.step_data.specs.declared.tip.Tip.{Tip}
use Rattle.step_data.specs.Options.{IsAllowed}
use Rattle.step_model.specs.declared.kernel_stage.KernelStage.{KernelStage}
use Rattle.step_model.specs.declared.kernel_stage.KernelStage.TheVariants.{Unstarted}
use Rattle.step_model.specs.Kernel.{KernelState}
use Rattle.step_model.specs.StepLaws.{HasStep}
use Rattle.step_model.specs.System.{System, Digital}
use Rattle.lockstep_model.specs.Lockstep as l
use Rattle.lockstep_model.specs.RunStates.{RunState}
use Rattle.lockstep_model.specs.Walk as w
use Rattle.lockstep_model.specs.Walk.{first_walk}
use Rattle.cycle_machine.specs.Held as h
use Rattle.cycle_machine.specs.Held.{first_held, next_of}
use Rattle.cycle_machine.specs.Moves.{AheadOf, walk_of}
use Rattle.run_place.specs.declared.place.RunPlace.{RunPlace}
use Rattle.run_place.specs.declared.place.Stage.TheVariants as stages
use Rattle.run_place.specs.declared.place.Stage.{Stage}
use Rattle.run_place.specs.Places.{stage_of, state_of, held_of}
use Rattle.mixed_cycle.specs.declared.first.Room.{Room}
use Rattle.mixed_cycle.specs.declared.first.Supplies.{Supplies}
use Rattle.mixed_cycle.specs.declared.machine.Awaited.TheVariants.{Ready}
use Rattle.mixed_cycle.specs.declared.machine.Machine.{Machine}
use Rattle.mixed_cycle.specs.declared.machine.Awaited.{Awaited}
use Rattle.mixed_cycle.specs.Standing.{StandsBy, pending, digital_at, digital_by}
use Rattle.mixed_cycle.specs.Machine.{Sound, HasRoom, moment_of, awaited_of, asked_of}
use Rattle.mixed_cycle.specs.Running.{Running, running, Kept}
use Rattle.mixed_cycle.specs.Used.{walk_is}
use Rattle.run_place.specs.Budgets.{delta_budget, run_budget}

-- the place before the start, with these values
pub record FirstPlace (o : Options) (x : List ℤ) (frame_len choices : ℕ) (p : RunPlace) : Type 0 where
  pub stage : p.stage ≡ stages.Unstarted
  pub cycles : p.cycles_left ≡ run_budget
  pub tries : p.tries_left ≡ run_budget
  pub state : (d : Digital) → state_of d p ≡ record {
    digital = d;
    time = 0;
    delta = 0;
    timed = false;
    broke = false;
    point = x;
    tip = record { t = 0; x = x; h = o.h0; fresh = true };
    solved = None;
    gathered = [];
    branches = [];
  }
  pub at_hi : length p.at_hi ≡ length x
  pub solved : length p.solved ≡ frame_len
  pub branches : length p.branches ≡ choices

-- room of these lengths
pub record HasLengths (unknowns frame_len choices : ℕ) (r : Room) : Type 0 where
  pub asked : length r.asked.x ≡ unknowns
  pub made : length r.made.x ≡ unknowns
  pub x : length r.x ≡ unknowns
  pub branches : length r.branches ≡ choices
  pub new_frame : length r.new_frame ≡ frame_len

-- all of a machine before the start but its two sides
pub record IsSupplied (sys : System) (o : Options) (s : Supplies) : Type 0 where
  pub place : FirstPlace o sys.initial sys.frame_len sys.choices s.place
  pub initial : length sys.initial ≡ sys.unknowns
  pub frame : s.frame ≡ sys.frame sys.unstarted
  pub frame_fits : IsTrue (sys.is_frame s.frame)
  pub frame_length : length s.frame ≡ sys.frame_len
  pub room : HasLengths sys.unknowns sys.frame_len sys.choices s.room

-- a machine before the start: all of the run is left
pub record Begun {D S K : Type 0} (sys : System) (part count : S → ℕ) (state : K → KernelState) (made : ℕ) (m : Machine D S K) : Type 0 where
  pub sound : Sound sys part state m
  pub awaits : m.awaited ≡ Ready
  pub walk : walk_of sys (moment_of sys state m) ≡ first_walk sys
  pub count_is : count m.stepper ≡ made

-- the parts of a machine before the start
pub record Parts {D S K : Type 0} (sys : System) (part : S → ℕ) (state : K → KernelState) (m : Machine D S K) : Type 0 where
  pub part_is : part m.stepper ≡ 0
  pub kernel : (state m.kernel).stage ≡ Unstarted
  pub options : m.options ≡ sys.options
  pub allowed : IsAllowed m.options
  pub deltas : sys.deltas ≡ delta_budget
  pub choices : sys.choices < 2 ^ 32
  pub cycles : sys.cycles ≡ run_budget
  pub tries : sys.tries ≡ run_budget
  pub place : FirstPlace m.options sys.initial sys.frame_len sys.choices m.place
  pub initial : length sys.initial ≡ sys.unknowns
  pub frame : m.frame ≡ sys.frame sys.unstarted
  pub frame_fits : IsTrue (sys.is_frame m.frame)
  pub room : HasRoom sys m
  pub awaits : m.awaited ≡ Ready
  pub own : m.own ≡ 0
  pub none : m.cycles ≡ 0

first-step : (o : Options) (h : ℕ) → IsAllowed o → h ≡ o.h0 → HasStep o h
first-step o h a e = let least = a.h0_least in let most = a.h0_most in record { least = omega arith; most = omega arith }

pub begun : {D S K : Type 0} (sys : System) (part count : S → ℕ) (state : K → KernelState) (m : Machine D S K) → Parts sys part state m → Begun sys part count state (count m.stepper) m
begun sys part count state m p =
    let f = p.place in
    let k = state m.kernel in
    let q = m.place in
    let sysallowed : IsAllowed sys.options = subst (λ (o : Options). IsAllowed o) p.options p.allowed in
    let h0 : m.options.h0 ≡ sys.options.h0 = ap (λ (o : Options). o.h0) p.options in
    let state_is : state_of sys.unstarted q ≡ l.unstarted_state sys =
    f.state sys.unstarted ∙ ap (λ (h : ℕ). record (l.unstarted_state sys) { tip = record { t = 0; x = sys.initial; h = h; fresh = true } }) h0 in
    let time : q.time ≡ 0 = ap (λ (y : RunState). y.time) state_is in
    let tip : q.tip ≡ l.new_tip sys 0 sys.initial = ap (λ (y : RunState). y.tip) state_is in
    let digital : digital_at sys k ≡ sys.unstarted = ap (λ (s : KernelStage). digital_by s sys k.digital) p.kernel in
    let held : held_of (digital_at sys k) q ≡ first_held sys =
    ap (λ (d : Digital). held_of d q) digital
    ∙ ap (λ (s : Stage). h.at (stage_of s q.search q.at_hi) q.cycles_left q.tries_left (state_of sys.unstarted q)) f.stage
    ∙ ap (λ (n : ℕ). h.at h.Unstarted n q.tries_left (state_of sys.unstarted q)) (f.cycles ∙ sym p.cycles)
    ∙ ap (λ (n : ℕ). h.at h.Unstarted sys.cycles n (state_of sys.unstarted q)) (f.tries ∙ sym p.tries)
    ∙ ap (λ (y : RunState). h.at h.Unstarted sys.cycles sys.tries y) state_is in
    let left = f.cycles in
    let none = p.none in
    let tick = ap (λ (t : Tip). t.t) tip in
    record {
      sound =
          record {
            part_is = p.part_is;
            options_are = p.options;
            allowed = sysallowed;
            deltas = p.deltas;
            choices = p.choices;
            room = p.room;
            frame_fits = p.frame_fits;
            stands =
                record {
                  fits =
                      record {
                        time_most = omega arith;
                        point_fits = ap (λ (y : RunState). length y.point) state_is ∙ p.initial;
                        tip_fits = ap (λ (t : Tip). length t.x) tip ∙ p.initial;
                        tip_most = omega arith;
                        step = first-step sys.options q.tip.h sysallowed (ap (λ (t : Tip). t.h) tip);
                        at_hi_fits = f.at_hi ∙ p.initial;
                        solved_fits = f.solved;
                        elements = subst (λ (es : List Element). All (λ (e : Element). IsTrue (sys.is_element e)) es) (sym (ap (λ (y : RunState). y.gathered) state_is)) (All-nil (λ (e : Element). IsTrue (sys.is_element e)));
                        branches_fit = f.branches;
                      };
                  stands =
                      subst (λ (s : Stage). StandsBy s sys k m.frame q) (sym f.stage)
                      (record { stage = p.kernel; frame_is = p.frame; cycles = f.cycles ∙ sym p.cycles; tries = f.tries ∙ sym p.tries; state = state_is });
                  few = subst (λ (s : Stage). m.cycles + (q.cycles_left + pending s) ≤ run_budget) (sym f.stage) (omega arith);
                };
          };
      awaits = p.awaits;
      walk =
          walk_is sys state m (first_held sys) w.Ready (l.new_tip sys 0 sys.initial) (sys.frame sys.unstarted) 0 0 held
          (ap (λ (x : Awaited). awaited_of x q.tip) p.awaits)
          (ap (λ (x : Awaited). asked_of x m.asked q.tip) p.awaits ∙ tip)
          p.frame p.own p.none;
      count_is = refl;
    }

-- what an engine shows before the start
abbrev pub first_running : System → ℕ → Running
first_running sys made = record { walk = first_walk sys; count = made }

pub begun_shows : {D S K : Type 0} (sys : System) (part count : S → ℕ) (state : K → KernelState) (made : ℕ) (m : Machine D S K) → Begun sys part count state made m → running sys count state m ≡ first_running sys made
begun_shows sys part count state made m b =
    ap (λ (y : w.Walk). record { walk = y; count = count m.stepper }) b.walk
    ∙ ap (λ (n : ℕ). record { walk = first_walk sys; count = n }) b.count_is

pub begun_kept : {D S K : Type 0} (sys : System) (part count : S → ℕ) (state : K → KernelState) (made : ℕ) (m : Machine D S K) → Begun sys part count state made m → Kept sys part state m
begun_kept sys part count state made m b =
    record {
      sound = λ alive. b.sound;
      ahead = subst (λ (x : Awaited). AheadOf (awaited_of x m.place.tip) (next_of sys (held_of (digital_at sys (state m.kernel)) m.place))) (sym b.awaits) tt;
    }
