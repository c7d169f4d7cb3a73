-- What a machine stands for, and what is true of it between two moves.
use Rattle.std.specs.Prelude.{◌≡◌, ℕ, ◌<◌, ◌^◌, length, IsTrue}
use Rattle.step_data.specs.Options.{IsAllowed}
use Rattle.step_data.specs.declared.tip.Tip.{Tip}
use Rattle.step_model.specs.Kernel.{KernelState}
use Rattle.step_model.specs.System.{System}
use Rattle.lockstep_model.specs.Walk as w
use Rattle.cycle_machine.specs.Held.{Held}
use Rattle.cycle_machine.specs.Ready.{decided}
use Rattle.cycle_machine.specs.Moves.{Moment}
use Rattle.run_place.specs.Places.{held_of}
use Rattle.mixed_cycle.specs.declared.machine.Awaited.{Awaited}
use Rattle.mixed_cycle.specs.declared.machine.Awaited.TheVariants.{Ready, Looking, Settling, Broken}
use Rattle.mixed_cycle.specs.declared.machine.Machine.{Machine}
use Rattle.mixed_cycle.specs.Standing.{Stands, digital_at}
use Rattle.run_place.specs.Budgets.{delta_budget}

abbrev pub awaited_of : Awaited → Tip → w.Awaited
awaited_of Ready tip = w.Ready
awaited_of Looking tip = w.Looking
awaited_of (Settling own) tip = w.Settling own tip
awaited_of Broken tip = w.Broken

-- the tip that an ask names: behind an attempt still the one before
abbrev pub asked_of : Awaited → Tip → Tip → Tip
asked_of Ready asked tip = tip
asked_of Looking asked tip = tip
asked_of (Settling own) asked tip = asked
asked_of Broken asked tip = tip

abbrev pub moment_with : {D S K : Type 0} → Machine D S K → Held → Tip → Moment
moment_with m held tip =
    record {
      held = held;
      awaited = awaited_of m.awaited tip;
      tip = asked_of m.awaited m.asked tip;
      frame = m.frame;
      own = m.own;
      cycles = m.cycles;
    }

-- what a machine stands for
abbrev pub moment_of : {D S K : Type 0} → System → (K → KernelState) → Machine D S K → Moment
moment_of sys state m = moment_with m (held_of (digital_at sys (state m.kernel)) m.place) m.place.tip

-- the lengths of what its moves need again and again
pub record HasRoom {D S K : Type 0} (sys : System) (m : Machine D S K) : Type 0 where
  pub asked : length m.asked.x ≡ sys.unknowns
  pub frame : length m.frame ≡ sys.frame_len
  pub made : length m.made.x ≡ sys.unknowns
  pub x : length m.x ≡ sys.unknowns
  pub branches : length m.branches ≡ sys.choices
  pub new_frame : length m.new_frame ≡ sys.frame_len

pub record Sound {D S K : Type 0} (sys : System) (part : S → ℕ) (state : K → KernelState) (m : Machine D S K) : Type 0 where
  pub part_is : part m.stepper ≡ 0
  pub options_are : m.options ≡ sys.options
  pub allowed : IsAllowed sys.options
  pub deltas : sys.deltas ≡ delta_budget
  pub choices : sys.choices < 2 ^ 32
  pub room : HasRoom sys m
  pub frame_fits : IsTrue (sys.is_frame m.frame)
  pub stands : Stands sys (state m.kernel) m.frame m.cycles m.place

-- a decision without a work
pub record Decides {D S K : Type 0} (sys : System) (part count : S → ℕ) (state : K → KernelState) (old new : Machine D S K) : Type 0 where
  pub sound : Sound sys part state new
  pub moment : moment_of sys state new ≡ record (moment_of sys state old) { held = decided sys (moment_of sys state old).held }
  pub count_is : count new.stepper ≡ count old.stepper
  pub awaited_is : new.awaited ≡ old.awaited
