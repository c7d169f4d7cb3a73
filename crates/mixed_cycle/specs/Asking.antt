-- What is true of the tip and the frame that an ask names.
use Rattle.std.specs.Prelude.{◌≡◌, ◌≢◌, ℕ, List, length}
use Rattle.std.proofs.Common.{arith}
use Rattle.ams_value.specs.declared.val.Val.{Val}
use Rattle.step_data.specs.declared.tip.Tip.{Tip}
use Rattle.step_model.specs.Answers.{CanStep, IsStep}
use Rattle.step_model.specs.StepLaws.{allowed_step}
use Rattle.step_model.specs.Kernel.{KernelState}
use Rattle.step_model.specs.System.{System}
use Rattle.lockstep_model.specs.Walk as w
use Rattle.mixed_cycle.specs.declared.machine.Awaited.{Awaited}
use Rattle.mixed_cycle.specs.declared.machine.Awaited.TheVariants.{Ready, Looking, Settling, Broken}
use Rattle.mixed_cycle.specs.declared.machine.Machine.{Machine}
use Rattle.mixed_cycle.specs.Machine.{Sound, awaited_of, asked_of}

-- attempts may be made from the tip under the frame
pub record StepsFrom (sys : System) (frame : List Val) (tip : Tip) : Type 0 where
  pub can : CanStep sys frame tip
  pub step : IsStep tip.h
  pub frame_fits : length frame ≡ sys.frame_len

-- so wherever no attempt waits to be consumed, as at each begin and look
abbrev pub AsksFrom : w.Awaited → System → List Val → Tip → Type 0
AsksFrom w.Ready sys frame tip = StepsFrom sys frame tip
AsksFrom w.Looking sys frame tip = StepsFrom sys frame tip
AsksFrom (w.Settling own next) sys frame tip = Unit {0}
AsksFrom w.Broken sys frame tip = Unit {0}

steps_from : {D S K : Type 0} (sys : System) (part : S → ℕ) (state : K → KernelState) (m : Machine D S K) → Sound sys part state m → StepsFrom sys m.frame m.place.tip
steps_from sys part state m s =
    let stop = s.allowed.stop_most in
    let tip = s.stands.fits.tip_most in
    record {
      can = record { frame_fits = s.frame_fits; point_fits = s.stands.fits.tip_fits; within = omega arith };
      step = allowed_step sys.options m.place.tip.h s.allowed s.stands.fits.step;
      frame_fits = s.room.frame;
    }

asks_by : {D S K : Type 0} (sys : System) (part : S → ℕ) (state : K → KernelState) (m : Machine D S K) (a : Awaited) → (a ≢ Broken → Sound sys part state m) → AsksFrom (awaited_of a m.place.tip) sys m.frame (asked_of a m.asked m.place.tip)
asks_by sys part state m Ready sound = steps_from sys part state m (sound (λ e. cc))
asks_by sys part state m Looking sound = steps_from sys part state m (sound (λ e. cc))
asks_by sys part state m (Settling own) sound = tt
asks_by sys part state m Broken sound = tt

pub asks_from : {D S K : Type 0} (sys : System) (part : S → ℕ) (state : K → KernelState) (m : Machine D S K) → (m.awaited ≢ Broken → Sound sys part state m) → AsksFrom (awaited_of m.awaited m.place.tip) sys m.frame (asked_of m.awaited m.asked m.place.tip)
asks_from sys part state m sound = asks_by sys part state m m.awaited sound
