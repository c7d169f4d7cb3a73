-- The sizes of side steps and probes, with allowed options.
use Rattle.std.specs.Prelude.{◌≡◌, ℕ, ◌+◌, ◌-◌, ◌≤◌, ◌<◌, ◌==◌, false, nat_le}
use Rattle.std.proofs.Common.{arith}
use Rattle.std.proofs.lemmas.Bool.Decides.{leb_tells, eqb_tells}
use Rattle.step_data.specs.Options.{IsAllowed}
use Rattle.step_model.specs.System.{System}
use Rattle.step_model.specs.Answers.{IsStep}
use Rattle.step_model.specs.StepLaws.{HasStep}
use Rattle.lockstep_model.specs.RunStates.{RunState}
use Rattle.lockstep_model.specs.Crossing.{Bounds, is_near, middle}
use Rattle.lockstep_model.specs.Lockstep.{until, side_step, is_there, ends_in_time}

apart : (a b : ℕ) → a ≤ b → (a == b) ≡ false → a < b
apart a b low e = grind (arith, eqb_tells)

past : (a b : ℕ) → nat_le a b ≡ false → b < a
past a b e = grind (arith, leb_tells)

-- a side step is shorter than the tip's step
pub side_step_fits : (sys : System) (p : RunState) → IsAllowed sys.options → HasStep sys.options p.tip.h → p.tip.t ≤ until sys p → is_there sys p ≡ false → ends_in_time sys p ≡ false → IsStep (side_step sys p)
side_step_fits sys p o step low there far =
    let before : p.tip.t < until sys p = apart p.tip.t (until sys p) low there in
    let short : until sys p < p.tip.t + p.tip.h = past (p.tip.t + p.tip.h) (until sys p) far in
    let most = step.most in
    let bound = o.hmax_most in
    record { least = omega arith; most = omega arith }

-- a probe is shorter than the step to the later bound
pub probe_fits : (sys : System) (p : RunState) (b : Bounds) → IsAllowed sys.options → p.tip.t ≤ b.lo → IsStep (b.hi - p.tip.t) → is_near sys.options.xres b ≡ false → IsStep (middle b - p.tip.t)
probe_fits sys p b o low step far =
    let gap : sys.options.xres < b.hi - b.lo = past (b.hi - b.lo) sys.options.xres far in
    let fine = o.xres_least in
    let most = step.most in
    record { least = omega arith; most = omega arith }
