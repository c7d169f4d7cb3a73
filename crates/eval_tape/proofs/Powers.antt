-- The slope of a power with an exponent of at least 1.
use Rattle.std.proofs.Common.{◌≡◌, ◌<◌, zero, suc, ◌-◌, ℕ, ℤ, pos, Result, Ok, refl, sub-one, arith}
use Rattle.std.specs.Prelude.{◌*ℤ◌}
use Rattle.fix_core.specs.Units.{one}
use Rattle.fix_core.specs.Passes.{◌>>=◌}
use Rattle.ams_value.specs.declared.val.Val.TheVariants as val
use Rattle.ams_value.specs.Values.{real_powers}
use Rattle.design_meaning.specs.declared.fault.EvalFault.{EvalFault}
use Rattle.design_meaning.specs.Faults.{numeric}
use Rattle.design_meaning.specs.Value.{power_slope, times}

pub positive : (x d : ℤ) (n : ℕ) → 0 < n →
    power_slope (Ok x) (Ok d) (val.Int (pos n)) ≡ (numeric (real_powers x (n - 1)) >>= (λ p. times (pos n *ℤ one) p >>= (λ c. times c d)))
positive x d (suc k) h = rw sub-one refl
positive x d zero h = absurd (omega arith)
