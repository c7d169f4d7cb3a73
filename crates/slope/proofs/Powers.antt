-- The slope of a power, by the sign of its exponent.
use Rattle.std.proofs.Common.{◌≡◌, zero, suc, ◌-◌, ℤ, pos, negsuc, Result, Ok, refl, sub-one, arith}
use Rattle.std.specs.Prelude.{◌<ℤ◌, ◌≤ℤ◌, unsigned_abs}
use Rattle.std.proofs.lemmas.Int.{ints}
use Rattle.fix_core.specs.Passes.{◌>>=◌}
use Rattle.ams_value.specs.declared.val.Val.TheVariants as val
use Rattle.ams_value.specs.Values.{real_powers, real_of}
use Rattle.design_meaning.specs.declared.fault.EvalFault.{EvalFault}
use Rattle.design_meaning.specs.Faults.{numeric}
use Rattle.design_meaning.specs.Value.{power_slope, times}

pub positive : (a d : Result ℤ EvalFault) (n : ℤ) → pos 0 <ℤ n →
    power_slope a d (val.Int n) ≡ (a >>= (λ x. numeric (real_powers x (unsigned_abs n - 1)) >>= (λ p. times (real_of n) p >>= (λ c. d >>= times c))))
positive a d (pos (suc k)) h = rw sub-one refl
positive a d (pos zero) h = absurd (omega (arith, ints))
positive a d (negsuc k) h = absurd (omega (arith, ints))

pub others : (a d : Result ℤ EvalFault) (n : ℤ) → n ≤ℤ pos 0 → power_slope a d (val.Int n) ≡ Ok (pos 0)
others a d (pos zero) h = refl
others a d (pos (suc k)) h = absurd (omega (arith, ints))
others a d (negsuc k) h = refl
