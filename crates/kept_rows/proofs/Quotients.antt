-- Quotients of 0.
use Rattle.std.proofs.Common.{◌≡◌, ◌<◌, ◌≤◌, ◌+◌, ◌*◌, ℕ, suc, ℤ, pos, negsuc, false, Ok, refl, sym, arith}
use Rattle.std.specs.Prelude.{nat_eq, unsigned_abs}
use Rattle.std.proofs.lemmas.Bool.Decides.{nat_tests}
use Rattle.fix_core.specs.Rounding.{nearest, rnd}
use Rattle.fix_core.specs.Fixed.{ranged, quotient_of}
use Rattle.fix_core.specs.Laws.{nearest_alone}
use Rattle.lin_solve.proofs.Steps.{zero_size}

nearest_zero : (d : ℕ) → 0 < d → nearest 0 d ≡ 0
nearest_zero d h = sym (nearest_alone 0 d 0 (omega arith) (omega (arith, h)))

apart : (d : ℕ) → 0 < d → nat_eq d 0 ≡ false
apart d h = grind (arith, nat_tests)

none_over : (d : ℤ) → 0 < unsigned_abs d → quotient_of (pos 0) d ≡ Ok (pos 0)
unfolding quotient_of rnd ranged
none_over (pos d) h = rw (apart d h, nearest_zero d h) refl
none_over (negsuc d) h = rw (apart (unsigned_abs (negsuc d)) h, nearest_zero (suc d) (omega arith)) refl

pub zero_over : (a d : ℤ) → unsigned_abs a ≡ 0 → 0 < unsigned_abs d → quotient_of a d ≡ Ok a
zero_over a d none h = rw (zero_size a none) (none_over d h)
