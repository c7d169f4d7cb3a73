use Rattle.std.proofs.Common.{◌≡◌, ◌<◌, ◌*ℤ◌, ◌∙◌, ap, refl, arith}
use Rattle.std.proofs.lemmas.Int.{ints, to_z-of_z}
use Rattle.std.specs.Prelude.{unsigned_abs}
use Rattle.fix_core.specs.Rounding.{rnd}
use Rattle.fix_core.specs.Units.{one}
use Rattle.ams_value.specs.Values.{time_ranged}
use Rattle.ams_value.proofs.Times.{divided_over, fits_wide}
use Rattle.ams_value.proofs.arithmetic.divided_time.Goals as goal

pub returns : goal.returns
returns c =
    let e : c.round_quotient.result ≡ rnd (c.args.t *ℤ one) c.args.r = grind (arith, to_z-of_z, fits_wide) in
    let some : 0 < unsigned_abs c.args.r = omega (arith, ints) in
    c.time.ensures ∙ ap time_ranged (omega (arith, ints)) ∙ divided_over c.args.t c.args.r _ c.round_quotient.result refl e some
