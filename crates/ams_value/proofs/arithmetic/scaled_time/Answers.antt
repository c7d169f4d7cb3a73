use Rattle.std.proofs.Common.{◌≡◌, ◌*ℤ◌, ◌∙◌, ap, arith}
use Rattle.std.proofs.lemmas.Int.{ints, to_z-of_z}
use Rattle.fix_core.specs.Rounding.{rnd}
use Rattle.fix_core.specs.Units.{one}
use Rattle.ams_value.specs.Values.{time_ranged}
use Rattle.ams_value.proofs.Times.{scaled_by, fits_wide}
use Rattle.ams_value.proofs.arithmetic.scaled_time.Goals as goal

pub returns-in-Some : goal.returns-in-Some
returns-in-Some c =
    let p : c.in-Some.product ≡ c.args.t *ℤ c.args.r = grind (arith, to_z-of_z, fits_wide) in
    let e : c.round_quotient.result ≡ rnd c.in-Some.product one = grind (arith, to_z-of_z, fits_wide) in
    c.time.ensures ∙ ap time_ranged (omega (arith, ints)) ∙ scaled_by c.args.t c.args.r c.in-Some.product c.round_quotient.result p e
