use Rattle.std.proofs.Common.{◌≡◌, neg_ℤ, ◌∙◌, ap, arith}
use Rattle.std.proofs.lemmas.Int.{ints, to_z-of_z}
use Rattle.std.specs.Int.{int_rem_euclid}
use Rattle.ams_value.specs.Values.{integer_ranged}
use Rattle.ams_value.proofs.Times.{modulus_by, modulus_back, fits_long}
use Rattle.ams_value.proofs.arithmetic.whole_modulus.Goals as goal

pub returns-then-b-gt0 : goal.returns-then-b-gt0
returns-then-b-gt0 c =
    let e : c.rem_euclid.result ≡ int_rem_euclid c.args.a c.args.b = grind (arith, to_z-of_z) in
    c.integer.ensures ∙ ap integer_ranged (omega (arith, ints)) ∙ modulus_by c.args.a c.args.b c.rem_euclid.result e (omega (arith, ints))

pub returns-else-b-gt0 : goal.returns-else-b-gt0
returns-else-b-gt0 c =
    let r : c.rem_euclid-else-b-gt0.result ≡ int_rem_euclid (neg_ℤ c.args.a) c.args.b = grind (arith, to_z-of_z, fits_long) in
    let e : neg_ℤ c.rem_euclid-else-b-gt0.result ≡ neg_ℤ (int_rem_euclid (neg_ℤ c.args.a) c.args.b) = ap neg_ℤ r in
    c.integer-else-b-gt0.ensures ∙ ap integer_ranged (omega (arith, ints)) ∙ modulus_back c.args.a c.args.b (neg_ℤ c.rem_euclid-else-b-gt0.result) e (omega (arith, ints))
