-- A rounded ratio of magnitudes with the sign of both is the answer.
use Rattle.std.proofs.Common.{sym, arith}
use Rattle.number_ratio.specs.Ratios.{factor_of, divisor_of}
use Rattle.number_ratio.proofs.Signs.{answer_is}
use Rattle.number_ratio.proofs.Ratio.times.Goals as goal

pub returns-in-Some : goal.returns-in-Some
returns-in-Some c =
    let r = c.self.inside in
    rw (c.with_sign.ensures, sym c.self.view_is) (answer_is r.divides r.value c.args.p (factor_of r.way) (divisor_of r.way) c.in-Some.magnitude c.sign_with.result c.in-Some.ensures.some c.self.invariant.1 (c.sign_with.ensures r.value c.self.invariant.0) (rw (sym c.magnitude.ensures.value) c.in-Some.ensures.value) (omega arith))
