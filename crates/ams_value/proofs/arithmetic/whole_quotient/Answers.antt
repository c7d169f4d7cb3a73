use Rattle.std.proofs.Common.{◌∙◌, ap, arith}
use Rattle.std.proofs.lemmas.Int.{ints, quot_is}
use Rattle.std.specs.Int.{w64}
use Rattle.ams_value.specs.Values.{integer_ranged}
use Rattle.ams_value.proofs.Times.{quotient_some, quotient_fits}
use Rattle.ams_value.proofs.arithmetic.whole_quotient.Goals as goal

pub returns : goal.returns
returns c =
    let a = c.args.a in
    let b = c.args.b in
    c.integer.ensures ∙ ap integer_ranged (quot_is w64 a b c.ranges.a c.ranges.b (quotient_fits a b c.requires)) ∙ quotient_some a b (omega (arith, ints))
