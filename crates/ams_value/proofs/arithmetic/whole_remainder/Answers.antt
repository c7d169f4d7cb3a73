use Rattle.std.proofs.Common.{◌∙◌, ap, arith}
use Rattle.std.proofs.lemmas.Int.{ints, rem_is}
use Rattle.std.specs.Int.{w64}
use Rattle.ams_value.specs.Values.{integer_ranged}
use Rattle.ams_value.proofs.Times.{remainder_some}
use Rattle.ams_value.proofs.arithmetic.whole_remainder.Goals as goal

pub returns : goal.returns
returns c = c.integer.ensures ∙ ap integer_ranged (rem_is w64 c.args.a c.args.b c.ranges.a c.ranges.b) ∙ remainder_some c.args.a c.args.b (omega (arith, ints))
