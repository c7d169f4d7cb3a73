-- The reduced ratio is that of the two terms.
use Rattle.std.proofs.Common.{◌/◌}
use Rattle.number_ratio.specs.Ratios.{factor_of, divisor_of}
use Rattle.number_ratio.proofs.Naturals.{scaled_up}
use Rattle.number_ratio.proofs.chosen.prepared.Goals as goal

pub returns : goal.returns
returns c =
    let g = c.from-common.result in
    let way = c.reduced.result in
    scaled_up (factor_of way) (divisor_of way) (c.args.numerator / g) (c.args.denominator / g) g c.args.numerator c.args.denominator c.reduced.ensures c.if-factor-common.false c.if-divisor-common.false
