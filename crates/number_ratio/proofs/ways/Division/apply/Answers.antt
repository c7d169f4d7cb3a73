-- The exact division by the reciprocal, of the dividend with half the divisor.
use Rattle.std.proofs.Common.{◌*◌, arith}
use Rattle.number_ratio.proofs.Naturals.{division, below_last}
use Rattle.number_ratio.proofs.ways.Division.apply.Goals as goal

pub returns : goal.returns
returns c =
    let s = c.args.self in
    rw (c.from.ensures, c.from-2.ensures) (division (c.args.u * s.factor) s.divisor s.reciprocal s.shift s.half s.positive s.above s.near s.wide (omega (arith, s.room, s.halved, below_last c.args.u s.factor s.last c.requires)) s.halved)
