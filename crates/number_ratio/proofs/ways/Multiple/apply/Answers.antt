use Rattle.std.proofs.Common.{◌*◌}
use Rattle.number_ratio.proofs.Naturals.{by_one}
use Rattle.number_ratio.proofs.ways.Multiple.apply.Goals as goal

pub returns : goal.returns
returns c = by_one (c.args.u * c.args.self.factor)
