use Rattle.constant_slopes.proofs.Whole.{constant_is_the_slope}
use Rattle.constant_slopes.proofs.constant_is_the_slope.Goals as goal

pub returns : goal.returns
returns c = constant_is_the_slope
