use Rattle.prepared_pairs.proofs.Whole.{constant_is_the_row_slope}
use Rattle.prepared_pairs.proofs.constant_is_the_row_slope.Goals as goal

pub returns : goal.returns
returns c = constant_is_the_row_slope
