use Rattle.std.proofs.Common.{refl}
use Rattle.layer_rows.proofs.Worked.{ratio_is_evaluable}
use Rattle.layer_rows.proofs.slopes.slopes_at.Goals as goal

pub slopes-requires-clause-evaluable : goal.slopes-requires-clause-evaluable
slopes-requires-clause-evaluable c = ratio_is_evaluable _ _ refl c.requires.time c.requires.quotient
