use Rattle.std.proofs.Common.{◌≡◌}
use Rattle.common_rows.specs.Forms.{sum_forms}
use Rattle.common_rows.proofs.forms.sum_forms.Given as goal

abbrev pub invariant-loop-node : goal.invariant-loop-node
invariant-loop-node l = l.forms ≡ sum_forms l.quantities l.node
