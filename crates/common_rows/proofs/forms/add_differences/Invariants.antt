use Rattle.std.proofs.Common.{◌≡◌, ◌++◌, drop}
use Rattle.common_rows.specs.Forms.{difference_forms}
use Rattle.common_rows.proofs.forms.add_differences.Given as goal

abbrev pub invariant-loop-i : goal.invariant-loop-i
invariant-loop-i l = l.fn.forms ++ difference_forms 0 l.quantities ≡ l.forms ++ difference_forms l.i (drop l.i l.quantities)
