use Rattle.std.proofs.Common.{◌≡◌, ◌++◌, drop}
use Rattle.common_rows.specs.Forms.{slope_by}
use Rattle.common_rows.specs.Entries.{entries_from}
use Rattle.common_rows.proofs.entries.form_entries.Given as goal

abbrev pub invariant-loop-i : goal.invariant-loop-i
invariant-loop-i l = entries_from (slope_by l.form) 0 l.unknowns ≡ l.entries ++ entries_from (slope_by l.form) l.i (drop l.i l.unknowns)
