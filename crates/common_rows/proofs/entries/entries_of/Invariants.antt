use Rattle.std.proofs.Common.{◌≡◌, map, take}
use Rattle.common_rows.specs.Forms.{slope_by}
use Rattle.common_rows.specs.Entries.{entries_from}
use Rattle.common_rows.proofs.entries.entries_of.Given as goal

abbrev pub invariant-loop-form : goal.invariant-loop-form
invariant-loop-form l = l.all ≡ map (λ form. entries_from (slope_by form) 0 l.unknowns) (take l.form-index l.forms)
