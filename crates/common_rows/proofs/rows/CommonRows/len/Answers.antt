use Rattle.std.proofs.Common.{length, ap, ◌∙◌}
use Rattle.common_rows.specs.Forms.{structural_set}
use Rattle.common_rows.proofs.Structural.{count_is}
use Rattle.common_rows.proofs.rows.CommonRows.len.Goals as goal

pub returns : goal.returns
returns c = c.len.ensures ∙ count_is c.self.inside.flat.now c.self.inside.forms c.self.invariant.forms_are ∙ ap (λ o. length (structural_set o)) c.self.view_is
