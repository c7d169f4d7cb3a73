use Rattle.std.proofs.Common.{sym, ◌∙◌}
use Rattle.kept_rows.proofs.Quotients.{zero_over}
use Rattle.kept_rows.proofs.column.quotient.Goals as goal

pub returns-then-magnitude-eq0 : goal.returns-then-magnitude-eq0
returns-then-magnitude-eq0 c = sym (zero_over c.args.number c.args.divisor (sym c.magnitude.ensures.value ∙ c.if-magnitude-eq0.true) c.requires)
