use Rattle.statement_laws.proofs.Statements.{statement_parts_fit}
use Rattle.statement_laws.proofs.statement_parts_fit.Goals as goal

pub returns : goal.returns
returns c = statement_parts_fit
