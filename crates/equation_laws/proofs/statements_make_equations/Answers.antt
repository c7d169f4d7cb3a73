use Rattle.equation_laws.proofs.Equations.{statements_make_equations}
use Rattle.equation_laws.proofs.statements_make_equations.Goals as goal

pub returns : goal.returns
returns c = statements_make_equations
