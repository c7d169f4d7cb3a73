use Rattle.again_process_laws.proofs.Whole.{statements_break_alike}
use Rattle.again_process_laws.proofs.statements_break_alike.Goals as goal

pub returns : goal.returns
returns c = statements_break_alike
