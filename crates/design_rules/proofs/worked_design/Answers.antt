use Rattle.design_rules.proofs.Worked.{worked_is_design}
use Rattle.design_rules.proofs.worked_design.Goals as goal

pub returns : goal.returns
returns c = worked_is_design
