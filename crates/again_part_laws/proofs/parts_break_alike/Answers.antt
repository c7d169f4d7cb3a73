use Rattle.again_part_laws.proofs.Statements.{parts_break_alike}
use Rattle.again_part_laws.proofs.parts_break_alike.Goals as goal

pub returns : goal.returns
returns c = parts_break_alike
