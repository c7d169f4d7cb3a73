use Rattle.again_laws.proofs.Reading.{expressions_break_alike}
use Rattle.again_laws.proofs.expressions_break_alike.Goals as goal

pub returns : goal.returns
returns c = expressions_break_alike
