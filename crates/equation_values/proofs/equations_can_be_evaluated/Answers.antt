use Rattle.equation_values.proofs.Frames.{equations}
use Rattle.equation_values.proofs.equations_can_be_evaluated.Goals as goal

pub returns : goal.returns
returns c = equations
