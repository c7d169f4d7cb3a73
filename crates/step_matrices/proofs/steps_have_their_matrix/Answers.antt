use Rattle.step_matrices.proofs.Whole.{steps_have_their_matrix}
use Rattle.step_matrices.proofs.steps_have_their_matrix.Goals as goal

pub returns : goal.returns
returns c = steps_have_their_matrix
