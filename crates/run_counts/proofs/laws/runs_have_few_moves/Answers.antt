use Rattle.run_counts.specs.FewMoves.{runs_have_few_moves}
use Rattle.run_counts.proofs.laws.runs_have_few_moves.Goals as goal

pub returns : goal.returns
returns c = runs_have_few_moves
