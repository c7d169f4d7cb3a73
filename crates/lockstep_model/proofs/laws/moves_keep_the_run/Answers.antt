use Rattle.lockstep_model.specs.WalkLaws.{moved_keeps}
use Rattle.lockstep_model.proofs.laws.moves_keep_the_run.Goals as goal

pub returns : goal.returns
returns c = moved_keeps
