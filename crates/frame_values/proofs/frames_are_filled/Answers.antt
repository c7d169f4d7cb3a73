use Rattle.frame_values.proofs.Laws.{frames}
use Rattle.frame_values.proofs.frames_are_filled.Goals as goal

pub returns : goal.returns
returns c = frames
