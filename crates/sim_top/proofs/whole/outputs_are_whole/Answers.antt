use Rattle.sim_top.proofs.WholeLaws.{outputs_are_whole}
use Rattle.sim_top.proofs.whole.outputs_are_whole.Goals as goal

pub returns : goal.returns
returns c = outputs_are_whole c.texts_are_read_once.ensures
