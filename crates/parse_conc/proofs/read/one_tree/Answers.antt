use Rattle.parse_steps.proofs.Answering.{one_tree}
use Rattle.parse_conc.proofs.Called.{answering}
use Rattle.parse_conc.proofs.read.one_tree.Goals as goal

pub returns : goal.returns
returns c = one_tree answering
