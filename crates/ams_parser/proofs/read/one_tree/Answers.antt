use Rattle.parse_steps.proofs.Answering.{one_tree}
use Rattle.ams_parser.proofs.Called.{answering}
use Rattle.ams_parser.proofs.read.one_tree.Goals as goal

pub returns : goal.returns
returns c = one_tree answering
