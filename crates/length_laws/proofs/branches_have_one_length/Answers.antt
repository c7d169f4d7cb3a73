use Rattle.length_laws.proofs.Lengths.{branches_have_one_length}
use Rattle.length_laws.proofs.branches_have_one_length.Goals as goal

pub returns : goal.returns
returns c = branches_have_one_length
