use Rattle.count_laws.proofs.Whole.{equations_match_unknowns}
use Rattle.count_laws.proofs.equations_match_unknowns.Goals as goal

pub returns : goal.returns
returns c = equations_match_unknowns
