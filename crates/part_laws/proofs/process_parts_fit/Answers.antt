use Rattle.part_laws.proofs.Process.{process_parts_fit}
use Rattle.part_laws.proofs.process_parts_fit.Goals as goal

pub returns : goal.returns
returns c = process_parts_fit
