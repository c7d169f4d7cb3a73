use Rattle.made_laws.proofs.Whole.{processes_are_made}
use Rattle.made_laws.proofs.processes_are_made.Goals as goal

pub returns : goal.returns
returns c = processes_are_made
