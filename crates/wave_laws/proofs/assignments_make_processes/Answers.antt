use Rattle.wave_laws.proofs.Whole.{assignments_make_processes}
use Rattle.wave_laws.proofs.assignments_make_processes.Goals as goal

pub returns : goal.returns
returns c = assignments_make_processes
