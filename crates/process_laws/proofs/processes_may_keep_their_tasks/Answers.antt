use Rattle.process_laws.proofs.processes_may_keep_their_tasks.Goals as goal
use Rattle.process_laws.proofs.HeldOn.{runs_again}

pub returns : goal.returns
returns c = runs_again
