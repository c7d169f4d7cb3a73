use Rattle.alike_processes.proofs.Processes.{concurrent_statements_follow}
use Rattle.alike_processes.proofs.concurrent_statements_follow.Goals as goal

pub returns : goal.returns
returns c = concurrent_statements_follow
