use Rattle.concurrent_processes.proofs.Made.{process_made}
use Rattle.concurrent_processes.proofs.assignments.assigning_process.Goals as goal

pub returns : goal.returns
returns c = process_made c.args.signal c.args.first c.args.last c.in_ok-reads.reads c.in_ok-statement.statement c.driver_process.result c.in_ok-reads.ensures c.in_ok-statement.ensures c.driver_process.ensures
