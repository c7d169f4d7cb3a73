use Rattle.concurrent_laws.proofs.Concurrent.{concurrent_statements_are_made}
use Rattle.concurrent_laws.proofs.concurrent_statements_are_made.Goals as goal

pub returns : goal.returns
returns c = concurrent_statements_are_made
