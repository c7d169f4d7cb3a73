use Rattle.process_note_laws.proofs.Processes.{concurrent_statements_note_alike}
use Rattle.process_note_laws.proofs.concurrent_statements_note_alike.Goals as goal

pub returns : goal.returns
returns c = concurrent_statements_note_alike
