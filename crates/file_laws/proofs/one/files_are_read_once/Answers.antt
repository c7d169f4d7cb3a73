use Rattle.file_laws.proofs.Faults.{read_once}
use Rattle.file_laws.proofs.one.files_are_read_once.Goals as goal

pub returns : goal.returns
returns c = read_once
