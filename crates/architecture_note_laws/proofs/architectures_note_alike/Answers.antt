use Rattle.architecture_note_laws.proofs.Walked.{architectures_note_alike}
use Rattle.architecture_note_laws.proofs.architectures_note_alike.Goals as goal

pub returns : goal.returns
returns c = architectures_note_alike
