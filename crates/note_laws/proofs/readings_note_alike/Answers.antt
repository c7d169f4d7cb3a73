use Rattle.note_laws.proofs.Reading.{readings_note_alike}
use Rattle.note_laws.proofs.readings_note_alike.Goals as goal

pub returns : goal.returns
returns c = readings_note_alike
