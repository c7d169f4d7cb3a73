use Rattle.reading_laws.proofs.Reading.{reading_adds_notes}
use Rattle.reading_laws.proofs.reading_adds_notes.Goals as goal

pub returns : goal.returns
returns c = reading_adds_notes
