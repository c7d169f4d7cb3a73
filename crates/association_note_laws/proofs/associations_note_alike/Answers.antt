use Rattle.association_note_laws.proofs.Maps.{associations_note_alike}
use Rattle.association_note_laws.proofs.associations_note_alike.Goals as goal

pub returns : goal.returns
returns c = associations_note_alike
