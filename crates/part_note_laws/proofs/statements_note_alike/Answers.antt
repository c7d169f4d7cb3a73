use Rattle.part_note_laws.proofs.Statements.{statements_note_alike}
use Rattle.part_note_laws.proofs.statements_note_alike.Goals as goal

pub returns : goal.returns
returns c = statements_note_alike
