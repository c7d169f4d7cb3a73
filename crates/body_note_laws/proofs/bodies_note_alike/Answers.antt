use Rattle.body_note_laws.proofs.Bodies.{bodies_note_alike}
use Rattle.body_note_laws.proofs.bodies_note_alike.Goals as goal

pub returns : goal.returns
returns c = bodies_note_alike
