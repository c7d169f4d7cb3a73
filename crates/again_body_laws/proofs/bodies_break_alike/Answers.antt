use Rattle.again_body_laws.proofs.Bodies.{bodies_break_alike}
use Rattle.again_body_laws.proofs.bodies_break_alike.Goals as goal

pub returns : goal.returns
returns c = bodies_break_alike
