use Rattle.alike_bodies.proofs.Bodies.{bodies_follow}
use Rattle.alike_bodies.proofs.bodies_follow.Goals as goal

pub returns : goal.returns
returns c = bodies_follow
