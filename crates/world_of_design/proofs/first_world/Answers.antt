use Rattle.world_of_design.proofs.Known.{driven_few}
use Rattle.world_of_design.proofs.first_world.Goals as goal

pub drivers_of-requires : goal.drivers_of-requires
drivers_of-requires c = rw c.in_ok-numbers.ensures (driven_few c.args.flat.now c.requires)
