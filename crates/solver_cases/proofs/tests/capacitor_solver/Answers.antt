use Rattle.solver_designs.proofs.Designs.{capacitor_is_kept}
use Rattle.solver_cases.proofs.tests.capacitor_solver.Goals as goal

pub new-requires : goal.new-requires
new-requires c = capacitor_is_kept c.args.flat.now c.requires
