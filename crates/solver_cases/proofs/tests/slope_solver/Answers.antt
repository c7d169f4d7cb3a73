use Rattle.solver_designs.proofs.Designs.{slope_is_kept}
use Rattle.solver_cases.proofs.tests.slope_solver.Goals as goal

pub new-requires : goal.new-requires
new-requires c = slope_is_kept c.args.flat.now c.requires
