use Rattle.solver_designs.proofs.Designs.{level_is_kept}
use Rattle.solver_cases.proofs.tests.level_solver.Goals as goal

pub new-requires : goal.new-requires
new-requires c = level_is_kept c.args.flat.now c.requires
