use Rattle.std.proofs.Common.{◌∙◌}
use Rattle.flat_design.proofs.OrderLaws.{laws}
use Rattle.equation_system.proofs.Keeping.{branches_kept}
use Rattle.equation_system.proofs.posed.PosedSetEquationSet.residuals.Goals as goal

pub values-values-requires-clause-point : goal.values-values-requires-clause-point
values-values-requires-clause-point c = c.requires.point ∙ laws.count c.args.self.now.system.now

pub write_residuals-requires-clause-branches : goal.write_residuals-requires-clause-branches
write_residuals-requires-clause-branches c = branches_kept c.args.self.now.system.now.equations c.args.self.now.branches.now c.args.self.now.are_branches

pub write_residuals-requires-clause-room : goal.write_residuals-requires-clause-room
write_residuals-requires-clause-room c = c.requires.room ∙ laws.count c.args.self.now.system.now
