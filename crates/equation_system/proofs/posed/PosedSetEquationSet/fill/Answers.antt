use Rattle.std.proofs.Common.{◌∙◌}
use Rattle.flat_design.proofs.OrderLaws.{laws}
use Rattle.equation_system.proofs.Keeping.{branches_kept}
use Rattle.equation_system.proofs.posed.PosedSetEquationSet.fill.Goals as goal

pub values-values-requires-clause-point : goal.values-values-requires-clause-point
values-values-requires-clause-point c = c.requires.point ∙ laws.count c.args.self.now.system.now

pub fill-requires-clause-branches : goal.fill-requires-clause-branches
fill-requires-clause-branches c = branches_kept c.args.self.now.system.now.equations c.args.self.now.branches.now c.args.self.now.are_branches

pub fill-requires-clause-size : goal.fill-requires-clause-size
fill-requires-clause-size c = c.requires.size ∙ laws.count c.args.self.now.system.now
