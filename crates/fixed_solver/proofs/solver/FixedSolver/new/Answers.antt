-- The sets are those of the design.
use Rattle.std.proofs.Common.{subst, sym}
use Rattle.flat_design.specs.declared.objects.Objects.{Objects}
use Rattle.fixed_solver.specs.Solves.{SolvesAs}
use Rattle.fixed_solver.proofs.solver.FixedSolver.new.Goals as goal

pub invariant_of-result : goal.invariant_of-result
invariant_of-result g c = subst (λ (o : Objects). SolvesAs (g.D.Design.system 0) o c.args.options.now) (sym c.in_ok-sets.ensures) c.requires.system
