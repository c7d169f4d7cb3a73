use Rattle.std.proofs.Common.{[], ◌∷◌, sym, subst}
use Rattle.flat_design.specs.declared.objects.Equation.{Equation}
use Rattle.step_matrices.specs.Linear.{AreLinear}
use Rattle.step_matrices.proofs.linear.is_linear.Goals as goal

pub returns-in-Pair : goal.returns-in-Pair
returns-in-Pair c = λ h. subst (λ (e : Equation). AreLinear c.args.unknowns.now (e ∷ [])) (sym c.in-Pair.is) (c.has_constants.ensures h, tt)
