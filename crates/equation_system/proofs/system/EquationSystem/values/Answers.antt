use Rattle.std.proofs.Common.{◌≤◌, sym, subst, arith}
use Rattle.std.specs.List.{All}
use Rattle.fix_core.specs.Units.{most_ticks}
use Rattle.flat_design.specs.declared.objects.Objects.{Objects}
use Rattle.design_meaning.specs.Readings.{Readings}
use Rattle.equation_values.specs.Evaluable.{IsFrame, CanEvaluateEquation}
use Rattle.equation_values.specs.Reading.{readings_in}
use Rattle.equation_system.proofs.system.EquationSystem.values.Goals as goal

pub returns-clause-evaluable : goal.returns-clause-evaluable
returns-clause-evaluable c =
    let objects = c.self.inside.reader in
    let early : c.args.time ≤ most_ticks = omega (arith, c.get-ticks.ensures.value, c.get-ticks.ensures.bound) in
    let F : Objects → Type 0 = λ o. IsFrame o c.args.frame.now in
    let can = c.equations_can_be_evaluated.ensures objects c.self.invariant.design c.args.frame.now (subst F (sym c.self.view_is) c.requires.frame) c.args.kind c.args.time early c.args.point.now in
    let P : Readings → Type 0 = λ r. All (CanEvaluateEquation r) objects.equations in
    let Q : Objects → Type 0 = λ o. All (CanEvaluateEquation (readings_in c.values.result)) o.equations in
    subst Q c.self.view_is (subst P (sym c.values.ensures) can)
