use Rattle.unit_meaning.specs.Settings.{listed}
use Rattle.unit_meaning.specs.Simultaneous as spec
use Rattle.equation_types.proofs.Steps.{listed_step}
use Rattle.equation_types.proofs.equations.pairs.Goals as goal

pub loop-equation-preserved : goal.loop-equation-preserved
loop-equation-preserved c =
    let rule = spec.pair c.args.setting.now c.args.scope.now in
    let step = listed_step rule c.args.equations.now c.loop-equation.equation-index c.equation-item.result c.loop-equation.notes c.pair.new.notes c.in_ok-one.one c.loop-equation.all c.in_ok-all.all (listed rule c.args.equations.now c.args.notes.now) c.equation-item.is c.loop-equation-test.true c.in_ok-one.ensures.0 c.in_ok-one.ensures.1 c.in_ok-all.ensures c.loop-equation.invariant.notes c.loop-equation.invariant.told in
    record { notes = step.0; told = step.1 }
