use Rattle.unit_meaning.specs.Processes as spec
use Rattle.unit_meaning.specs.Settings.{listed}
use Rattle.conditional_waves.proofs.Steps.{listed_step}
use Rattle.conditional_waves.proofs.waves.conditionals.Goals as goal

pub loop-waveform-preserved : goal.loop-waveform-preserved
loop-waveform-preserved c =
    let step = listed_step (spec.conditional c.args.setting.now c.args.scope.now c.args.to.now c.args.delay.now) c.args.waveforms.now c.loop-waveform.waveform-index c.waveform-item.result c.loop-waveform.notes c.conditional.new.notes c.loop-waveform.all c.in_ok-all.all c.in_ok-one.one (listed (spec.conditional c.args.setting.now c.args.scope.now c.args.to.now c.args.delay.now) c.args.waveforms.now c.args.notes.now) c.loop-waveform-test.true c.waveform-item.is c.in_ok-one.ensures.0 c.in_ok-one.ensures.1 c.in_ok-all.ensures c.loop-waveform.invariant.notes c.loop-waveform.invariant.told in
    record { notes = step.0; told = step.1 }
