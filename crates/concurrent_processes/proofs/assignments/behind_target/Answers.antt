use Rattle.unit_meaning.specs.Settings.{listed}
use Rattle.unit_meaning.specs.Processes as spec
use Rattle.concurrent_processes.specs.Assignments.{assignment_behind}
use Rattle.concurrent_processes.proofs.Pairs.{behind_made}
use Rattle.concurrent_processes.proofs.assignments.behind_target.Goals as goal

pub returns : goal.returns
unfolding assignment_behind
returns c =
    let first = listed (spec.conditional c.args.setting.now c.args.scope.now c.args.to.now c.args.delay.now) c.args.waveforms.now c.args.notes.now in
    let rest = spec.wave c.args.setting.now c.args.scope.now c.args.to.now c.args.delay.now c.args.last.now c.args.when.now first.0 in
    behind_made c.args.place c.args.to.now first.1 rest.1 c.in_ok-waves.waves rest.0 c.all_waves.new.notes c.finish.new.notes c.in_ok-made.made c.finish.result c.in_ok-waves.ensures.0 c.in_ok-waves.ensures.1 c.in_ok-made.ensures c.finish.ensures
