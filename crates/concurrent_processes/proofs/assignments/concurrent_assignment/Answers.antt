use Rattle.concurrent_processes.proofs.Targets.{assignment_found}
use Rattle.concurrent_processes.proofs.assignments.concurrent_assignment.Goals as goal

pub returns-in-Ok : goal.returns-in-Ok
returns-in-Ok c =
    assignment_found c.args.setting.now c.args.scope.now c.args.name c.args.delay.now c.args.waveforms.now c.args.last.now c.args.when.now c.args.notes.now c.target.new.notes c.behind_target.new.notes c.in-Ok.to c.behind_target.result c.in-Ok.ensures.0 c.in-Ok.ensures.1 c.behind_target.ensures
