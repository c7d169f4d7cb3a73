use Rattle.cycle_machine.specs.Ready.{ready_is, ready_ready}
use Rattle.cycle_machine.proofs.decisions_are_few.Goals as goal

pub returns-clause-run : goal.returns-clause-run
returns-clause-run c = ready_is

pub returns-clause-ready : goal.returns-clause-ready
returns-clause-ready c = ready_ready
