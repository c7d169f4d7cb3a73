use Rattle.cycle_machine.specs.RunLaws.{moving_keeps, moving_costs, moving_begins}
use Rattle.cycle_machine.proofs.moves_keep_the_run.Goals as goal

pub returns-clause-keeps : goal.returns-clause-keeps
returns-clause-keeps c = moving_keeps

pub returns-clause-costs : goal.returns-clause-costs
returns-clause-costs c = moving_costs

pub returns-clause-begins : goal.returns-clause-begins
returns-clause-begins c = moving_begins
