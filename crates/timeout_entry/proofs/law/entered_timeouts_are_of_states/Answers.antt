-- The laws of timeouts that are entered.
use Rattle.timeout_entry.proofs.States.{starts_entered, runs_entered}
use Rattle.timeout_entry.proofs.law.entered_timeouts_are_of_states.Goals as goal

pub returns-clause-starts : goal.returns-clause-starts
returns-clause-starts c = starts_entered

pub returns-clause-runs : goal.returns-clause-runs
returns-clause-runs c = runs_entered c.timeouts_are_entered.ensures
