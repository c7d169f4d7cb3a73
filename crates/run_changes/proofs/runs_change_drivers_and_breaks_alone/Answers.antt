-- The laws of a run.
use Rattle.run_changes.proofs.Running.{runs_change, starts_change}
use Rattle.run_changes.proofs.runs_change_drivers_and_breaks_alone.Goals as goal

pub returns-clause-runs : goal.returns-clause-runs
returns-clause-runs c = runs_change

pub returns-clause-starts : goal.returns-clause-starts
returns-clause-starts c = starts_change
