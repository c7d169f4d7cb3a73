use Rattle.process_laws.proofs.kept_tasks_belong_to_the_state.Goals as goal
use Rattle.process_laws.proofs.KeptOn.{kept_runs, kept_again, kept_from_start}

pub returns-clause-runs : goal.returns-clause-runs
returns-clause-runs c = kept_runs

pub returns-clause-again : goal.returns-clause-again
returns-clause-again c = kept_again

pub returns-clause-start : goal.returns-clause-start
returns-clause-start c = kept_from_start
