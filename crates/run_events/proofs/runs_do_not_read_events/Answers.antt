-- The laws of events.
use Rattle.run_events.proofs.Alike.{run_alike}
use Rattle.run_events.proofs.All.{resumes_alike, runs_alike, starts_alike}
use Rattle.run_events.proofs.runs_do_not_read_events.Goals as goal

pub returns-clause-resumes : goal.returns-clause-resumes
returns-clause-resumes c = resumes_alike

pub returns-clause-run : goal.returns-clause-run
returns-clause-run c = run_alike

pub returns-clause-runs : goal.returns-clause-runs
returns-clause-runs c = runs_alike

pub returns-clause-starts : goal.returns-clause-starts
returns-clause-starts c = starts_alike
