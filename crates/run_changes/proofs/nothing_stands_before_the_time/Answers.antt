-- The laws of times.
use Rattle.run_changes.proofs.Times.{begun_is_late, runs_are_late, starts_are_late, start_is_late, cycle_is_late, next_is_not_before}
use Rattle.run_changes.proofs.nothing_stands_before_the_time.Goals as goal

pub returns-clause-begun : goal.returns-clause-begun
returns-clause-begun c = begun_is_late

pub returns-clause-runs : goal.returns-clause-runs
returns-clause-runs c = runs_are_late

pub returns-clause-starts : goal.returns-clause-starts
returns-clause-starts c = starts_are_late

pub returns-clause-start : goal.returns-clause-start
returns-clause-start c = start_is_late

pub returns-clause-cycle : goal.returns-clause-cycle
returns-clause-cycle c = cycle_is_late

pub returns-clause-next : goal.returns-clause-next
returns-clause-next c = next_is_not_before
