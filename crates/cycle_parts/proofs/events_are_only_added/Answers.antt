-- Events are only added.
use Rattle.cycle_parts.proofs.Added.{runs_add, starts_add, cycles_add}
use Rattle.cycle_parts.proofs.events_are_only_added.Goals as goal

pub returns-clause-runs : goal.returns-clause-runs
returns-clause-runs c = runs_add

pub returns-clause-starts : goal.returns-clause-starts
returns-clause-starts c = starts_add

pub returns-clause-cycles : goal.returns-clause-cycles
returns-clause-cycles c = λ alike. cycles_add (runs_add alike)
