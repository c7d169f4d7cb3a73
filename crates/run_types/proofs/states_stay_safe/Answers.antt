-- The laws of states.
use Rattle.run_types.proofs.Safe.{start_is_safe, cycle_is_safe, next_is_later}
use Rattle.run_types.proofs.states_stay_safe.Goals as goal

pub returns-clause-start : goal.returns-clause-start
returns-clause-start c = start_is_safe

pub returns-clause-cycle : goal.returns-clause-cycle
returns-clause-cycle c = cycle_is_safe

pub returns-clause-next : goal.returns-clause-next
returns-clause-next c = next_is_later
