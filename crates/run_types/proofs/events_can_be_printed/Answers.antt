-- The laws of printing.
use Rattle.run_types.proofs.Printing.{start_is_printable, cycle_is_printable}
use Rattle.run_types.proofs.events_can_be_printed.Goals as goal

pub returns-clause-start : goal.returns-clause-start
returns-clause-start c = start_is_printable

pub returns-clause-cycle : goal.returns-clause-cycle
returns-clause-cycle c = cycle_is_printable
