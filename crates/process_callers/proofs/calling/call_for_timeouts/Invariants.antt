use Rattle.process_callers.proofs.Hearing.{IsCalling, how_many}
use Rattle.process_callers.proofs.calling.call_for_timeouts.Given as goal

abbrev pub invariant-loop-process : goal.invariant-loop-process
invariant-loop-process l = IsCalling l.now l.initial.timeouts l.initial.called.items l.timeouts l.called.items

abbrev pub decreases-loop-process : goal.decreases-loop-process
decreases-loop-process l = how_many l.now l.timeouts
