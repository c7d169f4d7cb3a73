use Rattle.std.proofs.Common.{◌≡◌, ◌++◌, ◌-◌, take, drop}
use Rattle.std.specs.List.{flat_map}
use Rattle.process_callers.specs.Calling.{heard}
use Rattle.process_callers.proofs.calling.call_for_events.Given as goal

abbrev pub invariant-loop-k : goal.invariant-loop-k
invariant-loop-k l = l.called.items ≡ l.initial.called.items ++ flat_map (heard l.callers) (take (l.k - l.from) (drop l.from l.events))
