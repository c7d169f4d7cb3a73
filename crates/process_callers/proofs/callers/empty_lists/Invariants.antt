use Rattle.std.proofs.Common.{◌≡◌, [], replicate}
use Rattle.process_callers.specs.Callers.{items_of}
use Rattle.process_callers.proofs.callers.empty_lists.Given as goal

abbrev pub invariant-loop : goal.invariant-loop
invariant-loop l = items_of l.lists.items ≡ replicate l.counter []
