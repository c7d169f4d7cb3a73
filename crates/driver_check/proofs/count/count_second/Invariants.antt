use Rattle.std.proofs.Common.{◌≡◌, drop}
use Rattle.std.specs.List.{fold}
use Rattle.driver_check.specs.Counts.{changed, second}
use Rattle.driver_check.proofs.count.count_second.Given as goal

abbrev pub invariant-loop-signal : goal.invariant-loop-signal
invariant-loop-signal l = fold (changed second) l.counts (drop l.signal-index l.signals) ≡ fold (changed second) l.fn.counts l.signals
