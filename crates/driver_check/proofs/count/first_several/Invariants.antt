use Rattle.std.proofs.Common.{◌≡◌, drop}
use Rattle.std.specs.List.{position_from}
use Rattle.driver_check.specs.Counts.{is_several}
use Rattle.driver_check.proofs.count.first_several.Given as goal

abbrev pub invariant-loop-signal : goal.invariant-loop-signal
invariant-loop-signal l = position_from is_several l.signal (drop l.signal l.counts) ≡ position_from is_several 0 l.counts
