use Rattle.std.proofs.Common.{◌≡◌, map, take}
use Rattle.threshold_set.specs.Crossed.{off}
use Rattle.threshold_set.proofs.ThresholdSet.new.Given as goal

abbrev pub invariant-loop-threshold : goal.invariant-loop-threshold
invariant-loop-threshold l = l.list ≡ map off (take l.threshold-index l.thresholds)
