use Rattle.std.proofs.Common.{◌≡◌}
use Rattle.threshold_set.proofs.Steps.{done}
use Rattle.frame_values.specs.Frames.{value_by}
use Rattle.frame_values.proofs.fill_frame.Given as goal

abbrev pub invariant-loop-k : goal.invariant-loop-k
invariant-loop-k l = l.out ≡ done (value_by l.signals l.thresholds l.timed) l.k l.names l.initial.out
