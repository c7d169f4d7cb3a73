use Rattle.std.proofs.Common.{◌≡◌}
use Rattle.threshold_set.proofs.Steps.{done}
use Rattle.flat_design.specs.Reads.{frame_of}
use Rattle.cycle_meaning.specs.Cycles.{first_digital, value_in}
use Rattle.first_frame.proofs.fill_first_frame.Given as goal

abbrev pub invariant-loop-k : goal.invariant-loop-k
invariant-loop-k l = l.out ≡ done (value_in (first_digital l.flat)) l.k (frame_of l.flat) l.initial.out
