use Rattle.std.proofs.Common.{length}
use Rattle.process_control.proofs.next.+coming_from.Given as goal

abbrev pub decreases-coming_from : goal.decreases-coming_from
decreases-coming_from g l = length l.stack.now.frames
