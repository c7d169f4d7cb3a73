use Rattle.std.proofs.Common.{length}
use Rattle.process_stack.proofs.stack.ProcessStack.+end_turn.Given as goal

abbrev pub decreases-end_turn : goal.decreases-end_turn
decreases-end_turn l = length l.self.now.frames
