use Rattle.std.proofs.Common.{length}
use Rattle.process_stack.proofs.stack.ProcessStack.+leave_loop.Given as goal

abbrev pub decreases-leave_loop : goal.decreases-leave_loop
decreases-leave_loop l = length l.self.now.frames
