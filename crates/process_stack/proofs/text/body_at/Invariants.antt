use Rattle.std.proofs.Common.{◌≡◌, take}
use Rattle.process_laws.specs.Resumed.{body_in}
use Rattle.process_stack.specs.Stacks.{round_of}
use Rattle.process_stack.proofs.text.body_at.Given as goal

-- the list that the first frames lead to
abbrev pub invariant-loop-frame : goal.invariant-loop-frame
invariant-loop-frame l = l.body ≡ body_in l.text (round_of l.text (take l.frame-index l.frames))
