use Rattle.std.proofs.Common.{◌≡◌}
use Rattle.port_io.proofs.standard.StdSourceSource.read.Given as goal

-- no fault is counted so far
abbrev pub invariant-loop-turn : goal.invariant-loop-turn
invariant-loop-turn g l = l.self.faults ≡ l.initial.self.faults
