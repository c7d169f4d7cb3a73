use Rattle.std.proofs.Common.{◌≡◌, ◌++◌, ◌-◌}
use Rattle.step_schedule.specs.Letters.{letters}
use Rattle.step_schedule.proofs.schedule.Given as goal

abbrev pub invariant-loop-k : goal.invariant-loop-k
invariant-loop-k l =
    record { left : l.steps.items ++ letters l.state (l.len - l._k) ≡ letters l.seed l.len }
