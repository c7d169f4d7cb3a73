use Rattle.std.proofs.Common.{length}
use Rattle.driving_values.proofs.Steps.{how_many}
use Rattle.driving_values.proofs.Loop.{Driving}
use Rattle.driving_values.proofs.drive.Given as goal

abbrev pub invariant-loop-number : goal.invariant-loop-number
invariant-loop-number l =
    Driving l.t l.n (length l.fn.signals.values) l.numbers l.initial.drivers l.fn.signals.values l.initial.out l.drivers l.signals.values l.signals.events l.out

abbrev pub decreases-loop-number : goal.decreases-loop-number
decreases-loop-number l = how_many l.t l.drivers
