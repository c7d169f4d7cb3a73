use Rattle.std.proofs.Common.{ap}
use Rattle.waveform.specs.Waveform.{Waveform}
use Rattle.driver_set.proofs.QueueSteps.{idle_more}
use Rattle.driver_set.proofs.queues.idle_drivers.Goals as goal

pub loop-preserved : goal.loop-preserved
loop-preserved c =
    rw c.in_ok-push.ensures.items (idle_more c.loop.drivers.items c.loop.counter c.new.result c.loop.invariant (ap (λ (w : Waveform). w.pending) c.new.ensures))
