use Rattle.std.proofs.Common.{[], ap}
use Rattle.waveform.specs.Waveform.{Waveform}
use Rattle.driver_set.proofs.QueueSteps.{queue_set}
use Rattle.driver_set.proofs.queues.clear_at.Goals as goal

pub returns : goal.returns
returns c = queue_set c.args.drivers.now.items c.args.number c.new.result [] (ap (λ (w : Waveform). w.pending) c.new.ensures)
